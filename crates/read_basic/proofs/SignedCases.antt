-- The readers of the signed part's fields, from producedAt on and from the responder id on: each reads an
-- element and then the rest, as MoreReads has it. The version before them is in VersionCases.
-- moved, moved_inside; produced_more, fields_more; produced_cases, fields_cases.
-- Assumes nothing.
use Prim.Native.Nat.{ℕ, ◌+◌, ◌-◌, ◌≤◌}
use native.Mathlib.Omega.{arith}
use mathlib.Core.Path.{◌≡◌, refl}
use mathlib.Core.List.{List}
use Rattle.std.specs.Prelude.{Ok, Err}
use lib.ListN.{length, length-append, take, drop}
use Rattle.octets.specs.LentLaws.{Known}
use Rattle.element.specs.Places.{misfit}
use Rattle.element.specs.declared.Misfit.{Misfit}
use Rattle.codec.specs.Views.{step_of}
use Rattle.layout.proofs.ElementKinds.{time}
use Rattle.layout.proofs.Format.{responder_id, signed_fields}
use Rattle.read_ending.specs.Ends.{extensions_on}
use Rattle.read_basic.specs.Views.{listed, inside, responses_on, produced_on, listed_of, produced_of, inside_at, inside_fields}
use Rattle.read_basic.specs.MoreReads.{MoreRead, reads_wrong, reads_end, reads_place, reads_broken, reads_start, reads_moved}
use Rattle.read_basic.specs.declared.signed.Listed.{Listed}
use Rattle.read_basic.specs.declared.Inside.{Inside}

-- the same entries n octets further on
abbrev pub moved : ℕ → Listed → Listed
moved n x = listed (n + x.start) x.len x.count

-- after a responder id of n octets
abbrev pub moved_inside : ℕ → Listed → Inside
moved_inside n x = inside 0 n (n + x.start) x.len x.count

-- producedAt, then the rest
pub produced_more : MoreRead time responses_on listed_of (λ s. produced_of (produced_on.dec s)) moved (λ x. x.start)
unfolding produced_on responses_on listed_of produced_of
produced_more = record {
  both = produced_of;
  same = λ s. refl;
  wrong = λ p. refl;
  holds = λ a b. refl;
  breaks = λ n p. refl;
  holds_in = λ b. simp length-append (omega arith);
  breaks_in = λ p. omega arith;
}

-- the responder id, then the rest
pub fields_more : MoreRead responder_id produced_on produced_of (λ s. inside_fields (signed_fields.dec s)) moved_inside (λ x. x.start)
unfolding signed_fields produced_on responses_on extensions_on produced_of inside_fields inside_at
fields_more = record {
  both = inside_fields;
  same = λ s. refl;
  wrong = λ p. refl;
  holds = λ a b. refl;
  breaks = λ n p. refl;
  holds_in = λ b. simp length-append (omega arith);
  breaks_in = λ p. omega arith;
}

-- ── producedAt, then the entries and maybe extensions ──
module _ (s : List ℕ) where
  pub produced_err : (p : Misfit) → step_of (time.dec s) ≡ Err p → produced_of (produced_on.dec s) ≡ Err p
  produced_err = reads_wrong produced_more s

  module _ (n : ℕ) (f : step_of (time.dec s) ≡ Ok n) where
    pub produced_end : n ≤ length s
    produced_end = reads_end produced_more s n f

    module _ (known : Known s) where
      pub produced_place : (p : Misfit) → listed_of (responses_on.dec (take (length s - n) (drop n s))) ≡ Err p → n + p.place ≤ length s
      produced_place = reads_place produced_more s n f known

      pub produced_broken : (p : Misfit) → listed_of (responses_on.dec (take (length s - n) (drop n s))) ≡ Err p → produced_of (produced_on.dec s) ≡ Err (misfit (n + p.place))
      produced_broken = reads_broken produced_more s n f known

      pub produced_start : (k : Listed) → listed_of (responses_on.dec (take (length s - n) (drop n s))) ≡ Ok k → n + k.start ≤ length s
      produced_start = reads_start produced_more s n f known

      pub produced_found : (k : Listed) → listed_of (responses_on.dec (take (length s - n) (drop n s))) ≡ Ok k → produced_of (produced_on.dec s) ≡ Ok (listed (n + k.start) k.len k.count)
      produced_found = reads_moved produced_more s n f known

-- ── the responder id, then producedAt and the rest ──
module _ (s : List ℕ) where
  pub fields_err : (p : Misfit) → step_of (responder_id.dec s) ≡ Err p → inside_fields (signed_fields.dec s) ≡ Err p
  fields_err = reads_wrong fields_more s

  module _ (n : ℕ) (f : step_of (responder_id.dec s) ≡ Ok n) where
    pub fields_end : n ≤ length s
    fields_end = reads_end fields_more s n f

    module _ (known : Known s) where
      pub fields_place : (p : Misfit) → produced_of (produced_on.dec (take (length s - n) (drop n s))) ≡ Err p → n + p.place ≤ length s
      fields_place = reads_place fields_more s n f known

      pub fields_broken : (p : Misfit) → produced_of (produced_on.dec (take (length s - n) (drop n s))) ≡ Err p → inside_fields (signed_fields.dec s) ≡ Err (misfit (n + p.place))
      fields_broken = reads_broken fields_more s n f known

      pub fields_start : (k : Listed) → produced_of (produced_on.dec (take (length s - n) (drop n s))) ≡ Ok k → n + k.start ≤ length s
      fields_start = reads_start fields_more s n f known

      pub fields_found : (k : Listed) → produced_of (produced_on.dec (take (length s - n) (drop n s))) ≡ Ok k → inside_fields (signed_fields.dec s) ≡ Ok (inside 0 n (n + k.start) k.len k.count)
      fields_found = reads_moved fields_more s n f known

pub ruleset produced_cases = (produced_err, produced_end, produced_place, produced_broken, produced_start, produced_found)

pub ruleset fields_cases = (fields_err, fields_end, fields_place, fields_broken, fields_start, fields_found)
