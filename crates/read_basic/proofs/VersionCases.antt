-- The cases of the reader of the signed part's content: maybe the version, then the fields.
-- version_err, version_end, version_place, version_broken, version_found.
-- Assumes nothing.
use Prim.Native.Nat.{ℕ, ◌+◌, ◌-◌, ◌≤◌}
use native.Mathlib.Omega.{arith}
use mathlib.Core.Path.{◌≡◌, refl, sym, ap, ◌∙◌}
use mathlib.Core.Bool.{Bool, true, false, cond}
use mathlib.Core.List.{List}
use mathlib.Core.Option.{none, some}
use Rattle.std.specs.Prelude.{Ok, Err}
use lib.ListN.{length, take, drop, length-drop}
use Rattle.octets.specs.Octets.{Octets}
use Rattle.octets.specs.OctetsLaws.{octets_drop}
use Rattle.octets.specs.LentLaws.{Known, known_octets, rest_is}
use Rattle.element.specs.Places.{misfit}
use Rattle.element.specs.declared.Misfit.{Misfit}
use Rattle.codec.specs.Codec.{Read, read, broke, got}
use Rattle.codec.proofs.CodecLaws.{got_size}
use Rattle.codec.specs.Mapped.{mapped_dec}
use Rattle.codec.specs.Outcome.{further, renamed}
use Rattle.codec.specs.Starts.{starts_with}
use Rattle.codec.specs.Option.{option_of, option_dec}
use Rattle.codec.specs.Views.{step_of}
use Rattle.codec.proofs.ViewLaws.{step_taken, step_bad}
use Rattle.layout.specs.Names.{SignedFields}
use Rattle.layout.specs.Names.{signed_from}
use Rattle.layout.proofs.Format.{version, signed_fields, signed_body}
use Rattle.read_content.specs.ExpectLaws.{never}
use Rattle.read_basic.specs.Views.{inside, InsideRead, inside_at, inside_fields, version_step, inside_signed}
use Rattle.read_basic.specs.MoreLaws.{place_inside}
use Rattle.read_basic.specs.MoreReads.{moved_read, place_read}
use Rattle.read_basic.specs.declared.Inside.{Inside}

-- the place that is wrong in the fields
abbrev wrong_place : InsideRead → ℕ
wrong_place = place_read (λ x. 0)

wrong_inside : (s : List ℕ) → Octets s → wrong_place (inside_fields (signed_fields.dec s)) ≤ length s
unfolding inside_fields inside_at
wrong_inside = place_inside signed_fields inside_fields wrong_place (λ x. omega arith) (λ p. omega arith)

-- after a version of n octets
abbrev moved : ℕ → Inside → Inside
moved n x = inside n x.responder x.start x.len x.count

-- where the version is read, and where it is left out
there_as : (s : List ℕ) (n : ℕ) → Octets s → version.dec s ≡ got tt n → (o : Read SignedFields)
    → moved_read moved n (inside_fields o) ≡ inside_signed (renamed signed_from (further n (λ x. (some tt, x)) o))
unfolding inside_fields inside_signed inside_at
there_as s n c e (read x) = rw (got_size version s tt n c e)
there_as s n c e (broke p) = refl

missing_as : (o : Read SignedFields) → moved_read moved 0 (inside_fields o) ≡ inside_signed (renamed signed_from (renamed (λ x. (none, x)) o))
unfolding inside_fields inside_signed inside_at
missing_as (read x) = refl
missing_as (broke p) = let i : 0 + p ≡ p = omega arith in ap (λ (k : ℕ). Err (misfit k)) i

module _ (s : List ℕ) where
  -- the version is wrong
  step_wrong : (b : Bool) → starts_with 0xa0 s ≡ b → (p : Misfit) → cond b (step_of (version.dec s)) (Ok 0) ≡ Err p
      → inside_signed (signed_body.dec s) ≡ Err p
  unfolding signed_body mapped_dec option_dec option_of inside_signed
  step_wrong true i p e = rw (i, (step_bad version s p.place e).0)
  step_wrong false i p e = never (cc)

  -- it takes n octets
  step_moved : (b : Bool) → starts_with 0xa0 s ≡ b → (n : ℕ) → cond b (step_of (version.dec s)) (Ok 0) ≡ Ok n → Octets s
      → (n ≤ length s) × (moved_read moved n (inside_fields (signed_fields.dec (drop n s))) ≡ inside_signed (signed_body.dec s))
  unfolding signed_body mapped_dec option_dec option_of
  step_moved true i n e c =
      let (a, d, _, le) = step_taken version s n e in
      (le, rw (i, d) (there_as s n c d (signed_fields.dec (drop n s))))
  step_moved false i n e c =
      let z : 0 ≡ n = cc in
      rw (← z, i) (omega arith, missing_as (signed_fields.dec s))

  pub version_err : (p : Misfit) → version_step s ≡ Err p → inside_signed (signed_body.dec s) ≡ Err p
  unfolding version_step
  version_err p f = step_wrong (starts_with 0xa0 s) refl p f

  module _ (n : ℕ) (f : version_step s ≡ Ok n) (known : Known s) where
    taken : (n ≤ length s) × (moved_read moved n (inside_fields (signed_fields.dec (drop n s))) ≡ inside_signed (signed_body.dec s))
    unfolding version_step
    taken = step_moved (starts_with 0xa0 s) refl n f (known_octets s known)

    pub version_end : n ≤ length s
    version_end = taken.0

    -- what follows it, as the code lends it: the answer for the fields, moved on, is that for the two
    answer : (y : InsideRead) → inside_fields (signed_fields.dec (take (length s - n) (drop n s))) ≡ y → inside_signed (signed_body.dec s) ≡ moved_read moved n y
    answer y c = sym taken.1 ∙ ap (moved_read moved n) (rw (rest_is n s) at c)

    module _ (p : Misfit) (c : inside_fields (signed_fields.dec (take (length s - n) (drop n s))) ≡ Err p) where
      pub version_place : n + p.place ≤ length s
      version_place =
          let at = wrong_inside (drop n s) (octets_drop n s (known_octets s known)) in
          let j : wrong_place (inside_fields (signed_fields.dec (drop n s))) ≡ p.place = ap wrong_place (rw (rest_is n s) at c) in
          omega (arith, version_end, length-drop n s)

      pub version_broken : inside_signed (signed_body.dec s) ≡ Err (misfit (n + p.place))
      version_broken = answer (Err p) c

    pub version_found : (z : Inside) → inside_fields (signed_fields.dec (take (length s - n) (drop n s))) ≡ Ok z
        → inside_signed (signed_body.dec s) ≡ Ok (inside n z.responder z.start z.len z.count)
    version_found z = answer (Ok z)

pub ruleset version_cases = (version_err, version_end, version_place, version_broken, version_found)
