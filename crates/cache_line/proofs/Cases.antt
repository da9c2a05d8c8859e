-- What the code knows at each return of the answer to a filing, and the contract there.
-- turned, nothing; copy_other, copy_left, copy_filed, copy_holds; told_count, told_refused, told_count_cache, told_nothing;
-- filed_line, filed_cache_lem; copy_cases. Asks, lists and the other operations are in AskCases, the answer to an input in InputCases.
-- Assumes nothing.
use Prim.Native.Nat.{ℕ}
use native.Mathlib.Omega.{arith}
use mathlib.Core.Path.{◌≡◌, refl, sym, ap, subst, ◌∙◌}
use mathlib.Core.Bool.{Bool, true, false, cond}
use mathlib.Core.List.{List, []}
use lib.Dec.{eqb, ltb}
use lib.ListN.{length}
use borrow.Author.Tests.{eq-eqb, ne_eqb, eqb-false}
use Rattle.octets.specs.Buffer.{put_in}
use Rattle.octets.specs.BufferLaws.{put_in_room, splice_nil}
use Rattle.octets.specs.Number.{octets_of}
use Rattle.hexadecimal.specs.Hex.{hex_line}
use Rattle.freshness.specs.declared.Clock.{Clock}
use Rattle.std.specs.Prelude.{Ok, Err}
use Rattle.cache_rules.specs.declared.Unfiled.{Unfiled}
use Rattle.cache_rules.specs.declared.Unfiled.TheVariants as unfiled
use Rattle.cache_rules.specs.Numbers.{Filed, unfiled_number}
use Rattle.cache_rules.specs.Cache.{is_cache, filed_of, buffer_of}
use Rattle.cache_rules.proofs.RefusalLaws.{refusal_exactly, refused_number}
use Rattle.cache_line.specs.Reply.{numbered, accepted_reply, filed_reply, filed_cache, reply_with, cache_with}
use Rattle.cache_line.specs.Wrote.{Wrote, copy_after}
use Rattle.cache_line.proofs.SayCases.{filled}

-- what was written is other octets that are the same
pub turned : {before new after : List ℕ} {n : ℕ} (other : List ℕ) → new ≡ other → Wrote before new n after → Wrote before other n after
turned {before} {new} {after} {n} other e w = subst (λ (s : List ℕ). Wrote before s n after) e w

-- nothing is written
pub nothing : (before : List ℕ) → Wrote before [] 0 before
nothing before = record {
  count = go (ltb (length before) 0);
  octets = sym (put_in_room before 0 [] (omega arith) ∙ splice_nil before 0);
}
  where
    go : (b : Bool) → ◌≡◌ {A = ℕ} 0 (cond b 0 0)
    go true = refl
    go false = refl

-- ---- a filing, in a copy

module _ (clock : Clock) (s slip : List ℕ) where
  -- octets that are not as many as a cache has
  other : (length s ≡ 5568 → ⊥) → filed_of clock s slip ≡ Err unfiled.NoCache
  unfolding is_cache
  other h = (refused_number clock s slip unfiled.NoCache).1 ((refusal_exactly clock s slip).0.1 (rw (ne_eqb (length s) 5568 h)))

  pub copy_other : (length s ≡ 5568 → ⊥) → Err unfiled.NoCache ≡ filed_of clock s slip
  copy_other h = sym (other h)

  pub copy_left : (copy : List ℕ) → (length s ≡ 5568 → ⊥) → copy ≡ copy_after clock s slip copy
  unfolding copy_after
  copy_left copy h = sym (rw (ne_eqb (length s) 5568 h))

  module _ (copy : List ℕ) (l : length copy ≡ 5568) (h : length s ≡ 5568) (held : List ℕ) (e : held ≡ put_in copy 0 s) where
    copied : held ≡ s
    copied = e ∙ filled copy s (h ∙ sym l)

    pub copy_filed : (r : Filed) → r ≡ filed_of clock held slip → r ≡ filed_of clock s slip
    copy_filed r q = q ∙ ap (λ (x : List ℕ). filed_of clock x slip) copied

    pub copy_holds : (after : List ℕ) → after ≡ buffer_of clock held slip → after ≡ copy_after clock s slip copy
    unfolding copy_after
    copy_holds after q = q ∙ ap (λ (x : List ℕ). buffer_of clock x slip) copied ∙ sym (rw (eq-eqb (length s) 5568 h))

module _ (r : Filed) (line after : List ℕ) (k : ℕ) where
  pub told_count : (n : ℕ) → r ≡ Ok n → Wrote line (hex_line (accepted_reply (octets_of 1 n))) k after → Wrote line (hex_line (filed_reply r)) k after
  unfolding filed_reply
  told_count n e w = turned (hex_line (filed_reply r)) (ap (λ (x : Filed). hex_line (filed_reply x)) (sym e)) w

  pub told_refused : (x : Unfiled) → r ≡ Err x → (n : ℕ) → n ≡ unfiled_number x → Wrote line (hex_line (numbered n)) k after → Wrote line (hex_line (filed_reply r)) k after
  unfolding filed_reply
  told_refused x e n q w =
      turned (hex_line (filed_reply r)) (ap (λ (m : ℕ). hex_line (numbered m)) q ∙ ap (λ (f : Filed). hex_line (filed_reply f)) (sym e)) w

module _ (r : Filed) (copy cache : List ℕ) where
  pub told_count_cache : (n : ℕ) → r ≡ Ok n → (k : ℕ) (after : List ℕ) → Wrote cache copy k after → Wrote cache (filed_cache r copy) k after
  unfolding filed_cache
  told_count_cache n e k after w = turned (filed_cache r copy) (ap (λ (x : Filed). filed_cache x copy) (sym e)) w

  pub told_nothing : (x : Unfiled) → r ≡ Err x → Wrote cache (filed_cache r copy) 0 cache
  unfolding filed_cache
  told_nothing x e = turned (filed_cache r copy) (ap (λ (f : Filed). filed_cache f copy) (sym e)) (nothing cache)

module _ (clock : Clock) (s slip : List ℕ) (r : Filed) (e : r ≡ filed_of clock s slip) where
  pub filed_line : (line : List ℕ) (k : ℕ) (after : List ℕ) → Wrote line (hex_line (filed_reply r)) k after
      → Wrote line (hex_line (reply_with 1 clock slip s)) k after
  unfolding reply_with
  filed_line line k after w = turned (hex_line (reply_with 1 clock slip s)) (ap (λ (x : Filed). hex_line (filed_reply x)) e) w

  -- the copy matters only where it was filed in
  pub filed_cache_lem : (start copy : List ℕ) → copy ≡ copy_after clock s slip start → (cache : List ℕ) (k : ℕ) (after : List ℕ)
      → Wrote cache (filed_cache r copy) k after → Wrote cache (cache_with 1 clock slip s) k after
  unfolding copy_after filed_cache cache_with
  filed_cache_lem start copy q cache k after w = turned (cache_with 1 clock slip s) (same ∙ go (eqb (length s) 5568) refl) w
    where
      same : filed_cache r copy ≡ filed_cache (filed_of clock s slip) (copy_after clock s slip start)
      same = rw (e, q)

      go : (b : Bool) → eqb (length s) 5568 ≡ b
          → filed_cache (filed_of clock s slip) (cond b (buffer_of clock s slip) start) ≡ filed_cache (filed_of clock s slip) (buffer_of clock s slip)
      go true i = refl
      go false i =
          let o = other clock s slip (eqb-false (length s) 5568 i) in
          ap (λ (x : Filed). filed_cache x start) o ∙ sym (ap (λ (x : Filed). filed_cache x (buffer_of clock s slip)) o)

-- what filing in a copy needs
pub ruleset copy_cases = (copy_other, copy_left, copy_filed, copy_holds)
