-- Octets tested for zeros in blocks: what is known of those before a place, and what follows for all of them.
-- zero_start; zero_grow, zero_broken; zero_last.
-- Assumes nothing.
use Prim.Native.Nat.{ℕ, ◌+◌, ◌-◌, ◌≤◌}
use native.Mathlib.Omega.{arith}
use mathlib.Core.Path.{◌≡◌, refl, sym, ap, ◌∙◌}
use mathlib.Core.Bool.{Bool, true, false, cond, not}
use mathlib.Core.List.{List}
use lib.ListN.{length, take, drop, take-append-drop, length-drop}
use lib.Seq.{take_all, take-take, take-add}
use borrow.Author.Tests.{not-true, not-false}
use Rattle.octets.specs.SameLaws.{impossible}
use Rattle.answer.specs.Card.{all_zero}
use Rattle.answer.specs.CardLaws.{zero_append}

first_true : (t u : Bool) → cond t u false ≡ true → t ≡ true
first_true true u e = refl
first_true false u e = impossible e

-- before the first octet
pub zero_start : (s : List ℕ) → all_zero (take 0 s) ≡ true
unfolding all_zero
zero_start s = refl

module _ (s : List ℕ) (i : ℕ) (p : all_zero (take i s) ≡ true) where
  module _ (z : Bool) (e : z ≡ all_zero (take (i + 128 - i) (drop i s))) where
    block : z ≡ all_zero (take 128 (drop i s))
    block = let h : i + 128 - i ≡ 128 = omega arith in rw h at e

    -- a block of zeros more
    pub zero_grow : not z ≡ false → all_zero (take (i + 128) s) ≡ true
    zero_grow h = rw (take-add i 128 s, zero_append (take i s) (take 128 (drop i s)), p, ← block) (not-false z h)

    -- a block that is not all zeros
    pub zero_broken : not z ≡ true → false ≡ all_zero s
    zero_broken h =
        let rest : all_zero (drop i s) ≡ cond (all_zero (take 128 (drop i s))) (all_zero (drop 128 (drop i s))) false =
        ap all_zero (sym (take-append-drop 128 (drop i s))) ∙ zero_append (take 128 (drop i s)) (drop 128 (drop i s)) in
        sym (ap all_zero (sym (take-append-drop i s)) ∙ zero_append (take i s) (drop i s) ∙ rw (p, rest, ← block, not-true z h))

  -- a last part that begins at the place or before it decides
  pub zero_last : (j : ℕ) → j ≤ i → (z : Bool) → z ≡ all_zero (take (length s - j) (drop j s)) → z ≡ all_zero s
  zero_last j h z e =
      let both : cond (all_zero (take j (take i s))) (all_zero (drop j (take i s))) false ≡ true =
      sym (zero_append (take j (take i s)) (drop j (take i s))) ∙ ap all_zero (take-append-drop j (take i s)) ∙ p in
      let q : all_zero (take j s) ≡ true = ap all_zero (sym (take-take j i s h)) ∙ first_true _ _ both in
      let k : all_zero s ≡ all_zero (drop j s) = ap all_zero (sym (take-append-drop j s)) ∙ zero_append (take j s) (drop j s) ∙ rw q in
      e ∙ ap all_zero (take_all (length s - j) (drop j s) (omega (arith, length-drop j s))) ∙ sym k
