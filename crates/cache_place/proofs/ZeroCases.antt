-- Octets tested for zeros, each by the one before it: what the code knows at each return, and what follows there.
-- zeros_none, zeros_first, zeros_counted, zeros_same.
-- Assumes nothing.
use Prim.Native.Nat.{ℕ, suc, ◌-◌}
use native.Mathlib.Omega.{arith}
use mathlib.Core.Path.{◌≡◌, refl, sym, ap, ◌∙◌}
use mathlib.Core.Bool.{Bool, true, false, cond}
use mathlib.Core.List.{List, [], ◌∷◌}
use lib.Dec.{eqb}
use lib.ListN.{length, get_or, take, drop}
use lib.Seq.{take-length, length-take-le}
use borrow.Author.Tests.{eq-eqb, ne_eqb, eqb-true}
use Rattle.octets.specs.Same.{same_of}
use Rattle.answer.specs.Card.{all_zero}

-- behind a zero, octets that are each the one before it are zeros
behind : (t : List ℕ) → same_of t (take (length t) (0 ∷ t)) ≡ all_zero t
unfolding same_of all_zero
behind [] = refl
behind (y ∷ u) = go (eqb y 0) refl (behind u)
  where
    go : (b : Bool) → eqb y 0 ≡ b → same_of u (take (length u) (0 ∷ u)) ≡ all_zero u → cond b (same_of u (take (length u) (y ∷ u))) false ≡ cond b (all_zero u) false
    go true e r = ap (λ (z : ℕ). same_of u (take (length u) (z ∷ u))) (eqb-true y 0 e) ∙ r
    go false e r = refl

pub zeros_none : (s : List ℕ) → length s ≡ 0 → true ≡ all_zero s
unfolding all_zero
zeros_none [] h = refl
zeros_none (x ∷ s) h = absurd (omega arith)

pub zeros_first : (s : List ℕ) → (length s ≡ 0 → ⊥) → (get_or s 0 0 ≡ 0 → ⊥) → false ≡ all_zero s
unfolding all_zero
zeros_first [] h n = absurd (h refl)
zeros_first (x ∷ s) h n = sym (rw (ne_eqb x 0 n))

pub zeros_counted : (s : List ℕ) → (length s ≡ 0 → ⊥) → length s - 1 ≡ length (take (length s - 1) s)
zeros_counted s h = sym (length-take-le (length s - 1) s (omega arith))

pub zeros_same : (s : List ℕ) → (length s ≡ 0 → ⊥) → get_or s 0 0 ≡ 0
    → (b : Bool) → b ≡ same_of (take (length s - 1) (drop 1 s)) (take (length s - 1) s) → b ≡ all_zero s
unfolding all_zero
zeros_same [] h e b q = absurd (h refl)
zeros_same (x ∷ s) h e b q =
    let n : suc (length s) - 1 ≡ length s = omega arith in
    q
    ∙ ap (λ (k : ℕ). same_of (take k s) (take k (x ∷ s))) n
    ∙ ap (λ (l : List ℕ). same_of l (take (length s) (x ∷ s))) (take-length s)
    ∙ ap (λ (z : ℕ). same_of s (take (length s) (z ∷ s))) e
    ∙ behind s
    ∙ sym (rw (eq-eqb x 0 e))

-- what the function needs
pub ruleset zero_cases = (zeros_none, zeros_first, zeros_counted, zeros_same)
