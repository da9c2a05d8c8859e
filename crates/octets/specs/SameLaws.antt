-- Laws of comparing: the answer is yes exactly of equal lists.
-- impossible; same_true, same_refl, same_false, same_short.
-- The definition is in Same. Assumes nothing.
use Rattle.std.specs.Prelude.{ℕ, suc, ◌≡◌, refl, Bool, true, false, cond, List, [], ◌∷◌, eqb, length}
use Rattle.std.proofs.Common.{arith, sym, ap, ap₂, ◌∙◌, eqb-true, eq-eqb}
use Rattle.octets.specs.Same.{same_of}

-- an answer is not both
pub impossible : {A : Type 0} → false ≡ true → A
impossible e = let z : ◌≡◌ {A = ℕ} 0 1 = cc in absurd (omega arith)

-- yes: the lists are equal
pub same_true : (a b : List ℕ) → same_of a b ≡ true → a ≡ b
unfolding same_of
same_true [] [] e = refl
same_true [] (y ∷ t) e = impossible e
same_true (x ∷ s) [] e = impossible e
same_true (x ∷ s) (y ∷ t) e = go (λ r. same_true s t r) (eqb x y) refl e
  where
    go : (same_of s t ≡ true → s ≡ t) → (u : Bool) → eqb x y ≡ u → cond u (same_of s t) false ≡ true → x ∷ s ≡ y ∷ t
    go rest true q e = ap₂ (λ (z : ℕ) (r : List ℕ). z ∷ r) (eqb-true x y q) (rest e)
    go rest false q e = impossible e

-- a list is the same as itself
pub same_refl : (a : List ℕ) → same_of a a ≡ true
unfolding same_of
same_refl [] = refl
same_refl (x ∷ s) = rw (eq-eqb x x refl) (same_refl s)

-- no: the lists are not equal
pub same_false : (a b : List ℕ) → same_of a b ≡ false → a ≡ b → ⊥
same_false a b e q = impossible (sym e ∙ ap (λ (l : List ℕ). same_of a l) (sym q) ∙ same_refl a)

-- lists of other lengths
pub same_short : (a b : List ℕ) → (length a ≡ length b → ⊥) → same_of a b ≡ false
unfolding same_of
same_short [] [] h = absurd (h refl)
same_short [] (y ∷ t) h = refl
same_short (x ∷ s) [] h = refl
same_short (x ∷ s) (y ∷ t) h = go (eqb x y) (same_short s t (λ e. h (ap suc e)))
  where
    go : (u : Bool) → same_of s t ≡ false → cond u (same_of s t) false ≡ false
    go true e = e
    go false e = refl
