-- The octet that a form begins with. An element that may be missing, and one of two elements, are
-- recognised by it alone.
-- starts_with, Starts, Other, Apart. That the combinators begin so is in StartsLaws.
-- The laws stand here, and what is made of them; the definitions in specs/Starts.
-- Assumes nothing.
use Rattle.std.specs.Prelude.{ℕ, ◌<◌, ◌≡◌, refl, true, false, List, [], ◌∷◌, ◌++◌, eqb, length, get_or}
use Rattle.std.proofs.Common.{arith}
use Rattle.codec.specs.Starts.{starts_with}

-- what follows does not count
pub starts_append : (t : ℕ) (x r : List ℕ) → starts_with t x ≡ true → starts_with t (x ++ r) ≡ true
unfolding starts_with
starts_append t [] r h = let z : ◌≡◌ {A = ℕ} 0 1 = cc in absurd (omega arith)
starts_append t (y ∷ x) r h = h

pub other_append : (t : ℕ) (x r : List ℕ) → 0 < length x → starts_with t x ≡ false → starts_with t (x ++ r) ≡ false
unfolding starts_with
other_append t [] r p h = absurd (omega arith)
other_append t (y ∷ x) r p h = h

-- by the first octet, for code
pub starts_none : (t : ℕ) (s : List ℕ) → length s ≡ 0 → starts_with t s ≡ false
unfolding starts_with
starts_none t [] h = refl
starts_none t (x ∷ s) h = absurd (omega arith)

pub starts_first : (t : ℕ) (s : List ℕ) → 0 < length s → starts_with t s ≡ eqb (get_or s 0 0) t
unfolding starts_with
starts_first t [] h = absurd (omega arith)
starts_first t (x ∷ s) h = refl
