-- Two lists compared, octet by octet.
-- same_of. That it says yes exactly of equal lists is in SameLaws.
-- Assumes nothing.
use Rattle.std.specs.Prelude.{ℕ, List, [], ◌∷◌, Bool, true, false, cond, eqb}

-- as long, and equal one by one
unfoldable pub same_of : List ℕ → List ℕ → Bool
same_of [] [] = true
same_of [] (y ∷ t) = false
same_of (x ∷ s) [] = false
same_of (x ∷ s) (y ∷ t) = cond (eqb x y) (same_of s t) false
