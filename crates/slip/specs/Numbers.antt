-- Numbers one after the other, each in its own width.
-- total, numbers_form, numbers_in. That each of the last two gives back the other is in NumbersLaws.
-- Assumes nothing.
use Rattle.std.specs.Prelude.{ℕ, ◌+◌, List, [], ◌∷◌, ◌++◌, take, drop}
use Rattle.octets.specs.Number.{value_of, octets_of}

-- how many octets these widths take
unfoldable pub total : List ℕ → ℕ
total [] = 0
total (w ∷ ws) = w + total ws

-- the numbers' octets, high octet first, each in its width
unfoldable pub numbers_form : List ℕ → List ℕ → List ℕ
numbers_form [] vs = []
numbers_form (w ∷ ws) [] = []
numbers_form (w ∷ ws) (v ∷ vs) = octets_of w v ++ numbers_form ws vs

-- the numbers of these widths at the start of a part
unfoldable pub numbers_in : List ℕ → List ℕ → List ℕ
numbers_in [] s = []
numbers_in (w ∷ ws) s = value_of (take w s) ∷ numbers_in ws (drop w s)
