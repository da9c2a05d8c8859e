-- Places in ascending order, the first of them, and which are among them.
-- Ascending, leftmost, Among, Least.
-- Assumes nothing.
use Rattle.std.specs.Prelude.{ℕ, ◌≤◌, ◌≡◌, List, [], ◌∷◌, ◌⊎◌, Ok, Err}
use Rattle.element.specs.Places.{misfit}
use Rattle.codec.specs.Steps.{Fit}

-- from a up to b, none before the one to its left
abbrev pub Ascending : ℕ → List ℕ → ℕ → Type 0
Ascending a [] b = a ≤ b
Ascending a (p ∷ l) b = (a ≤ p) × Ascending p l b

-- the first, where there is one
unfoldable pub leftmost : List ℕ → Fit
leftmost [] = Ok tt
leftmost (p ∷ l) = Err (misfit p)

-- p is one of them
abbrev pub Among : ℕ → List ℕ → Type 0
Among p [] = ⊥
Among p (q ∷ l) = (p ≡ q) ⊎ Among p l

-- p is the least of them
abbrev pub Least : ℕ → List ℕ → Type 0
Least p l = Among p l × ((q : ℕ) → Among q l → p ≤ q)
