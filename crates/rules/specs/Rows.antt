-- What is said of a table of tests: which apply, and how its rows are numbered.
-- NoneOf, Nonzero, First; test_of, Numbered. The table itself is in Order, the laws are in OrderLaws.
-- Assumes nothing.
use Rattle.std.specs.Prelude.{ℕ, suc, ◌≡◌, Bool, true, false, cond, eqb}
use mathlib.Core.List.{List, [], ◌∷◌, ◌++◌, Memᴰ}

-- no test applies
abbrev pub NoneOf : List (ℕ × Bool) → Type 0
NoneOf l = (t : ℕ × Bool) → Memᴰ t l → t.1 ≡ false

-- no row has the number 0
abbrev pub Nonzero : List (ℕ × Bool) → Type 0
Nonzero l = (t : ℕ × Bool) → Memᴰ t l → t.0 ≡ 0 → ⊥

-- the row with a number is true, and those before it are false
pub record First (n : ℕ) (l : List (ℕ × Bool)) : Type 0 where
  pub before : List (ℕ × Bool)
  pub after : List (ℕ × Bool)
  pub row : l ≡ before ++ ((n, true) ∷ after)
  pub earlier : NoneOf before

-- whether the test of the row with a number applies; a number that no row has does not
unfoldable pub test_of : ℕ → List (ℕ × Bool) → Bool
test_of n [] = false
test_of n (t ∷ l) = cond (eqb t.0 n) t.1 (test_of n l)

-- the rows are numbered one by one, from a number on
abbrev pub Numbered : ℕ → List (ℕ × Bool) → Type 0
Numbered k [] = Unit {0}
Numbered k (t ∷ l) = (t.0 ≡ k) × Numbered (suc k) l
