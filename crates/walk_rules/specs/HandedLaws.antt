-- A step that hands out an entry.
-- Hands. The laws of many steps are in proofs/HandedLaws, and the definitions in Step, Walked and Handed.
-- Assumes nothing.
use Prim.Native.Nat.{ℕ, suc}
use Rattle.std.specs.Prelude.{◌≡◌}
use mathlib.Core.List.{List, [], ◌∷◌}
use Rattle.std.specs.Borrow.{Bor}
use Rattle.walk_rules.specs.Walked.{say_of, hand_of, moved_of}
use Rattle.walk_rules.specs.Handed.{at, given_by}

-- one part is handed out, which is x, and the place is one more
pub record Hands (r : Bor (List ℕ)) (k : ℕ) (x : List ℕ) : Type 0 where
  pub gives : given_by (say_of (at r k)) (hand_of (at r k)) ≡ x ∷ []
  pub moves : moved_of (at r k) ≡ at r (suc k)
