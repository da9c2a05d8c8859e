-- Laws of a loop over the elements of a list, up to its end: it is at a place up to which k elements are
-- met, and the answer for the list is made of the answer for what is left. The bound is the most elements
-- that are allowed, or there is none.
-- Telling, what code tells of a reading; fits, that they fit or the place that is wrong; OneMore, rest; Turns,
-- where the loop is. turn_start, turn_end, turn_over, turn_bad, turn_next: its turns. turn_place,
-- turn_inside, turn_sum, turn_less: that a place is in the list, and that less is left.
-- The readings are in Many and Any, the answers in Views.
-- The definitions stand here; the laws, and what is made of them, in proofs/TurnLaws.
-- Assumes nothing.
use Prim.Native.Nat.{ℕ, ◌+◌, ◌≤◌}
use Rattle.std.specs.Prelude.{◌≡◌}
use mathlib.Core.List.{List, [], ◌∷◌}
use Rattle.std.proofs.Math.Option.{Option, some, none}
use Rattle.codec.specs.Codec.{Read, read, broke}
use Rattle.codec.specs.Outcome.{further}

-- what code tells of a reading of elements, of them all and past the octets and the number of those
-- before: how many are met, or the place that is wrong
pub record Telling {A R : Type 0} (of : Read (List A) → R) (past : ℕ → ℕ → R → R) (met wrong : ℕ → R) : Type 0 where
  pub start : (x : R) → x ≡ past 0 0 x
  pub ends : (at k : ℕ) → past at k (of (read [])) ≡ met k
  pub stops : (at k p : ℕ) → past at k (of (broke p)) ≡ wrong (at + p)
  pub next : (at k n : ℕ) (a : A) (o : Read (List A)) → past at k (of (further n (λ l. a ∷ l) o)) ≡ past (at + n) (k + 1) (of o)

-- after k elements one more is allowed
abbrev pub OneMore : Option ℕ → ℕ → Type 0
OneMore (some hi) k = (k ≤ hi) × (k ≡ hi → ⊥)
OneMore none k = Unit {0}
