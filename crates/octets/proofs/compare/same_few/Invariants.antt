-- `octets::compare::same_few` meets its contract. The loop's invariant: the answer is that of what is left of both lists.
-- Assumes nothing.
use mathlib.Core.Path.{◌≡◌}
use lib.ListN.{drop}
use Rattle.octets.specs.Same.{same_of}
use Rattle.octets.proofs.compare.same_few.Given as goal

abbrev pub invariant-loop-i : goal.invariant-loop-i
invariant-loop-i l = same_of l.a l.b ≡ same_of (drop l.i l.a) (drop l.i l.b)
