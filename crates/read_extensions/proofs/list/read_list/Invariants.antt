-- `read_extensions::list::read_list` meets its contract. The loop is at a place up to which count extensions
-- are read.
-- Assumes nothing.
use Prim.Native.Nat.{◌-◌}
use lib.ListN.{length}
use Rattle.read_extensions.proofs.ListCases.{Reading}
use Rattle.read_extensions.proofs.list.read_list.Given as goal

abbrev pub invariant-loop-at : goal.invariant-loop-at
invariant-loop-at l = Reading l.s l.count l.at

abbrev pub decreases-loop-at : goal.decreases-loop-at
decreases-loop-at l = length l.s - l.at
