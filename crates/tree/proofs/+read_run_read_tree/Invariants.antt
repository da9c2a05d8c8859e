-- `tree::read_tree` and `tree::read_run` call each other: the octets left fall, each counted twice, and once more for a run.
-- The run's loop is at a place up to which the run is read, by an element that is stepped over or read.
use Rattle.std.proofs.Common.{length, drop, ◌≡◌, ◌-◌, ◌+◌, ◌*◌, ◌≤◌}
use Rattle.codec.proofs.TreeRead.{tree}
use Rattle.codec.specs.Views.{later}
use Rattle.tree.specs.TreeViewLaws.{fit_all}
use Rattle.tree.proofs.+read_run_read_tree.Given as goal

abbrev pub decreases-read_run : goal.decreases-read_run
decreases-read_run l = length l.s.now * 2 + 1

abbrev pub decreases-read_tree : goal.decreases-read_tree
decreases-read_tree l = length l.s.now * 2

abbrev pub invariant-read_run-loop-at : goal.invariant-read_run-loop-at
invariant-read_run-loop-at l = (l.at ≤ length l.s) × (fit_all (tree l.depth) l.s ≡ later l.at (fit_all (tree l.depth) (drop l.at l.s)))

abbrev pub decreases-read_run-loop-at : goal.decreases-read_run-loop-at
decreases-read_run-loop-at l = length l.s - l.at
