-- The loop of `trial::runs::do_steps`: the place is inside the steps, and each turn brings it nearer to their end.
use Rattle.std.proofs.Common.{◌-◌, ◌≤◌, length}
use Rattle.trial.proofs.runs.do_steps.Given as goal

abbrev pub invariant-loop-end : goal.invariant-loop-end
invariant-loop-end g l = l.at ≤ length l.steps

abbrev pub decreases-loop-end : goal.decreases-loop-end
decreases-loop-end g l = length l.steps - l.at
