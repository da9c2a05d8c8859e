-- `show::entries::steps_size` meets its contract. The loop is where the elements so far end.
-- Assumes nothing.
use mathlib.Core.Path.{◌≡◌}
use Rattle.show.specs.Steps.{steps_size}
use Rattle.show.proofs.entries.steps_size.Given as goal

abbrev pub invariant-loop : goal.invariant-loop
invariant-loop l = l.at ≡ steps_size l.counter l.s
