-- The loop of `room::read_all`: the first `done` octets of the space are what is kept of an input.
use Rattle.std.proofs.Common.{ℕ, List}
use Rattle.desk_intake.specs.Kept.{Holds}
use Rattle.room.proofs.read_all.Given as goal

abbrev pub invariant-loop : goal.invariant-loop
invariant-loop g l = (i : List ℕ) × Holds l.space l.done i
