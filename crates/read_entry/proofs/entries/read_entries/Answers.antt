-- What is left to show of the loop.
use Prim.Native.Nat.{◌-◌}
use native.Mathlib.Omega.{arith}
use mathlib.Core.Option.{some}
use Rattle.codec.proofs.TurnLaws.{turn_start, turn_end, turn_over, turn_bad, turn_next, turn_place, turn_inside, turn_sum, turn_less}
use Rattle.layout.specs.Reading.{Entry}
use Rattle.read_entry.proofs.CountTurns.{counts}
use Rattle.read_entry.proofs.entries.read_entries.Goals as goal

pub loop-at-init : goal.loop-at-init
loop-at-init c = (omega arith, omega arith, search (turn_start (counts Entry) (some 64)))

pub returns-then-count-eq64 : goal.returns-then-count-eq64
returns-then-count-eq64 c = search (turn_over (counts Entry) 64)

pub overflow_add-place : goal.overflow_add-place
overflow_add-place c = search turn_place

pub returns-in-Err : goal.returns-in-Err
returns-in-Err c = search (turn_bad (counts Entry) (some 64))

pub overflow_add-at : goal.overflow_add-at
overflow_add-at c = search turn_sum

pub loop-at-smaller : goal.loop-at-smaller
loop-at-smaller c = search turn_less

pub loop-at-preserved : goal.loop-at-preserved
loop-at-preserved c = (search turn_inside, omega arith, search (turn_next (counts Entry) (some 64)))

pub returns : goal.returns
returns c = search (turn_end (counts Entry) (some 64))
