-- `read_entry::entries::read_entries` meets its contract. The loop is at a place up to which so many entries
-- are read.
-- Assumes nothing.
use Prim.Native.Nat.{◌≤◌, ◌-◌}
use mathlib.Core.Option.{some}
use lib.ListN.{length}
use Rattle.codec.proofs.TurnLaws.{Turns}
use Rattle.layout.specs.Reading.{Entry}
use Rattle.layout.proofs.Format.{single_response}
use Rattle.read_entry.proofs.CountTurns.{counts}
use Rattle.read_entry.proofs.entries.read_entries.Given as goal

abbrev pub invariant-loop-at : goal.invariant-loop-at
invariant-loop-at l = (l.at ≤ length l.s) × (l.count ≤ 64) × Turns (counts Entry) (some 64) single_response l.s l.at l.count

abbrev pub decreases-loop-at : goal.decreases-loop-at
decreases-loop-at l = length l.s - l.at
