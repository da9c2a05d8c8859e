-- `read_critical::list::strange_from` meets its contract. The loop is at a place up to which no extension
-- is critical and not understood.
-- Assumes nothing.
use Prim.Native.Nat.{◌-◌}
use mathlib.Core.List.{[], ◌∷◌}
use lib.ListN.{length, drop}
use Rattle.layout.proofs.Format.{extension_list}
use Rattle.read_critical.proofs.StrangeCases.{Searching}
use Rattle.read_critical.proofs.list.strange_from.Given as goal

abbrev pub invariant-loop-at : goal.invariant-loop-at
invariant-loop-at l = Searching (l.a ∷ l.b ∷ []) l.s (extension_list.dec (drop l.from l.s)) l.at

abbrev pub decreases-loop-at : goal.decreases-loop-at
decreases-loop-at l = length l.s - l.at
