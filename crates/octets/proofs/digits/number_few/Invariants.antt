-- `octets::digits::number_few` meets its contract. The loop's invariant: n is the number of the octets before the index.
-- Assumes nothing.
use mathlib.Core.Path.{◌≡◌}
use Prim.Native.Nat.{◌^◌, ◌<◌}
use lib.ListN.{take}
use Rattle.octets.specs.Number.{value_of}
use Rattle.octets.proofs.digits.number_few.Given as goal

abbrev pub invariant-loop-x : goal.invariant-loop-x
invariant-loop-x l = (l.n < 256 ^ l.x-index) × (l.n ≡ value_of (take l.x-index l.x-items))
