-- `octets::digits::put_number` meets its contract. The loop's invariant: all but the first i octets of n are in place, and left is
-- what they leave of n.
-- Assumes nothing.
use mathlib.Core.Path.{◌≡◌}
use Prim.Native.Nat.{◌-◌, ◌/◌, ◌^◌, ◌≤◌}
use lib.ListN.{length}
use Rattle.octets.proofs.Turns.{written}
use Rattle.octets.proofs.digits.put_number.Given as goal

abbrev pub invariant-loop-i : goal.invariant-loop-i
invariant-loop-i l = (l.i ≤ l.width) × (length l.out ≡ length l.initial.out) × (l.left ≡ l.n / 256 ^ (l.width - l.i)) × (l.out ≡ written l.initial.out l.at l.width l.n l.i)
