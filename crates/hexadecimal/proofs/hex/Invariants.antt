-- `hexadecimal::hex` meets its contract. The loop's invariant: the digits of the first i octets are in place.
-- Assumes nothing.
use mathlib.Core.Path.{◌≡◌}
use Rattle.hexadecimal.proofs.Turns.{hexed}
use Rattle.hexadecimal.proofs.hex.Given as goal

abbrev pub invariant-loop-i : goal.invariant-loop-i
invariant-loop-i l = l.out ≡ hexed l.src l.initial.out l.i
