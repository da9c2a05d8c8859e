-- `cache_line::lists::marks_of` meets its contract. Assumes nothing.
use Rattle.cache_line.proofs.Turns.{Marked}
use Rattle.cache_line.proofs.lists.marks_of.Given as goal

abbrev pub invariant-loop-i : goal.invariant-loop-i
invariant-loop-i l = Marked l.s l.clock l.marks l.i
