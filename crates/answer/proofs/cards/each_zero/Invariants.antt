-- `answer::cards::each_zero` meets its contract. The loop's invariant: the answer is that of the octets before and of what is left.
-- Assumes nothing.
use mathlib.Core.Path.{◌≡◌}
use mathlib.Core.Bool.{false, cond}
use lib.ListN.{drop}
use Rattle.answer.specs.Card.{all_zero}
use Rattle.answer.proofs.cards.each_zero.Given as goal

abbrev pub invariant-loop-i : goal.invariant-loop-i
invariant-loop-i l = all_zero l.s ≡ cond l.zero (all_zero (drop l.i l.s)) false
