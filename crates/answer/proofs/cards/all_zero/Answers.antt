-- What is left to show of the loop.
use native.Mathlib.Omega.{arith}
use Rattle.answer.proofs.ZeroCases.{zero_start, zero_grow, zero_broken, zero_last}
use Rattle.answer.proofs.cards.all_zero.Goals as goal

pub loop-i-init : goal.loop-i-init
loop-i-init c = (omega arith, search zero_start)

pub returns-then-not-each_zero : goal.returns-then-not-each_zero
returns-then-not-each_zero c = search zero_broken

pub loop-i-preserved : goal.loop-i-preserved
loop-i-preserved c = (omega arith, search zero_grow)

pub returns : goal.returns
returns c = search zero_last
