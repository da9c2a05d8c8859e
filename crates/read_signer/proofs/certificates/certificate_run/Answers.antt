-- What is left to show of the loop.
use Prim.Native.Nat.{◌-◌}
use native.Mathlib.Omega.{arith}
use mathlib.Core.Option.{some}
use borrow.Author.Rules.{rules}
use Rattle.codec.proofs.TurnLaws.{fits, turn_start, turn_end, turn_over, turn_bad, turn_next, turn_place, turn_inside, turn_sum, turn_less}
use Rattle.codec.specs.Tree.{Tree}
use Rattle.layout.proofs.ElementKinds.{free_sequence}
use Rattle.read_signer.specs.Run.{certificate_run}
use Rattle.read_signer.proofs.certificates.certificate_run.Goals as goal

pub loop-at-init : goal.loop-at-init
unfolding certificate_run free_sequence
loop-at-init c = (omega arith, omega arith, search (turn_start (fits Tree) (some 8) free_sequence))

pub returns-then-count-eq8 : goal.returns-then-count-eq8
unfolding certificate_run free_sequence
returns-then-count-eq8 c = search (turn_over (fits Tree) 8 free_sequence)

pub overflow_add-place : goal.overflow_add-place
unfolding certificate_run free_sequence
overflow_add-place c = search (turn_place free_sequence)

pub returns-in-Err : goal.returns-in-Err
unfolding certificate_run free_sequence
returns-in-Err c = search (turn_bad (fits Tree) (some 8) free_sequence)

pub overflow_add-at : goal.overflow_add-at
unfolding certificate_run free_sequence
overflow_add-at c = search (turn_sum free_sequence)

pub loop-at-smaller : goal.loop-at-smaller
unfolding certificate_run free_sequence
loop-at-smaller c = search (turn_less free_sequence)

pub loop-at-preserved : goal.loop-at-preserved
unfolding certificate_run free_sequence
loop-at-preserved c = (search (turn_inside free_sequence), omega arith, search (turn_next (fits Tree) (some 8) free_sequence))

pub returns : goal.returns
unfolding certificate_run free_sequence
returns c = search (turn_end (fits Tree) (some 8) free_sequence)
