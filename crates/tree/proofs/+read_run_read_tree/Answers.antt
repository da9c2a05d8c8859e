-- `tree::read_run` meets its contract, turn by turn of its loop: an element is stepped over, or read.
-- Assumes nothing.
use Rattle.std.proofs.Common.{rules}
use Rattle.tree.specs.TreeViewLaws.{turn_start, turn_end, turn_place, turn_bad, turn_inside, turn_sum, turn_less, turn_next}
use Rattle.tree.proofs.LightCases.{over_sum, over_inside, over_less, over_next}
use Rattle.tree.proofs.+read_run_read_tree.Goals as goal

pub read_run-loop-at-init : goal.read_run-loop-at-init
read_run-loop-at-init t c = search (rules, turn_start)

pub read_run-overflow_add-at : goal.read_run-overflow_add-at
read_run-overflow_add-at t c = search over_sum

pub read_run-loop-at-smaller-in-Some : goal.read_run-loop-at-smaller-in-Some
read_run-loop-at-smaller-in-Some t c = search over_less

pub read_run-loop-at-preserved-in-Some : goal.read_run-loop-at-preserved-in-Some
read_run-loop-at-preserved-in-Some t c = (search over_inside, search over_next)

pub read_run-overflow_add-at-in-Ok : goal.read_run-overflow_add-at-in-Ok
read_run-overflow_add-at-in-Ok t c = search turn_sum

pub read_run-loop-at-smaller : goal.read_run-loop-at-smaller
read_run-loop-at-smaller t c = search turn_less

pub read_run-loop-at-preserved : goal.read_run-loop-at-preserved
read_run-loop-at-preserved t c = (search turn_inside, search turn_next)

pub read_run-overflow_add-place : goal.read_run-overflow_add-place
read_run-overflow_add-place t c = search turn_place

pub read_run-returns-in-Err : goal.read_run-returns-in-Err
read_run-returns-in-Err t c = search turn_bad

pub read_run-returns : goal.read_run-returns
read_run-returns t c = search turn_end
