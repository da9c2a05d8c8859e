-- What is left to show of the loop.
use Rattle.read_extensions.proofs.ListCases.{list_place, list_bad, list_sum, list_next}
use Rattle.read_extensions.proofs.list.read_list.Goals as goal

pub overflow_add-place : goal.overflow_add-place
overflow_add-place c = search list_place

pub returns-in-Err : goal.returns-in-Err
returns-in-Err c = search list_bad

pub overflow_add-at : goal.overflow_add-at
overflow_add-at c = search list_sum

pub loop-at-preserved : goal.loop-at-preserved
loop-at-preserved c = search list_next
