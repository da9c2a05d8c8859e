-- What is left to show of the loop.
use Rattle.read_oids.specs.NameLaws.{place_first, place_last, place_end, place_next_lem}
use Rattle.read_critical.proofs.StrangeCases.{list_broke, search_start, search_end, search_none, search_hit, search_next, search_less}
use Rattle.read_critical.proofs.list.strange_from.Goals as goal

pub returns-in_default : goal.returns-in_default
returns-in_default c = search list_broke

pub loop-at-init : goal.loop-at-init
loop-at-init c = search search_start

pub returns-in_default-name_at : goal.returns-in_default-name_at
returns-in_default-name_at c = search search_none

pub overflow_add-first : goal.overflow_add-first
overflow_add-first c = search place_first

pub overflow_add-last : goal.overflow_add-last
overflow_add-last c = search place_last

pub slice_bounds-is_strange-end : goal.slice_bounds-is_strange-end
slice_bounds-is_strange-end c = search place_end

pub slice_bounds-is_strange-count-in-loop-at : goal.slice_bounds-is_strange-count-in-loop-at
slice_bounds-is_strange-count-in-loop-at c = search place_end

pub slice_bounds-is_strange-start-in-loop-at : goal.slice_bounds-is_strange-start-in-loop-at
slice_bounds-is_strange-start-in-loop-at c = search place_end

pub returns-then-is_strange : goal.returns-then-is_strange
returns-then-is_strange c = search (search_hit, c.loop-at.invariant)

pub overflow_add-at : goal.overflow_add-at
overflow_add-at c = search place_next_lem

pub loop-at-smaller : goal.loop-at-smaller
loop-at-smaller c = search search_less

pub loop-at-preserved : goal.loop-at-preserved
loop-at-preserved c = search (search_next, c.loop-at.invariant)

pub returns : goal.returns
returns c = search search_end
