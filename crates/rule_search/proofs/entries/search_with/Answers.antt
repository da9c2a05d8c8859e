-- What is left to show of the loop.
use Rattle.rule_search.proofs.SearchTurns.{turn_end, turn_refused, turn_sum, turn_less, turn_two}
use Rattle.rule_search.proofs.entries.search_with.Goals as goal

pub returns-in_default : goal.returns-in_default
returns-in_default c = search turn_refused

pub overflow_add-at : goal.overflow_add-at
overflow_add-at c = search turn_sum

pub entries-smaller : goal.entries-smaller
entries-smaller c = search turn_less

pub returns-then-are_two : goal.returns-then-are_two
returns-then-are_two c = search turn_two

pub returns : goal.returns
returns c = search turn_end
