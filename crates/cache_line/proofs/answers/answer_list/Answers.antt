-- `cache_line::answers::answer_list` meets its contract. Assumes nothing.
use Rattle.cache_line.proofs.AskCases.{list_19, list_clock, list_paper, list_marks}
use Rattle.cache_line.proofs.answers.answer_list.Goals as goal

pub returns-then-not-room_fits : goal.returns-then-not-room_fits
returns-then-not-room_fits c = search list_19

pub returns-then-not-clock_fits : goal.returns-then-not-clock_fits
returns-then-not-clock_fits c = search list_clock

pub returns-then-paper-ne0 : goal.returns-then-paper-ne0
returns-then-paper-ne0 c = search list_paper

pub returns : goal.returns
returns c = search list_marks
