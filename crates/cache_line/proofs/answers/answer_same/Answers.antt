-- `cache_line::answers::answer_same` meets its contract. Assumes nothing.
use Rattle.cache_line.proofs.AskCases.{same_ask, same_list, same_other}
use Rattle.cache_line.proofs.answers.answer_same.Goals as goal

pub returns-in-2 : goal.returns-in-2
returns-in-2 c = search same_ask

pub returns-in-3 : goal.returns-in-3
returns-in-3 c = search same_list

pub returns-in_default : goal.returns-in_default
returns-in_default c = search same_other
