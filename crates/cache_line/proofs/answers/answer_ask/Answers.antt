-- `cache_line::answers::answer_ask` meets its contract. Assumes nothing.
use Rattle.cache_line.proofs.AskCases.{ask_here, ask_none, ask_refused}
use Rattle.cache_line.proofs.answers.answer_ask.Goals as goal

pub returns-in-At : goal.returns-in-At
returns-in-At c = search ask_here

pub returns-in-NotHeld : goal.returns-in-NotHeld
returns-in-NotHeld c = search ask_none

pub returns-in-Refused : goal.returns-in-Refused
returns-in-Refused c = search ask_refused
