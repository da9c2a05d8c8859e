-- `calendar::plain::seconds_of` meets its contract: each return is a case law of PlainCases.
-- Assumes nothing.
use native.Mathlib.Omega.{arith}
use Rattle.calendar.proofs.PlainCases.{plain_long, plain_is}
use Rattle.calendar.proofs.plain.seconds_of.Goals as goal

pub returns-then-s-ne15 : goal.returns-then-s-ne15
returns-then-s-ne15 c = plain_long _ (omega arith)

pub returns : goal.returns
returns c = search plain_is
