-- `calendar::plain::raw_pair` meets its contract.
-- Assumes nothing.
use Rattle.calendar.proofs.PlainCases.{pair_is}
use borrow.Author.Rules.{rules}
use Rattle.calendar.proofs.plain.raw_pair.Goals as goal

pub returns : goal.returns
returns c = pair_is _ _ (search rules) (search rules)
