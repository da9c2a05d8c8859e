-- `calendar::date::before_year` meets its contract: the closed formula is the sum of the years (YearLaws).
-- Assumes nothing.
use Rattle.calendar.proofs.YearLaws.{formula, years_days}
use Rattle.calendar.proofs.date.before_year.Goals as goal

pub returns : goal.returns
unfolding formula
returns c = years_days c.args.y c.requires
