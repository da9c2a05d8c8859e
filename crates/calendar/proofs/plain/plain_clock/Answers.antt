-- `calendar::plain::plain_clock` meets its contract: each return is a case law of PlainCases.
-- Assumes nothing.
use native.Mathlib.Omega.{arith}
use Rattle.calendar.proofs.PlainCases.{none_is, clock_is}
use Rattle.calendar.proofs.plain.plain_clock.Goals as goal

pub returns-then-years-lt55298 : goal.returns-then-years-lt55298
returns-then-years-lt55298 c = none_is _ _ _ _ _ _ _ (λ k. omega arith)

pub returns-then-seconds-lt1933008 : goal.returns-then-seconds-lt1933008
returns-then-seconds-lt1933008 c = none_is _ _ _ _ _ _ _ (λ k. omega arith)

pub returns : goal.returns
returns c = clock_is _ _ _ _ _ _ _ (omega arith) _ _ c.before_year.ensures.0 c.before_month.ensures.0
