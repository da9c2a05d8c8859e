-- `calendar::fitting::clock_fits` meets its contract: each return is a case law of FitLaws.
-- Assumes nothing.
use native.Mathlib.Omega.{arith}
use Rattle.calendar.proofs.FitLaws.{none_fits, clock_fit}
use Rattle.calendar.proofs.fitting.clock_fits.Goals as goal

pub returns-then-c-ge100 : goal.returns-then-c-ge100
returns-then-c-ge100 c = none_fits _ _ _ _ _ _ _ (λ f. omega arith)

pub returns-then-year-lt1970 : goal.returns-then-year-lt1970
returns-then-year-lt1970 c = none_fits _ _ _ _ _ _ _ (λ f. omega arith)

pub returns-then-h-ge24 : goal.returns-then-h-ge24
returns-then-h-ge24 c = none_fits _ _ _ _ _ _ _ (λ f. omega arith)

pub returns : goal.returns
returns c = clock_fit _ _ _ _ _ _ _ (omega arith) (omega arith) (omega arith) (omega arith) (omega arith) (omega arith) (omega arith) (omega arith) _
    c.day_fits.ensures
