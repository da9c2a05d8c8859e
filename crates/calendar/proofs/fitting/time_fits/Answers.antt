-- `calendar::fitting::time_fits` meets its contract: each return is a case law of FitLaws.
-- Assumes nothing.
use Rattle.calendar.proofs.FitLaws.{octets_unfit, octets_fit}
use native.Mathlib.Omega.{arith}
use Rattle.calendar.proofs.fitting.time_fits.Goals as goal

pub returns-then-s-ne15 : goal.returns-then-s-ne15
returns-then-s-ne15 c = octets_unfit _ (λ l z. grind (arith, c.type_inv.s 14))

pub returns : goal.returns
returns c = search octets_fit
