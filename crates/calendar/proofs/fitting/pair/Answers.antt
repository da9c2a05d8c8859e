-- `calendar::fitting::pair` meets its contract: each return is a case law of FitLaws.
-- Assumes nothing.
use native.Mathlib.Omega.{arith}
use Rattle.calendar.proofs.FitLaws.{pair_number, pair_none}
use Rattle.calendar.proofs.fitting.pair.Goals as goal

pub returns-then-a-lt48 : goal.returns-then-a-lt48
returns-then-a-lt48 c = pair_none _ _ (λ d. omega arith)

pub returns : goal.returns
returns c = pair_number _ _ (omega arith)
