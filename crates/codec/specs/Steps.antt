-- What code answers of one element, and of a part as a whole.
-- Step, Fit. The names of the answers are in element's Places; what a reading answers is in Views.
-- Assumes nothing.
use Rattle.std.specs.Prelude.{ℕ, Result}
use Rattle.element.specs.declared.Misfit.{Misfit}

-- one element at the head of a part: how many octets it takes, or the place that is wrong
abbrev pub Step : Type 0
Step = Result ℕ Misfit

-- a part as a whole: that it is read, or the place that is wrong
abbrev pub Fit : Type 0
Fit = Result Unit Misfit
