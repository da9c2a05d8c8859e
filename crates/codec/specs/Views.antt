-- A reading seen as positions: what the code answers.
-- step_of, fit_of; later, a place further on. Their laws are in ViewLaws.
-- Assumes nothing.
use Rattle.std.specs.Prelude.{ℕ, ◌+◌, Ok, Err}
use Rattle.element.specs.Places.{misfit}
use Rattle.codec.specs.Codec.{Read, read, broke, Got, got, bad}
use Rattle.codec.specs.Steps.{Step, Fit}

-- how many octets the element takes, or the place that is wrong
unfoldable pub step_of : {A : Type 0} → Got A → Step
step_of (got a n) = Ok n
step_of (bad p) = Err (misfit p)

-- that the list is read, or the place that is wrong
unfoldable pub fit_of : {A : Type 0} → Read A → Fit
fit_of (read a) = Ok tt
fit_of (broke p) = Err (misfit p)

-- the same n octets further on
unfoldable pub later : ℕ → Fit → Fit
later n (Ok x) = Ok x
later n (Err p) = Err (misfit (n + p.place))
