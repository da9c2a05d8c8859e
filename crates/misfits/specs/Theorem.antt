-- The place of a response that does not fit is the least of its misfits, and it fits exactly where it
-- has none.
-- fit_read; reading_first, misfits_ascend; place_least, fits_none.
-- The definitions stand here; the laws, and what is made of them, in proofs/Theorem.
-- Assumes nothing.
use Rattle.std.specs.Prelude.{Ok, Err}
use Rattle.element.specs.Places.{misfit}
use Rattle.codec.specs.Steps.{Fit}
use Rattle.layout.specs.Read.{Outcome, reads, other_type, unfit}

-- the place that an outcome carries
abbrev pub fit_read : Outcome → Fit
fit_read (reads r) = Ok tt
fit_read other_type = Ok tt
fit_read (unfit p) = Err (misfit p)
