-- The times of an accepted answer keep the slip rules.
-- times_fit_lem. The other laws of slips are in proofs/FitsLaws. Assumes nothing.
-- The definitions stand here; the laws, and what is made of them, in proofs/FitsLaws.
use Rattle.std.specs.Prelude.{ℕ, ◌≤◌, ◌≡◌, true}
use Rattle.std.proofs.Common.{le-leb}
use Rattle.calendar.specs.Time.{last_second}
use Rattle.layout.specs.Limits.{TimeOk}
use Rattle.slip.specs.Rules.{times_ok}

pub times_fit_lem : (this next : ℕ) → this ≤ next → TimeOk next → times_ok this next ≡ true
unfolding times_ok
times_fit_lem this next h k = rw (le-leb this next h) (le-leb next last_second k)
