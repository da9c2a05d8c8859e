-- A time and a tolerance, and their ranges (document 01, refusal 1).
-- now_ok, tolerance_ok, clock_ok. That it is in range exactly if both are is in ClockLaws.
-- Assumes nothing.
use Rattle.std.specs.Prelude.{ℕ, Bool, false, cond, leb}
use Rattle.calendar.specs.Time.{last_second}
use Rattle.freshness.specs.declared.Clock.{Clock}

-- a time is at most 9999-12-31 23:59:59
abbrev pub now_ok : ℕ → Bool
now_ok now = leb now last_second

-- a tolerance is an hour at most
abbrev pub tolerance_ok : ℕ → Bool
tolerance_ok tolerance = leb tolerance 3600

unfoldable pub clock_ok : Clock → Bool
clock_ok clock = cond (now_ok clock.now) (tolerance_ok clock.tolerance) false
