-- A time and a tolerance judged: the code's two tests are those of the definition.
-- clock_fit, clock_unfit.
-- Assumes nothing.
use Prim.Native.Nat.{◌<◌, ◌≤◌}
use mathlib.Core.Path.{◌≡◌, sym}
use lib.Dec.{leb}
use borrow.Author.Tests.{le-leb, lt-leb}
use Rattle.calendar.specs.Time.{last_second}
use Rattle.freshness.specs.declared.Clock.{Clock}
use Rattle.freshness.specs.Clock.{tolerance_ok, clock_ok}

module _ (clock : Clock) where
  -- the time is out of range
  pub clock_unfit : last_second < clock.now → leb clock.now last_second ≡ clock_ok clock
  unfolding clock_ok
  clock_unfit h = sym (rw (lt-leb clock.now last_second h))

  -- it is in range: the tolerance decides
  pub clock_fit : clock.now ≤ last_second → tolerance_ok clock.tolerance ≡ clock_ok clock
  unfolding clock_ok
  clock_fit h = sym (rw (le-leb clock.now last_second h))
