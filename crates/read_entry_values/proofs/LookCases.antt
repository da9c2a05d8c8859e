-- The case of a time that is cut short: its seconds are 0.
-- seconds_few.
-- Assumes nothing.
use Prim.Native.Nat.{ℕ, ◌<◌}
use native.Mathlib.Omega.{arith}
use mathlib.Core.Path.{◌≡◌}
use mathlib.Core.List.{List}
use lib.ListN.{length, take, length-take}
use borrow.Author.Tests.{ne_eqb}
use Rattle.calendar.specs.Plain.{plain_seconds}

pub seconds_few : (s : List ℕ) → length s < 15 → plain_seconds (take 15 s) ≡ 0
unfolding plain_seconds
seconds_few s h = rw (ne_eqb (length (take 15 s)) 15 (λ e. omega (arith, length-take 15 s)))
