-- The days before a year, by whole-number division.
-- formula; grows, all_grow: each year adds its days to it; years_sum; years_days: as the code asks it.
-- Assumes nothing.
use Prim.Native.Nat.{ℕ, zero, suc, ◌+◌, ◌-◌, ◌*◌, ◌/◌, ◌≤◌}
use native.Mathlib.Omega.{arith}
use mathlib.Core.Path.{◌≡◌, refl}
use mathlib.Core.Bool.{Bool, true, ◌&&◌}
use lib.Dec.{leb, eqb}
use borrow.Author.Tests.{eqb-true, leb-true}
use Rattle.calendar.specs.Split.{before}
use Rattle.calendar.specs.Date.{leap_of, year_len}
use Rattle.calendar.specs.DateLaws.{and_l, and_r, holds_below, each_at}

-- the days of the k years from 1970 on, where p is the year before
unfoldable pub formula : ℕ → ℕ → ℕ
formula k p = 365 * k + (p / 4 - 492) - (p / 100 - 19) + (p / 100 / 4 - 4)

-- one year more is its days more, and at most 366
grows : ℕ → Bool
grows k = eqb (formula (suc k) (1970 + k)) (formula k (1969 + k) + year_len k) && leb (year_len k) 366

-- computed of each year to 9999
all_grow : holds_below grows 8030 ≡ true
unfolding grows formula year_len leap_of
all_grow = refl

-- the formula is the sum of the years
years_sum : (k : ℕ) → k ≤ 8030 → (formula k (1969 + k) ≡ before year_len k) × (formula k (1969 + k) ≤ 366 * k)
unfolding before grows
years_sum zero h = unfold formula in (refl, omega arith)
years_sum (suc k) h =
    let t = each_at grows 8030 all_grow k (omega arith) in
    let more : formula (suc k) (1970 + k) ≡ formula k (1969 + k) + year_len k = eqb-true _ _ (search and_l) in
    let few : year_len k ≤ 366 = leb-true _ _ (search and_r) in
    let e : 1969 + suc k ≡ 1970 + k = omega arith in
    rw e (omega (arith, years_sum k (omega arith)))

pub years_days : (y : ℕ) → (1970 ≤ y) × (y ≤ 9999)
    → (formula (y - 1970) (y - 1) ≡ before year_len (y - 1970)) × (formula (y - 1970) (y - 1) ≤ 366 * (y - 1970))
years_days y h =
    let e : 1969 + (y - 1970) ≡ y - 1 = omega arith in
    rw e at (years_sum (y - 1970) (omega arith))
