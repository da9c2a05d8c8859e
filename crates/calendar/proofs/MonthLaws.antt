-- The code's two formulas are the month lengths and their sums.
-- length_by, days_by: the formulas; all_right: a test of both, computed of twelve months and two kinds of year; month_right: as a rule;
-- month_leap, month_common, month_other: the days of a month, as the code's tests leave them; day_early: every month has 28 days;
-- months_first, months_leap, months_common: the days before a month.
-- Assumes nothing.
use Prim.Native.Nat.{ℕ, suc, ◌+◌, ◌-◌, ◌*◌, ◌/◌, ◌%◌, ◌≤◌, ◌<◌}
use native.Mathlib.Omega.{arith}
use mathlib.Core.Path.{◌≡◌, refl, sym, ◌∙◌}
use mathlib.Core.Bool.{Bool, true, false, cond, ◌&&◌, ◌||◌}
use lib.Dec.{leb, eqb}
use lib.ListN.{get_or}
use borrow.Author.Tests.{leb-true, eqb-true, le-leb, lt-leb, ne_eqb}
use Rattle.calendar.specs.Split.{before}
use Rattle.calendar.specs.Date.{leap_of, lengths, month_len}
use Rattle.calendar.specs.DateLaws.{and_l, and_r, holds_below, each_at, month_within}

-- the days of month m, where it is not February
unfoldable length_by : ℕ → ℕ
length_by m = 30 + (m + m / 8) % 2

-- the days before month m, as if February had 30
unfoldable days_by : ℕ → ℕ
days_by m = (489 * m - 480) / 16

-- how many of those February has not, for month 1 + k
lacking : Bool → ℕ → ℕ
lacking leap k = cond (leb 2 k) (cond leap 1 2) 0

-- each formula is right of month 1 + k, and at most 335 days are before it
length_right : Bool → ℕ → Bool
length_right leap k = eqb k 1 || eqb (length_by (suc k)) (get_or (lengths leap) k 0)

days_right : Bool → ℕ → Bool
days_right leap k =
    let days = before (λ (i : ℕ). get_or (lengths leap) i 0) k in
    eqb (days_by (suc k)) (days + lacking leap k) && leb days 335

all_right : (leap : Bool) → holds_below (λ (k : ℕ). length_right leap k && days_right leap k) 12 ≡ true
unfolding length_right days_right lacking length_by days_by before
all_right true = refl
all_right false = refl

module _ (y m : ℕ) where
  month_second : (leap : Bool) → leap ≡ leap_of y → m ≡ 2 → cond leap 29 28 ≡ month_len y (m - 1)
  unfolding month_len
  month_second leap e h = rw (h, sym e)

  pub month_leap : (b : Bool) → b ≡ leap_of y → b ≡ true → m ≡ 2 → 29 ≡ month_len y (m - 1)
  month_leap b e t h = month_second true (sym t ∙ e) h

  pub month_common : (b : Bool) → b ≡ leap_of y → b ≡ false → m ≡ 2 → 28 ≡ month_len y (m - 1)
  month_common b e t h = month_second false (sym t ∙ e) h

  module _ (pre : (1 ≤ m) × (m ≤ 12)) where
    pub day_early : (d : ℕ) → d ≤ 28 → leb d 28 ≡ leb d (month_len y (m - 1))
    day_early d h = le-leb d 28 h ∙ sym (le-leb d (month_len y (m - 1)) (omega (arith, month_within y (m - 1) (omega arith))))

    month_right : (length_right (leap_of y) (m - 1) ≡ true) × (days_right (leap_of y) (m - 1) ≡ true)
    month_right =
        let t = each_at (λ (k : ℕ). length_right (leap_of y) k && days_right (leap_of y) k) 12 (all_right (leap_of y)) (m - 1) (omega arith) in
        (search and_l, search and_r)

    this : suc (m - 1) ≡ m
    this = omega arith

    pub month_other : (m ≡ 2 → ⊥) → 30 + (m + m / 8) % 2 ≡ month_len y (m - 1)
    unfolding length_right length_by month_len
    month_other h = eqb-true _ _ (rw (ne_eqb (m - 1) 1 (λ q. h (omega arith)), this) at month_right.0)

    days_are : (days_by m ≡ before (month_len y) (m - 1) + lacking (leap_of y) (m - 1)) × (before (month_len y) (m - 1) ≤ 335)
    unfolding days_right month_len
    days_are =
        let t = rw this at month_right.1 in
        (eqb-true _ _ (search and_l), leb-true _ _ (search and_r))

    pub months_first : m < 3 → ((489 * m - 480) / 16 ≡ before (month_len y) (m - 1)) × ((489 * m - 480) / 16 ≤ 335)
    unfolding lacking days_by
    months_first h = omega (arith, rw (lt-leb 2 (m - 1) (omega arith)) at days_are)

    months_later : (leap : Bool) → leap ≡ leap_of y → 3 ≤ m
        → (days_by m - cond leap 1 2 ≡ before (month_len y) (m - 1)) × (days_by m - cond leap 1 2 ≤ 335)
    unfolding lacking
    months_later leap e h = omega (arith, rw (sym e, le-leb 2 (m - 1) (omega arith)) at days_are)

    pub months_leap : (b : Bool) → b ≡ leap_of y → b ≡ true → 3 ≤ m
        → ((489 * m - 480) / 16 - 1 ≡ before (month_len y) (m - 1)) × ((489 * m - 480) / 16 - 1 ≤ 335)
    unfolding days_by
    months_leap b e t h = months_later true (sym t ∙ e) h

    pub months_common : (b : Bool) → b ≡ leap_of y → b ≡ false → 3 ≤ m
        → ((489 * m - 480) / 16 - 2 ≡ before (month_len y) (m - 1)) × ((489 * m - 480) / 16 - 2 ≤ 335)
    unfolding days_by
    months_common b e t h = months_later false (sym t ∙ e) h
