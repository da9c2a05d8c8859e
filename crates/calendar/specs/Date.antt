-- The days of the Gregorian calendar, counted from 1970-01-01 (document 01, "Times").
-- leap_of, year_len, lengths, month_len, days_of. Their laws are in DateLaws.
-- Nothing outside this crate needs the month lengths.
-- Assumes nothing.
use Rattle.std.specs.Prelude.{ℕ, ◌+◌, ◌-◌, ◌%◌, List, [], ◌∷◌, Bool, true, false, cond, eqb, get_or}
use Rattle.calendar.specs.Split.{before}

-- every fourth year is a leap year, but of the hundredth years only every fourth
unfoldable pub leap_of : ℕ → Bool
leap_of y = cond (eqb (y % 4) 0) (cond (eqb (y % 100) 0) (eqb (y % 400) 0) true) false

-- the days of year 1970 + k
unfoldable pub year_len : ℕ → ℕ
year_len k = cond (leap_of (1970 + k)) 366 365

-- the month lengths, in a leap year and in a common year
abbrev pub lengths : Bool → List ℕ
lengths leap = 31 ∷ cond leap 29 28 ∷ 31 ∷ 30 ∷ 31 ∷ 30 ∷ 31 ∷ 31 ∷ 30 ∷ 31 ∷ 30 ∷ 31 ∷ []

-- the days of month 1 + k of year y
unfoldable pub month_len : ℕ → ℕ → ℕ
month_len y k = get_or (lengths (leap_of y)) k 0

-- the days from 1970-01-01 to day d of month m of year y
abbrev pub days_of : ℕ → ℕ → ℕ → ℕ
days_of y m d = before year_len (y - 1970) + before (month_len y) (m - 1) + (d - 1)
