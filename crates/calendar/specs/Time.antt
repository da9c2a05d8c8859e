-- GeneralizedTime of 15 octets, YYYYMMDDHHMMSSZ, and the seconds since 1970 (document 01, "Times").
-- last_second; Moment, is_real, seconds_of; reading: is_digit, pair_of, written, clock_of, pair_at, time_of, is_time; writing: two_digits, moment_form, moment_of, time_form.
-- That reading and writing undo each other is in TimeLaws.
-- Assumes nothing.
use Rattle.std.specs.Prelude.{ℕ, ◌+◌, ◌-◌, ◌*◌, ◌/◌, ◌%◌, List, [], ◌∷◌, ◌++◌, Option, Some, None, Bool, true, false, cond, ◌&&◌, ltb, leb, eqb, length, get_or}
use Rattle.calendar.specs.Split.{find}
use Rattle.calendar.specs.Date.{year_len, month_len, days_of}

-- the last second of year 9999
abbrev pub last_second : ℕ
last_second = 253402300799

-- a date and a time of day
pub record Moment : Type 0 where
  pub year : ℕ
  pub month : ℕ
  pub day : ℕ
  pub hour : ℕ
  pub minute : ℕ
  pub second : ℕ

-- years 1970 to 9999, real Gregorian dates, hours to 23, minutes and seconds to 59
unfoldable pub is_real : Moment → Bool
is_real m =
    leb 1970 m.year && leb m.year 9999
    && leb 1 m.month && leb m.month 12
    && leb 1 m.day && leb m.day (month_len m.year (m.month - 1))
    && ltb m.hour 24 && ltb m.minute 60 && ltb m.second 60

-- 86,400 times the days since 1970-01-01, plus the time of day
unfoldable pub seconds_of : Moment → ℕ
seconds_of m = days_of m.year m.month m.day * 86400 + (m.hour * 3600 + m.minute * 60 + m.second)

-- a decimal digit
abbrev pub is_digit : ℕ → Bool
is_digit a = leb 48 a && leb a 57

-- the number that two decimal digits write, or 100 where one of them is no digit
unfoldable pub pair_of : ℕ → ℕ → ℕ
pair_of a b = cond (is_digit a && is_digit b) ((a - 48) * 10 + (b - 48)) 100

-- the date and the time of day that seven pairs of digits write, the first two of them the year
abbrev pub written : ℕ → ℕ → ℕ → ℕ → ℕ → ℕ → ℕ → Moment
written c y mo d h mi se = record { year = c * 100 + y; month = mo; day = d; hour = h; minute = mi; second = se }

-- the time that seven pairs of digits write
unfoldable pub clock_of : ℕ → ℕ → ℕ → ℕ → ℕ → ℕ → ℕ → Option ℕ
clock_of c y mo d h mi se =
    let m = written c y mo d h mi se in
    cond (ltb c 100 && ltb y 100 && is_real m) (Some (seconds_of m)) None

-- the number that the two octets at a place write
abbrev pub pair_at : List ℕ → ℕ → ℕ
pair_at s i = pair_of (get_or s i 0) (get_or s (i + 1) 0)

-- the time that 15 octets write, the last of them Z
unfoldable pub time_of : List ℕ → Option ℕ
time_of s =
    cond (eqb (length s) 15 && eqb (get_or s 14 0) 90)
    (clock_of (pair_at s 0) (pair_at s 2) (pair_at s 4) (pair_at s 6) (pair_at s 8) (pair_at s 10) (pair_at s 12))
    None

-- whether a time was read
unfoldable pub is_time : Option ℕ → Bool
is_time (Some n) = true
is_time None = false

-- two decimal digits
abbrev pub two_digits : ℕ → List ℕ
two_digits n = (48 + n / 10 % 10) ∷ (48 + n % 10) ∷ []

-- the 15 octets of a date and a time of day
unfoldable pub moment_form : Moment → List ℕ
moment_form m = two_digits (m.year / 100) ++ two_digits (m.year % 100) ++ two_digits m.month ++ two_digits m.day ++ two_digits m.hour ++ two_digits m.minute ++ two_digits m.second ++ (90 ∷ [])

-- the date and the time of day of a number of seconds: whole years passed over, of the 8,030 from 1970 to 9999, then whole months
unfoldable pub moment_of : ℕ → Moment
moment_of n =
    let y = find year_len 8030 0 (n / 86400) in
    let m = find (month_len (1970 + y.0)) 12 0 y.1 in
    let t = n % 86400 in
    record { year = 1970 + y.0; month = 1 + m.0; day = 1 + m.1; hour = t / 3600; minute = t % 3600 / 60; second = t % 60 }

-- the 15 octets of a number of seconds
unfoldable pub time_form : ℕ → List ℕ
time_form n = moment_form (moment_of n)
