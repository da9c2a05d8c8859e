-- The seconds of octets that are known to be a time, without a test of their digits.
-- raw_pair, raw_at, raw_day, plain_clock, plain_seconds. That they are the time's own seconds is in PlainLaws; what other octets give
-- says nothing. The times themselves are in Time.
-- A digit's octet is 48 more than the digit, so a pair is 528 more than the number of two digits, a year 53,328 more, and the
-- seconds of a day 1,933,008 more.
-- Assumes nothing.
use Rattle.std.specs.Prelude.{ℕ, ◌+◌, ◌-◌, ◌*◌, List, cond, ltb, eqb, length, get_or}
use Rattle.calendar.specs.Date.{days_of}

-- ten times an octet, and another
unfoldable pub raw_pair : ℕ → ℕ → ℕ
raw_pair a b = a * 10 + b

-- of the two octets at a place
abbrev pub raw_at : List ℕ → ℕ → ℕ
raw_at s i = raw_pair (get_or s i 0) (get_or s (i + 1) 0)

-- the seconds of a day, by the pairs of its time
abbrev pub raw_day : ℕ → ℕ → ℕ → ℕ
raw_day h mi se = h * 3600 + mi * 60 + se

-- the seconds since 1970, by seven pairs, the first two of them the year; 0 where there is no such year, month, day or time
unfoldable pub plain_clock : ℕ → ℕ → ℕ → ℕ → ℕ → ℕ → ℕ → ℕ
plain_clock c y mo d h mi se =
    cond (ltb (c * 100 + y) 55298) 0
    (cond (ltb 63327 (c * 100 + y)) 0
    (cond (ltb mo 529) 0
    (cond (ltb 540 mo) 0
    (cond (ltb d 529) 0
    (cond (ltb (raw_day h mi se) 1933008) 0
    (days_of (c * 100 + y - 53328) (mo - 528) (d - 528) * 86400 + (raw_day h mi se - 1933008)))))))

-- the seconds that 15 octets write
unfoldable pub plain_seconds : List ℕ → ℕ
plain_seconds s =
    cond (eqb (length s) 15)
    (plain_clock (raw_at s 0) (raw_at s 2) (raw_at s 4) (raw_at s 6) (raw_at s 8) (raw_at s 10) (raw_at s 12))
    0
