-- The seconds of octets that are a time, without a test of their digits, are the time's own.
-- KnownPairs, clock_known: pairs that pass the tests; plain_time.
-- The definitions are in Plain and Time. Assumes nothing.
use Rattle.std.specs.Prelude.{ℕ, ◌+◌, ◌-◌, ◌*◌, ◌/◌, ◌%◌, ◌≤◌, ◌<◌, ◌≡◌, List, Some}
use Rattle.std.proofs.Common.{arith, ap, ◌∙◌}
use borrow.Author.Tests.{le-ltb}
use Rattle.calendar.specs.Date.{days_of}
use Rattle.calendar.specs.DateLaws.{month_within}
use Rattle.calendar.specs.Time.{Moment, seconds_of, time_of, moment_form}
use Rattle.calendar.specs.MomentLaws.{Real}
use Rattle.calendar.specs.FormLaws.{read_form}
use Rattle.calendar.specs.Plain.{raw_pair, raw_day, plain_clock, plain_seconds}

module _ (c y mo d h mi se : ℕ) where
  -- the pairs pass each test of `plain_clock`
  pub record KnownPairs : Type 0 where
    pub from : 55298 ≤ c * 100 + y
    pub to : c * 100 + y ≤ 63327
    pub first : 529 ≤ mo
    pub last : mo ≤ 540
    pub begun : 529 ≤ d
    pub time : 1933008 ≤ raw_day h mi se

  pub clock_known : KnownPairs → plain_clock c y mo d h mi se ≡ days_of (c * 100 + y - 53328) (mo - 528) (d - 528) * 86400 + (raw_day h mi se - 1933008)
  unfolding plain_clock
  clock_known k =
      simp (
        le-ltb _ _ k.from,
        le-ltb _ _ k.to,
        le-ltb _ _ k.first,
        le-ltb _ _ k.last,
        le-ltb _ _ k.begun,
        le-ltb _ _ k.time,
      )

-- the two digits of a number below 100
raw_two : (n : ℕ) → n < 100 → raw_pair (48 + n / 10 % 10) (48 + n % 10) ≡ n + 528
unfolding raw_pair
raw_two n h = omega arith

-- the pairs of a real moment
clock_form : (m : Moment) → Real m
    → plain_clock (m.year / 100 + 528) (m.year % 100 + 528) (m.month + 528) (m.day + 528) (m.hour + 528) (m.minute + 528) (m.second + 528) ≡ seconds_of m
unfolding seconds_of
clock_form m r =
    let y : (m.year / 100 + 528) * 100 + (m.year % 100 + 528) - 53328 ≡ m.year = omega arith in
    let mo : m.month + 528 - 528 ≡ m.month = omega arith in
    let d : m.day + 528 - 528 ≡ m.day = omega arith in
    let t : raw_day (m.hour + 528) (m.minute + 528) (m.second + 528) - 1933008 ≡ m.hour * 3600 + m.minute * 60 + m.second = omega arith in
    clock_known _ _ _ _ _ _ _ (omega arith) ∙ rw (y, mo, d, t)

-- the octets of a real moment
plain_form : (m : Moment) → Real m → plain_seconds (moment_form m) ≡ seconds_of m
unfolding plain_seconds moment_form
plain_form m r =
    let long = month_within m.year (m.month - 1) (omega arith) in
    rw (
      raw_two (m.year / 100) (omega arith),
      raw_two (m.year % 100) (omega arith),
      raw_two m.month (omega arith),
      raw_two m.day (omega arith),
      raw_two m.hour (omega arith),
      raw_two m.minute (omega arith),
      raw_two m.second (omega arith),
    ) (clock_form m r)

-- octets that are a time
pub plain_time : (s : List ℕ) (n : ℕ) → time_of s ≡ Some n → plain_seconds s ≡ n
plain_time s n e =
    let (m, r, f, d) = read_form s n e in
    ap plain_seconds f ∙ plain_form m r ∙ d
