-- A number of seconds and the moment that it falls in: each is settled by the other.
-- Real, real_facts, real_is; moment_sound, moment_only, seconds_limit. Other crates need only TimeLaws.
-- Assumes nothing.
use Rattle.std.specs.Prelude.{ℕ, ◌+◌, ◌-◌, ◌*◌, ◌/◌, ◌%◌, ◌≤◌, ◌<◌, ◌≡◌, refl, true}
use native.Mathlib.Omega.{arith}
use Rattle.std.proofs.Common.{ap, ◌∙◌, leb-true, le-leb}
use Rattle.calendar.specs.Split.{before, find}
use Rattle.calendar.specs.SplitLaws.{find_sound, find_only, before_less}
use Rattle.calendar.specs.Date.{year_len, month_len}
use Rattle.calendar.specs.DateLaws.{and_l, and_r, and_both, year_whole, days_whole}
use Rattle.calendar.specs.Time.{last_second, Moment, is_real, seconds_of, moment_of}

-- what `is_real` tests, as facts
pub record Real (m : Moment) : Type 0 where
  pub from : 1970 ≤ m.year
  pub to : m.year ≤ 9999
  pub first : 1 ≤ m.month
  pub last : m.month ≤ 12
  pub begun : 1 ≤ m.day
  pub within : m.day ≤ month_len m.year (m.month - 1)
  pub hours : m.hour < 24
  pub minutes : m.minute < 60
  pub seconds : m.second < 60

pub real_facts : (m : Moment) → is_real m ≡ true → Real m
unfolding is_real
real_facts m e = search (and_l, and_r, leb-true) depth 12

pub real_is : (m : Moment) → Real m → is_real m ≡ true
unfolding is_real
real_is m r = search (and_both, le-leb) depth 12

-- k whole years, j whole months and r whole days passed, and the time of day of n
abbrev fallen : ℕ → ℕ → ℕ → ℕ → Moment
fallen n k j r =
    record { year = 1970 + k; month = 1 + j; day = 1 + r; hour = n % 86400 / 3600; minute = n % 86400 % 3600 / 60; second = n % 86400 % 60 }

module _ (n k j r : ℕ) (y : k < 8030) (m : j < 12) (d : r < month_len (1970 + k) j)
    (e : before year_len k + (before (month_len (1970 + k)) j + r) ≡ n / 86400) where
  fallen_only : moment_of n ≡ fallen n k j r
  unfolding moment_of
  fallen_only =
      let months = month_len (1970 + k) in
      let rest = before months j + r in
      let l : rest < year_len k = rw (← year_whole k) (before_less months j 12 r m d) in
      rw (find_only year_len 8030 (n / 86400) (k, rest) (y, l, e), find_only months 12 rest (j, r) (m, d, refl))

  fallen_real : Real (fallen n k j r)
  fallen_real =
      let f : 1 + j - 1 ≡ j = omega arith in
      omega (arith, ap (month_len (1970 + k)) f)

  fallen_seconds : seconds_of (fallen n k j r) ≡ n
  unfolding seconds_of
  fallen_seconds =
      let a : 1970 + k - 1970 ≡ k = omega arith in
      let b : 1 + j - 1 ≡ j = omega arith in
      let c : 1 + r - 1 ≡ r = omega arith in
      let t : n % 86400 / 3600 * 3600 + n % 86400 % 3600 / 60 * 60 + n % 86400 % 60 ≡ n % 86400 = omega arith in
      rw (a, b, c, t) (omega arith)

-- a number of seconds has a real moment, whose seconds it is
pub moment_sound : (n : ℕ) → n ≤ last_second → Real (moment_of n) × (seconds_of (moment_of n) ≡ n)
unfolding moment_of
moment_sound n h =
    let y = find year_len 8030 0 (n / 86400) in
    let p = find_sound year_len 8030 (n / 86400) (rw days_whole (omega arith)) in
    let months = month_len (1970 + y.0) in
    let m = find months 12 0 y.1 in
    let q = find_sound months 12 y.1 (rw (year_whole y.0) p.1) in
    let e : before year_len y.0 + (before months m.0 + m.1) ≡ n / 86400 = rw q.2 p.2 in
    (fallen_real n y.0 m.0 m.1 p.0 q.0 q.1 e, fallen_seconds n y.0 m.0 m.1 p.0 q.0 q.1 e)

module _ (m : Moment) (r : Real m) where
  year_part : 1970 + (m.year - 1970) ≡ m.year
  year_part = omega arith

  -- the moment of a real moment's seconds is that moment
  pub moment_only : moment_of (seconds_of m) ≡ m
  unfolding seconds_of
  moment_only =
      let k = m.year - 1970 in
      let j = m.month - 1 in
      let f = m.day - 1 in
      let t = m.hour * 3600 + m.minute * 60 + m.second in
      let w : f < month_len m.year j = omega arith in
      let e : before year_len k + (before (month_len m.year) j + f) ≡ seconds_of m / 86400 = omega arith in
      let mo : 1 + j ≡ m.month = omega arith in
      let da : 1 + f ≡ m.day = omega arith in
      let time : seconds_of m % 86400 ≡ t = omega arith in
      let ho : t / 3600 ≡ m.hour = omega arith in
      let mi : t % 3600 / 60 ≡ m.minute = omega arith in
      let se : t % 60 ≡ m.second = omega arith in
      fallen_only (seconds_of m) k j f (omega arith) (omega arith) (rw year_part w) (rw year_part e)
      ∙ rw (year_part, mo, da, time, ho, mi, se)

  -- and lies before the year 10000
  pub seconds_limit : seconds_of m ≤ last_second
  unfolding seconds_of
  seconds_limit =
      let k = m.year - 1970 in
      let j = m.month - 1 in
      let f = m.day - 1 in
      let months : before (month_len m.year) j + f < before (month_len m.year) 12 = before_less (month_len m.year) j 12 f (omega arith) (omega arith) in
      let w : before (month_len m.year) 12 ≡ year_len k = rw year_part at (year_whole k) in
      let years = before_less year_len k 8030 (before (month_len m.year) j + f) (omega arith) (rw w at months) in
      omega (arith, rw days_whole at years)
