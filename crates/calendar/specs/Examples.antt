-- M1 to M6 of document 01, computed of the definitions; of each that is a time, also the octets of its number of seconds.
-- text, m1 .. m6; form1, form2, form3, form5.
-- Assumes nothing.
use Rattle.std.specs.Prelude.{ℕ, zero, suc, ◌+◌, ◌/◌, ◌%◌, ◌≡◌, refl, List, [], ◌∷◌, ◌++◌, Some, None}
use Rattle.calendar.specs.Split.{before, find}
use Rattle.calendar.specs.Date.{leap_of, year_len, month_len}
use Rattle.calendar.specs.Time.{is_real, seconds_of, pair_of, clock_of, time_of, moment_form, moment_of, time_form}

-- the octets of the last w decimal digits of a number
abbrev pub digits : ℕ → ℕ → List ℕ
digits zero n = []
digits (suc w) n = digits w (n / 10) ++ ((48 + n % 10) ∷ [])

-- the octets of fourteen decimal digits and a Z
abbrev pub text : ℕ → List ℕ
text n = digits 14 n ++ (90 ∷ [])

pub m1 : time_of (text 20050501010000) ≡ Some 1114909200
unfolding time_of clock_of pair_of is_real seconds_of month_len year_len leap_of before
m1 = refl

pub m2 : time_of (text 20051107235244) ≡ Some 1131407564
unfolding time_of clock_of pair_of is_real seconds_of month_len year_len leap_of before
m2 = refl

pub m3 : time_of (text 20000229000000) ≡ Some 951782400
unfolding time_of clock_of pair_of is_real seconds_of month_len year_len leap_of before
m3 = refl

pub m4 : time_of (text 21000229000000) ≡ None
unfolding time_of clock_of pair_of is_real seconds_of month_len year_len leap_of before
m4 = refl

pub m5 : time_of (text 99991231235959) ≡ Some 253402300799
unfolding time_of clock_of pair_of is_real seconds_of month_len year_len leap_of before
m5 = refl

pub m6 : time_of (text 20050501010060) ≡ None
unfolding time_of clock_of pair_of is_real seconds_of month_len year_len leap_of before
m6 = refl

pub form1 : time_form 1114909200 ≡ text 20050501010000
unfolding time_form moment_of moment_form find month_len year_len leap_of
form1 = refl

pub form2 : time_form 1131407564 ≡ text 20051107235244
unfolding time_form moment_of moment_form find month_len year_len leap_of
form2 = refl

pub form3 : time_form 951782400 ≡ text 20000229000000
unfolding time_form moment_of moment_form find month_len year_len leap_of
form3 = refl

pub form5 : time_form 253402300799 ≡ text 99991231235959
unfolding time_form moment_of moment_form find month_len year_len leap_of
form5 = refl
