-- Contents that are read as numbers: a time as seconds since 1970, a serial as a whole number. That they
-- are rests on the laws of calendar and content.
-- time_read, time_content; serial_read, serial_content. The other contents are in Words.
-- The definitions stand here; the laws, and what is made of them, in proofs/Numbers.
-- Assumes nothing.
use Rattle.std.specs.Prelude.{ℕ, cond, List, Some, None}
use Rattle.std.specs.Prelude as prelude
use Rattle.std.proofs.Math.Option.{Option, none, some}
use Rattle.octets.specs.Number.{value_of}
use Rattle.content.specs.Serial.{serial_ok}
use Rattle.calendar.specs.Time.{time_of}

-- what a content gives of a time: its seconds, where it is one
abbrev pub seconds_in : prelude.Option ℕ → Option ℕ
seconds_in (Some n) = some n
seconds_in None = none

unfoldable pub time_read : List ℕ → Option ℕ
time_read c = seconds_in (time_of c)

-- a serial, as a whole number of fewer than 160 bits
unfoldable pub serial_read : List ℕ → Option ℕ
serial_read c = cond (serial_ok c) (some (value_of c)) none
