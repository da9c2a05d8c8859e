-- Contents that are read as numbers: a time as seconds since 1970, a serial as a whole number. That they
-- are rests on the laws of calendar and content.
-- time_read, time_content; serial_read, serial_content. The other contents are in Words.
-- The laws stand here, and what is made of them; the definitions in specs/Numbers.
-- Assumes nothing.
use Rattle.std.specs.Prelude.{ℕ, ◌<◌, ◌≤◌, ◌^◌, ◌≡◌, refl, Bool, true, false, cond, List, Option, Some, None}
use Rattle.std.proofs.Common.{arith, ap}
use Rattle.std.proofs.Math.Option.{none, some}
use Rattle.octets.specs.Octets.{Octets}
use Rattle.octets.specs.OctetsLaws.{octets_from}
use Rattle.octets.specs.Number.{value_of}
use Rattle.content.specs.Serial.{serial_ok, serial_form}
use Rattle.content.specs.SerialLaws.{serial_sound, serial_complete}
use Rattle.calendar.specs.Time.{last_second, time_of, time_form}
use Rattle.calendar.specs.TimeLaws.{time_sound, time_complete, time_octets}
use Rattle.codec.specs.Codec.{Content}
use Rattle.layout.specs.Numbers.{seconds_in, serial_read, time_read}

pub none_some : {A X : Type 0} {a : A} → none ≡ some a → X
none_some e = let z : ◌≡◌ {A = ℕ} 0 1 = cc in absurd (omega arith)

-- what passed a test
pub passed : {A : Type 0} (b : Bool) (x a : A) → cond b (some x) none ≡ some a → (b ≡ true) × (x ≡ a)
passed true x a e = (refl, cc)
passed false x a e = none_some e

pub time_read_lem : (c : List ℕ) (n : ℕ) → time_read c ≡ some n → time_of c ≡ Some n
unfolding time_read
time_read_lem c n e = go (time_of c) e
  where
    go : (t : Option ℕ) → seconds_in t ≡ some n → t ≡ Some n
    go (Some m) e = let i : m ≡ n = cc in ap Some i
    go None e = none_some e

pub time_full : (n : ℕ) → n ≤ last_second → time_read (time_form n) ≡ some n
unfolding time_read
time_full n h = rw (time_complete n h)

-- a time, as seconds since 1970, up to the last second of year 9999
abbrev pub time_content : Content ℕ
time_content = record {
  dec = time_read;
  enc = time_form;
  ok = λ n. n ≤ last_second;
  sound = λ c n o e. time_sound c n (time_read_lem c n e);
  complete = time_full;
  octets = λ n h. octets_from (time_form n) (λ i l. time_octets n i);
}

pub serial_read_lem : (c : List ℕ) (n : ℕ) → Octets c → serial_read c ≡ some n → (n < 2 ^ 159) × (c ≡ serial_form n)
unfolding serial_read
serial_read_lem c n o e =
    let (k, i) = passed (serial_ok c) (value_of c) n e in
    rw i at (serial_sound c o k)

pub serial_full : (n : ℕ) → n < 2 ^ 159 → serial_read (serial_form n) ≡ some n
unfolding serial_read
serial_full n h = let v = serial_complete n h in rw (v.0, v.1)

abbrev pub serial_content : Content ℕ
serial_content = record {
  dec = serial_read;
  enc = serial_form;
  ok = λ n. n < 2 ^ 159;
  sound = serial_read_lem;
  complete = serial_full;
  octets = λ n h. (serial_complete n h).2;
}
