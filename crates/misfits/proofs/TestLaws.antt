-- The contents of the layout are read exactly where the tests of the description pass.
-- time_finds, serial_finds, bits_finds, single_finds; zero_content.
-- Assumes nothing.
use Rattle.std.specs.Prelude.{ℕ, ◌≡◌, refl, Bool, true, false, cond, List, [], ◌∷◌, Option, Some, None, eqb}
use Rattle.std.proofs.Math.Option.{none, some}
use Rattle.octets.specs.Number.{value_of}
use Rattle.octets.specs.Same.{same_of}
use Rattle.content.specs.Serial.{serial_ok}
use Rattle.calendar.specs.Time.{time_of, is_time}
use Rattle.codec.specs.Codec.{read}
use Rattle.codec.proofs.Outcome.{broke_read}
use Rattle.codec.specs.Contents.{filled_dec, or_start}
use Rattle.codec.specs.Views.{fit_of}
use Rattle.layout.specs.Words.{seconds_in, time_read, serial_read, bits_read, single_read}
use Rattle.layout.specs.Names.{succeeds}
use Rattle.faults.specs.Faults.{unless}
use Rattle.faults.specs.Order.{leftmost}
use Rattle.faults.specs.Finds.{WholeFinds}
use Rattle.faults.proofs.ContentLaws.{tested_finds}
use Rattle.misfits.specs.Tests.{time_ok, bits_ok, single_ok, is_zero}

pub time_finds : WholeFinds (filled_dec time_read) (λ c. unless (time_ok c))
unfolding filled_dec time_read is_time fit_of leftmost
time_finds c = go (time_of c)
  where
    go : (t : Option ℕ) → fit_of (or_start (seconds_in t)) ≡ leftmost (unless (is_time t))
    go (Some n) = refl
    go None = refl

pub serial_finds : WholeFinds (filled_dec serial_read) (λ c. unless (serial_ok c))
unfolding filled_dec serial_read
serial_finds c = tested_finds (serial_ok c) (value_of c)

pub bits_finds : WholeFinds (filled_dec bits_read) (λ c. unless (bits_ok c))
unfolding filled_dec bits_read bits_ok fit_of leftmost
bits_finds [] = refl
bits_finds (x ∷ []) = refl
bits_finds (x ∷ y ∷ s) = tested_finds (eqb x 0) (y ∷ s)

pub single_finds : (test : ℕ → Bool) → WholeFinds (filled_dec (single_read test)) (λ c. unless (single_ok test c))
unfolding filled_dec single_read single_ok fit_of leftmost
single_finds test [] = refl
single_finds test (x ∷ []) = tested_finds (test x) x
single_finds test (x ∷ y ∷ s) = refl

-- the number 0 is the content 00
pub zero_content : (test : ℕ → Bool) (c : List ℕ) (n : ℕ) → filled_dec (single_read test) c ≡ read n → succeeds n ≡ is_zero c
unfolding filled_dec single_read same_of
zero_content test [] n e = broke_read e
zero_content test (x ∷ []) n e = go (test x) e
  where
    on : (b : Bool) → b ≡ cond b true false
    on true = refl
    on false = refl

    go : (b : Bool) → or_start (cond b (some x) none) ≡ read n → eqb n 0 ≡ cond (eqb x 0) true false
    go true e = let i : x ≡ n = cc in rw i (on (eqb n 0))
    go false e = broke_read e
zero_content test (x ∷ y ∷ s) n e = broke_read e
