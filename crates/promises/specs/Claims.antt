-- The kinds of claims that document 01's marked examples make, as data, and what it is for one to hold, computed by the
-- library's own definitions.
-- Claim; case_question; holds. The examples are in Marked.
-- Assumes nothing.
use Rattle.std.specs.Prelude.{ℕ, ◌+◌, Bool, true, false, ◌&&◌, not, List, [], ◌∷◌, ◌++◌, eqb, length, take, replicate, Option, Some, None, Ok, Err}
use Rattle.octets.specs.Number.{value_of}
use Rattle.octets.specs.Same.{same_of}
use Rattle.element.specs.Length.{length_form}
use Rattle.element.specs.Header.{header_of}
use Rattle.element.specs.Places.{HeaderRead}
use Rattle.content.specs.Serial.{serial_ok, serial_form}
use Rattle.calendar.specs.Examples.{text}
use Rattle.calendar.specs.Time.{time_of, time_form}
use Rattle.freshness.specs.Fresh.{fresh_of, fresh_refusal}
use Rattle.answer.specs.Verdict.{number_of}
use Rattle.answer.specs.declared.Card.{Card}
use Rattle.rules.specs.Ruling.{answer_of}
use Rattle.rules.specs.declared.Question.{Question}
use Rattle.request.specs.Request.{request_of, request_refusal}

-- what document 01 marks; digits are the decimal digits before the Z
pub data Claim : Type 0 where
  -- these digits and a Z are that many seconds; are no time
  is_time : (digits seconds : ℕ) → Claim
  no_time : (digits : ℕ) → Claim
  -- a length has these octets; these octets, with as many after them, are no length
  is_length : ℕ → List ℕ → Claim
  no_length : List ℕ → ℕ → Claim
  -- these octets are the serial with that number; are no serial
  is_serial : List ℕ → ℕ → Claim
  no_serial : List ℕ → Claim
  -- a response gives this refusal
  gives : List ℕ → ℕ → Claim
  -- thisUpdate, nextUpdate, tolerance, now: the refusal, 0 for none
  counts : (this next tolerance now number : ℕ) → Claim
  -- the request for a card has this many octets, and begins with these
  request : Card → ℕ → List ℕ → Claim

-- a time is this many seconds
abbrev is_at : Option ℕ → ℕ → Bool
is_at (Some n) m = eqb n m
is_at None m = false

-- it is none
abbrev is_no : Option ℕ → Bool
is_no (Some n) = false
is_no None = true

-- a header has this size, and its content this length
abbrev is_found : HeaderRead → ℕ → ℕ → Bool
is_found (Ok h) size len = eqb h.start size && eqb h.len len
is_found (Err p) size len = false

-- it is refused
abbrev is_refused : HeaderRead → Bool
is_refused (Ok h) = false
is_refused (Err p) = true

-- the question of document 01's case, whose response is any
abbrev pub case_question : Question
case_question = record {
  card = record { name = replicate 20 0x11; key = replicate 20 0x22; serial = 5 ∷ replicate 19 0; size = 1 };
  now = 1114909200;
  tolerance = 0;
  verdict = 1;
  role = 1;
  marks = 0;
  signer = replicate 20 0x33;
}

-- whether a claim holds: read and written both, where it is so
unfoldable pub holds : Claim → Bool
holds (is_time d n) = is_at (time_of (text d)) n && same_of (time_form n) (text d)
holds (no_time d) = is_no (time_of (text d))
holds (is_length n l) = same_of (length_form n) l && is_found (header_of (0x04 ∷ (l ++ replicate n 0))) (1 + length l) n
holds (no_length l n) = is_refused (header_of (0x04 ∷ (l ++ replicate n 0)))
holds (is_serial l n) = serial_ok l && eqb (value_of l) n && same_of (serial_form n) l
holds (no_serial l) = not (serial_ok l)
holds (gives s n) = eqb (number_of (answer_of case_question [] s).verdict) n
holds (counts this next tolerance now n) = eqb (fresh_refusal (fresh_of this (Some next) now tolerance)) n
holds (request c n l) = eqb (request_refusal c) 0 && eqb (length (request_of c)) n && same_of (take (length l) (request_of c)) l
