-- What a filing answers, and the number for each case of what filing and asking answer (document 02, C-11): a
-- refusal's own, 0 where there is none, and 256, which no refusal has, for "not held".
-- Filed; unfiled_number, filed_number, filed_count; asked_number. Laws are in NumberLaws. Assumes nothing.
use Rattle.std.specs.Prelude.{ℕ, Option, None, Some, Result, Ok, Err}
use Rattle.answer.specs.declared.Verdict.{Verdict}
use Rattle.answer.specs.Verdict.{number_of}
use Rattle.cache_rules.specs.declared.Unfiled.{Unfiled}
use Rattle.cache_rules.specs.declared.Unfiled.TheVariants.{NoCache, Clock, Slip, Full}

-- how many places are then not empty, or why it is refused
abbrev pub Filed : Type 0
Filed = Result ℕ Unfiled

-- of a refusal: no such cache, a time or tolerance out of range, no slip of kind 01 to 03, no place
abbrev pub unfiled_number : Unfiled → ℕ
unfiled_number NoCache = 19
unfiled_number Clock = 1
unfiled_number Slip = 17
unfiled_number Full = 20

-- of a filing: 0 where it is accepted, else 19, 1, 17 or 20
abbrev pub filed_number : Filed → ℕ
filed_number (Ok n) = 0
filed_number (Err e) = unfiled_number e

-- how many places are then not empty, 0 where it is refused
abbrev pub filed_count : Filed → ℕ
filed_count (Ok n) = n
filed_count (Err e) = 0

-- of an ask: 0 where the slip's answer is said, 256 where no place has the card, else 19, 1, 15 or 16
abbrev pub asked_number : Option Verdict → ℕ
asked_number None = 256
asked_number (Some v) = number_of v
