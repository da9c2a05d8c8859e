-- What document 01 says of each case of an answer: its kind, its values, and the number and the status of a refusal.
-- kind_of; reason_of, values_of; number_of, status_of; saying, without_place; refused_at, refused. That a refusal is none of the
-- others is in VerdictLaws.
-- Assumes nothing.
use Rattle.std.specs.Prelude.{ℕ, List, [], ◌∷◌, Option, Some, None}
use Rattle.answer.specs.declared.Verdict.{Verdict}
use Rattle.answer.specs.declared.Verdict.TheVariants.{Good, Revoked, Unknown, Refused}
use Rattle.answer.specs.declared.Card.{Card}
use Rattle.answer.specs.declared.Answer.{Answer}
use Rattle.answer.specs.Card.{empty_card}

-- 1 good, 2 revoked, 3 unknown, 4 refusal
abbrev pub kind_of : Verdict → ℕ
kind_of (Good this next) = 1
kind_of (Revoked this next at reason) = 2
kind_of (Unknown this next) = 3
kind_of (Refused number status) = 4

-- a reason as a number, FF if absent
abbrev pub reason_of : Option ℕ → ℕ
reason_of (Some n) = n
reason_of None = 255

-- thisUpdate, nextUpdate and, for revoked, the revocationTime and the reason; of a refusal the number and the status
abbrev pub values_of : Verdict → List ℕ
values_of (Good this next) = this ∷ next ∷ []
values_of (Revoked this next at reason) = this ∷ next ∷ at ∷ reason_of reason ∷ []
values_of (Unknown this next) = this ∷ next ∷ []
values_of (Refused number status) = number ∷ status ∷ []

-- the number of a refusal, 0 where there is none
abbrev pub number_of : Verdict → ℕ
number_of (Good this next) = 0
number_of (Revoked this next at reason) = 0
number_of (Unknown this next) = 0
number_of (Refused number status) = number

-- the status that goes with the number, 0 where there is none
abbrev pub status_of : Verdict → ℕ
status_of (Good this next) = 0
status_of (Revoked this next at reason) = 0
status_of (Unknown this next) = 0
status_of (Refused number status) = status

-- a verdict for a card, without a place
abbrev pub saying : Verdict → Card → Answer
saying verdict card = record { verdict = verdict; card = card; place = None }

-- the same answer without its place
abbrev pub without_place : Answer → Answer
without_place a = saying a.verdict a.card

-- a refusal returns its number and status, the place where it has one, and an empty card
abbrev pub refused_at : ℕ → ℕ → Option ℕ → Answer
refused_at number status place = record { verdict = Refused number status; card = empty_card; place = place }

-- one that has no place
unfoldable pub refused : ℕ → ℕ → Answer
refused number status = refused_at number status None
