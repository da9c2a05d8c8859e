-- The check: the first refusal that applies, with its status or its place, else what the only entry for the card says.
-- reason_in, said, accepted, status_with, place_with, ruled, answer_of. What is proved of it is in RulingLaws.
-- Assumes nothing.
use Rattle.std.specs.Prelude.{ℕ, cond, List, [], ◌∷◌, eqb, length, None, Some, Option}
use Rattle.std.proofs.Math.Option as maybe
use Rattle.std.proofs.Math.Option.{none, some}
use Rattle.layout.specs.Reading.{Status, good, revoked, unknown, Entry, failed, basic}
use Rattle.layout.specs.Read.{Outcome, reads, other_type, unfit}
use Rattle.layout.proofs.Read.{reading}
use Rattle.answer.specs.Verdict.{saying, refused_at, refused}
use Rattle.answer.specs.declared.Card.{Card}
use Rattle.answer.specs.declared.Verdict.{Verdict}
use Rattle.answer.specs.declared.Verdict.TheVariants.{Good, Revoked, Unknown}
use Rattle.answer.specs.declared.Answer.{Answer}
use Rattle.rules.specs.declared.Question.{Question}
use Rattle.rules.specs.Order.{Case, status_in, misfit_in, entries_for, tests, first_of}

-- the reason, or its absence
abbrev pub reason_in : maybe.Option ℕ → Option ℕ
reason_in none = None
reason_in (some n) = Some n

-- what a status says, with thisUpdate and nextUpdate
abbrev pub said : Status → ℕ → ℕ → Verdict
said good this next = Good this next
said unknown this next = Unknown this next
said (revoked t r) this next = Revoked this next t (reason_in r)

-- an entry with a nextUpdate, accepted for a card; without one it is refused
abbrev pub accepted : Card → Entry → maybe.Option ℕ → Answer
accepted card e none = refused 13 0
accepted card e (some next) = saying (said e.status e.this_update next) card

-- by the entries for the card: the only one is accepted
abbrev pub accepted_of : Card → List Entry → Answer
accepted_of card [] = refused 10 0
accepted_of card (e ∷ []) = accepted card e e.next_update
accepted_of card (e ∷ e' ∷ l) = refused 11 0

-- by what the response is
abbrev pub accepted_in : Card → Outcome → Answer
accepted_in card (unfit p) = refused_at 3 0 (Some p)
accepted_in card other_type = refused 5 0
accepted_in card (reads (failed n)) = refused 4 n
accepted_in card (reads (basic b)) = accepted_of card (entries_for card b.signed.entries)

-- what goes with a number: the status with 4, the place with 3
abbrev pub status_with : ℕ → Outcome → ℕ
status_with n o = cond (eqb n 4) (status_in o) 0

abbrev pub place_with : ℕ → Outcome → Option ℕ
place_with n o = cond (eqb n 3) (misfit_in o) None

-- the answer, by the number of the first refusal that applies
abbrev pub ruled : Case → ℕ → Answer
ruled c n =
    cond (eqb n 0) (accepted_in c.question.card c.outcome)
    (refused_at n (status_with n c.outcome) (place_with n c.outcome))

abbrev pub case_of : Question → List ℕ → List ℕ → Case
case_of q name s = record { question = q; name = name; size = length s; outcome = reading s }

-- what a response says for a question
unfoldable pub answer_of : Question → List ℕ → List ℕ → Answer
answer_of q name s = ruled (case_of q name s) (first_of (tests (case_of q name s)))
