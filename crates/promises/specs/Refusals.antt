-- What the check refuses (demand 2): refusal n exactly when row n of document 01's table applies and no earlier one does,
-- what a refusal hands out, and that it is never good, revoked or unknown.
-- When the test of each row applies, in plain terms, is in Rows.
-- table; refused_exactly, handed_out, empty_card_lem, error_status; never_revoked, always_answered, out_of_range.
-- `tests` is the table from 1 to 16 as data, of a case: question, Name, size and what the octets read as (rules: Order).
-- Assumes nothing.
use Rattle.std.specs.Prelude.{ℕ, ◌≤◌, ◌<◌, ◌⊎◌, ◌↔◌, ◌≡◌, refl, true, false, ◌&&◌, not, List, [], ◌∷◌, ltb, eqb, replicate, Option, Some, None}
use Rattle.octets.specs.Octets.{Octets}
use Rattle.layout.specs.Reading.{Entry, Basic, failed}
use Rattle.layout.specs.Read.{reads, unfit}
use Rattle.layout.proofs.Read.{reading}
use Rattle.layout.specs.Limits.{FailureOk}
use Rattle.answer.specs.Card.{empty_card}
use Rattle.answer.specs.Verdict.{refused}
use Rattle.answer.specs.declared.Verdict.TheVariants.{Good, Revoked, Unknown, Refused}
use Rattle.rules.specs.declared.Question.{Question}
use Rattle.rules.specs.Question.{in_range}
use Rattle.rules.specs.Signer.{is_signer, in_response, in_entry, strange_in}
use Rattle.rules.specs.Order.{Case, is_unfit, is_failed, is_other, entries_for, is_none, are_more, lacks_mark, missed, of_response, of_entry, tests, first_of}
use Rattle.rules.specs.Rows.{test_of}
use Rattle.rules.specs.Ruling.{case_of, answer_of}
use Rattle.rules.specs.Accepted.{Accepted, IsRefusal}
use Rattle.rules.proofs.RefusalLaws as ruling

-- the table, row by row: each number, and whether its test applies
pub table : (c : Case) → tests c
    ≡ (1, not (in_range c.question c.name))
    ∷ (2, ltb 16384 c.size)
    ∷ (3, is_unfit c.outcome)
    ∷ (4, is_failed c.outcome)
    ∷ (5, is_other c.outcome)
    ∷ (6, not (eqb c.question.verdict 1))
    ∷ (7, of_response c (λ b. not (is_signer c.question.signer c.name b.signed.responder)))
    ∷ (8, eqb c.question.role 2 && lacks_mark c.question.marks)
    ∷ (9, of_response c (λ b. strange_in in_response b.signed.extensions))
    ∷ (10, of_response c (λ b. is_none (entries_for c.question.card b.signed.entries)))
    ∷ (11, of_response c (λ b. are_more (entries_for c.question.card b.signed.entries)))
    ∷ (12, of_entry c (λ e. strange_in in_entry e.extensions))
    ∷ (13, of_entry c (λ e. eqb (missed c.question e) 13))
    ∷ (14, of_entry c (λ e. eqb (missed c.question e) 14))
    ∷ (15, of_entry c (λ e. eqb (missed c.question e) 15))
    ∷ (16, of_entry c (λ e. eqb (missed c.question e) 16))
    ∷ []
unfolding tests
table c = refl

module _ (q : Question) (name s : List ℕ) where
  -- the answer is refusal n exactly when row n applies and no earlier one does
  pub refused_exactly : (n : ℕ)
      → ((status : ℕ) × IsRefusal s (answer_of q name s) n status)
      ↔ (test_of n (tests (case_of q name s)) ≡ true) × ((m : ℕ) → m < n → test_of m (tests (case_of q name s)) ≡ false)
  refused_exactly = ruling.refusal_exactly q name s

  -- a refusal hands out its number, 1 to 16; with 4 the response's status, with another number 0; with 3 the place where the
  -- response does not fit, with another number none; and an empty card
  pub handed_out : (n status : ℕ) → (answer_of q name s).verdict ≡ Refused n status
      → ((answer_of q name s).card ≡ empty_card)
      × (1 ≤ n) × (n ≤ 16)
      × (n ≡ 4 → reading s ≡ reads (failed status))
      × ((n ≡ 4 → ⊥) → status ≡ 0)
      × (n ≡ 3 → (p : ℕ) × (reading s ≡ unfit p) × ((answer_of q name s).place ≡ Some p))
      × ((n ≡ 3 → ⊥) → (answer_of q name s).place ≡ None)
  handed_out n status v =
      let r = ruling.refusal_whole q name s n status v in
      (r.card, r.least, r.most, r.four, r.other, r.three, r.placeless)

  -- the status that goes with 4 is 1, 2, 3, 5 or 6
  pub error_status : Octets s → (status : ℕ) → IsRefusal s (answer_of q name s) 4 status → FailureOk status
  error_status = ruling.refusal_status q name s

  -- where a row applies first, the answer is its refusal, and is not good, revoked or unknown
  pub never_revoked : (n : ℕ) → (n ≡ 0 → ⊥) → first_of (tests (case_of q name s)) ≡ n
      → ((status : ℕ) × IsRefusal s (answer_of q name s) n status)
      × ((this next : ℕ) → (answer_of q name s).verdict ≡ Good this next → ⊥)
      × ((this next at : ℕ) (reason : Option ℕ) → (answer_of q name s).verdict ≡ Revoked this next at reason → ⊥)
      × ((this next : ℕ) → (answer_of q name s).verdict ≡ Unknown this next → ⊥)
  never_revoked = ruling.refusal_not_revoked q name s

  -- every response is accepted, or refused with one of the sixteen numbers
  pub always_answered : ((b : Basic) × (e : Entry) × (next : ℕ) × Accepted q name s b e next) ⊎ ((n status : ℕ) × IsRefusal s (answer_of q name s) n status)
  always_answered = ruling.answer_either q name s

  -- a question out of range gives 1, whatever the response is
  pub out_of_range : in_range q name ≡ false → answer_of q name s ≡ refused 1 0
  out_of_range = ruling.out_of_range q name s

-- the empty card: every octet zero, and a serial of no octets
pub empty_card_lem : empty_card ≡ record { name = replicate 20 0; key = replicate 20 0; serial = replicate 20 0; size = 0 }
unfolding empty_card
empty_card_lem = refl
