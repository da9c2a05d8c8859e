-- How long the slip of an answer of the check is: at most 87 octets.
-- slip_most; card_sized, answer_sized, asked_sized; asked_most.
-- The slip is in crate slip. Assumes nothing.
use Rattle.std.specs.Prelude.{ℕ, ◌+◌, ◌≤◌, ◌≡◌, refl, Bool, true, false, List, length, drop}
use Rattle.std.proofs.Common.{⊎_elim, lit≤}
use Rattle.layout.specs.Reading.{Entry, Basic}
use Rattle.answer.specs.declared.Verdict.{Verdict}
use Rattle.answer.specs.declared.Verdict.TheVariants.{Good, Revoked, Unknown, Refused}
use Rattle.answer.specs.declared.Answer.{Answer}
use Rattle.answer.specs.Card.{empty_card}
use Rattle.answer.specs.Verdict.{kind_of}
use Rattle.answer.specs.VerdictLaws.{refused_card}
use Rattle.fields.specs.Field.{card_in}
use Rattle.fields.specs.FieldLaws.{field_length}
use Rattle.rules.specs.declared.Question.{Question}
use Rattle.rules.specs.Ruling.{answer_of}
use Rattle.rules.specs.Accepted.{Accepted, IsRefusal}
use Rattle.rules.proofs.RulingLaws.{accepted_answer}
use Rattle.rules.proofs.RefusalLaws.{answer_either}
use Rattle.slip.specs.Numbers.{total}
use Rattle.slip.specs.Table.{row_in, row_of, body_size, size_of}
use Rattle.slip.specs.Slip.{slip_of, Sized}
use Rattle.slip.specs.SlipLaws.{slip_length}
use Rattle.desk_question.specs.Asked.{question_in, name_in, question_ok, asked}
use Rattle.desk_question.proofs.AskedLaws.{asked_broken, asked_kept}

-- 78 octets, 87 and 3
size_most : (v : Verdict) → size_of 20 (kind_of v) ≤ 87
unfolding size_of body_size row_of row_in total
size_most (Good this next) = lit≤ tt
size_most (Revoked this next at reason) = lit≤ tt
size_most (Unknown this next) = lit≤ tt
size_most (Refused number status) = lit≤ tt

-- the slip of an answer whose card has its lengths
pub slip_most : (a : Answer) → Sized 20 a.card → length (slip_of a) ≤ 87
slip_most a h = rw (slip_length 20 a (λ c. h)) (size_most a.verdict)

-- ---- the card of an answer

empty_sized : Sized 20 empty_card
unfolding empty_card
empty_sized = record { name = refl; key = refl; serial = refl }

-- a card that is read has the lengths of its fields
pub card_sized : (n : ℕ) (s : List ℕ) → Sized n (card_in n s)
unfolding card_in
card_sized n s = record { name = field_length n s 0; key = field_length n s n; serial = field_length 20 s (n + n + 1) }

-- an answer's card is the question's or the empty one
pub answer_sized : (q : Question) (name s : List ℕ) → Sized 20 q.card → Sized 20 (answer_of q name s).card
answer_sized q name s h = ⊎_elim of_accepted of_refusal (answer_either q name s)
  where
    of_accepted : (b : Basic) × (e : Entry) × (next : ℕ) × Accepted q name s b e next → Sized 20 (answer_of q name s).card
    of_accepted (b, e, next, a) = rw (accepted_answer q name s b e next a) h

    of_refusal : (n status : ℕ) × IsRefusal s (answer_of q name s) n status → Sized 20 (answer_of q name s).card
    of_refusal (n, status, r) = rw r.card empty_sized

question_sized : (q : List ℕ) → Sized 20 (question_in 20 q).card
unfolding question_in
question_sized q = card_sized 20 (drop 1 q)

pub asked_sized : (q r : List ℕ) → Sized 20 (asked q r).card
asked_sized q r = go (question_ok 20 q) refl
  where
    go : (t : Bool) → question_ok 20 q ≡ t → Sized 20 (asked q r).card
    go true e = rw (asked_kept q r e) (answer_sized (question_in 20 q) (name_in 20 q) r (question_sized q))
    go false e = rw (asked_broken q r e, refused_card 1 0) empty_sized

-- every answer's slip has at most 87 octets
pub asked_most : (q r : List ℕ) → length (slip_of (asked q r)) ≤ 87
asked_most q r = slip_most (asked q r) (asked_sized q r)
