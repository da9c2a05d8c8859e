-- The slip that the desk itself wrote (document 02, C-11), for crate promises to cite: it says what the check
-- answered to the question in those octets.
-- desk_asked, desk_says.
-- `asked q r` is the desk's answer to the octets of a question and a response (question: Asked). Assumes nothing.
use Rattle.std.specs.Prelude.{ℕ, ◌≡◌, refl, Bool, true, false, List}
use Rattle.std.proofs.Common.{ap, ◌∙◌}
use Rattle.octets.specs.Octets.{Octets}
use Rattle.answer.specs.declared.Answer.{Answer}
use Rattle.answer.specs.Verdict.{without_place, refused}
use Rattle.slip.specs.Slip.{slip_of}
use Rattle.slip.specs.SlipLaws.{read_written}
use Rattle.rules.specs.Ruling.{answer_of}
use Rattle.rules.proofs.RulingLaws.{accepted_placeless}
use Rattle.rules.specs.Accepted.{NoRefusal}
use Rattle.desk_question.specs.Asked.{question_in, name_in, question_ok, asked}
use Rattle.desk_question.proofs.AskedLaws.{asked_kept, asked_broken}
use Rattle.desk_question.proofs.FitsLaws.{fits_slip}
use Rattle.desk_question.proofs.SizeLaws.{asked_sized}
use Rattle.cache_rules.specs.Place.{says_of}

-- an answer that is no refusal is the check's
pub desk_asked : (q r : List ℕ) → NoRefusal (asked q r).verdict → asked q r ≡ answer_of (question_in 20 q) (name_in 20 q) r
unfolding refused
desk_asked q r v = go (question_ok 20 q) refl
  where
    go : (t : Bool) → question_ok 20 q ≡ t → asked q r ≡ answer_of (question_in 20 q) (name_in 20 q) r
    go true e = asked_kept q r e
    go false e = absurd (v 1 0 (ap (λ (a : Answer). a.verdict) (asked_broken q r e)))

-- its slip says it
pub desk_says : (q r : List ℕ) → Octets r → NoRefusal (asked q r).verdict → says_of (slip_of (asked q r)) ≡ answer_of (question_in 20 q) (name_in 20 q) r
desk_says q r o v =
    let e = desk_asked q r v in
    read_written (asked q r) (fits_slip q r o) 20 (λ c. asked_sized q r) ∙ ap without_place e
    ∙ accepted_placeless (question_in 20 q) (name_in 20 q) r (rw e at v)
