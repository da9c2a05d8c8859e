-- Only what was signed may speak (document 02, C-23): of a response that passes 1 to 5, the signed reading and the question
-- decide the answer. Its signature, algorithm and certificates decide nothing.
-- whatever_around. Of the desk's answer to octets: asked_spoken, desk_spoken; asked_same, desk_same, same_line. What they rest on is in
-- specs/OnlySigned, SameSigned and SameAnswer.
-- `answer_of` is what rule_check::check answers for a question, the signer's Name and a response (rules: Ruling); role and marks of the
-- signer are in the question. `signed_of` is what show::signed_part shows (show: Shown), `asked` the answer to a question's octets and a
-- response, `desk_of` that to the program's input, the one behind the other (desk_question: Asked), `line_of` the program's line
-- (desk_question: Line). When an answer passes is in Passes.
-- Assumes nothing.
use Rattle.std.specs.Prelude.{ℕ, ◌≤◌, ◌≡◌, List, length, take, drop}
use Rattle.std.proofs.Common.{sym, ◌∙◌}
use Rattle.octets.specs.Octets.{Octets}
use Rattle.octets.specs.OctetsLaws.{octets_drop}
use Rattle.layout.specs.Reading.{Basic, basic}
use Rattle.layout.specs.Limits.{BasicOk}
use Rattle.layout.specs.Read.{reads}
use Rattle.layout.proofs.Read.{der, reading}
use Rattle.layout.proofs.Theorem.{complete, der_octets}
use Rattle.show.specs.Shown.{signed_of}
use Rattle.rules.specs.declared.Question.{Question}
use Rattle.rules.specs.Ruling.{answer_of}
use Rattle.desk_question.specs.Asked.{question_in, name_in, asked, desk_of}
use Rattle.desk_question.proofs.AskedLaws.{asked_kept}
use Rattle.desk_question.specs.Line.{line_of}
use Rattle.promises.specs.OnlySigned.{same_part, spoken_to, answer_spoken}
use Rattle.promises.specs.Passes.{Passes}
use Rattle.promises.proofs.Passes.{asked_passes_exactly}
use Rattle.promises.proofs.SameSigned.{same_signed}
use Rattle.promises.proofs.SameAnswer.{same_answer}

-- so whatever is put around a signed reading, as long as the limits hold, the responses show the same signed part, and every
-- question gets the same answer
pub whatever_around : (q : Question) (name : List ℕ) (b c : Basic) → BasicOk b → BasicOk c
    → length (der (basic b)) ≤ 16384 → length (der (basic c)) ≤ 16384 → b.signed ≡ c.signed
    → (signed_of (der (basic b)) ≡ signed_of (der (basic c))) × (answer_of q name (der (basic b)) ≡ answer_of q name (der (basic c)))
whatever_around q name b c h k l m i =
    let e = complete (basic b) h l in
    let f = complete (basic c) k m in (
      (same_part (der (basic b)) (der (basic c)) b c (der_octets (basic b) h l) (der_octets (basic c) k m) l m e f).1 i,
      same_signed q name (der (basic b)) (der (basic c)) b c l m e f i,
    )

-- ── the desk's answer to octets ──

-- the desk's answer about a basic response of at most 16,384 octets is that one, to a question and a response and to the program's
-- input
pub asked_spoken : (q s : List ℕ) (b : Basic) → length s ≤ 16384 → reading s ≡ reads (basic b) → asked q s ≡ spoken_to q b.signed
unfolding asked spoken_to
asked_spoken q s b l e = rw (answer_spoken (question_in 20 q) (name_in 20 q) s b l e)

pub desk_spoken : (s : List ℕ) (b : Basic) → length (drop 353 s) ≤ 16384 → reading (drop 353 s) ≡ reads (basic b)
    → desk_of s ≡ spoken_to (take 353 s) b.signed
unfolding desk_of
desk_spoken s = asked_spoken (take 353 s) (drop 353 s)

-- two responses that pass 1 to 5 for the octets of one question, and show the same signed part, get the same answer
pub asked_same : (q s t : List ℕ) → Octets s → Octets t → Passes (asked q s) → Passes (asked q t) → signed_of s ≡ signed_of t
    → asked q s ≡ asked q t
asked_same q s t o p h k i =
    let e = ((asked_passes_exactly q s).0 h).0 in
    let x = asked_kept q s e in
    let y = asked_kept q t e in
    x ∙ same_answer (question_in 20 q) (name_in 20 q) s t o p (rw x at h) (rw y at k) i ∙ sym y

-- so do two inputs of the program with the same question
pub desk_same : (s t : List ℕ) → Octets s → Octets t → take 353 s ≡ take 353 t → Passes (desk_of s) → Passes (desk_of t)
    → signed_of (drop 353 s) ≡ signed_of (drop 353 t) → desk_of s ≡ desk_of t
unfolding desk_of
desk_same s t o p j h k i =
    rw j (asked_same (take 353 t) (drop 353 s) (drop 353 t) (octets_drop 353 s o) (octets_drop 353 t p) (rw j at h) k i)

-- and the same line
pub same_line : (s t : List ℕ) → Octets s → Octets t → take 353 s ≡ take 353 t → Passes (desk_of s) → Passes (desk_of t)
    → signed_of (drop 353 s) ≡ signed_of (drop 353 t) → line_of s ≡ line_of t
unfolding line_of
same_line s t o p j h k i = rw (desk_same s t o p j h k i)
