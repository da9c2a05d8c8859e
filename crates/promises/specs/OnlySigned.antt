-- Only what was signed may speak (document 02, C-23): of a response that passes 1 to 5, the signed reading and the question
-- decide the answer. Its signature, algorithm and certificates decide nothing.
-- same_part; alone, spoken_case, spoken, answer_spoken. Of the desk's answer to octets: spoken_to. What follows from them is in
-- proofs/SameSigned, proofs/SameAnswer and proofs/OnlySigned.
-- `answer_of` is what rule_check::check answers for a question, the signer's Name and a response (rules: Ruling); role and marks of the
-- signer are in the question. `signed_of` is what show::signed_part shows (show: Shown), `asked` the answer to a question's octets and a
-- response, `desk_of` that to the program's input, the one behind the other (desk_question: Asked), `line_of` the program's line
-- (desk_question: Line). When an answer passes is in Passes.
-- Assumes nothing.
use Rattle.std.specs.Prelude.{ℕ, ◌^◌, ◌≤◌, ◌<◌, ◌↔◌, ◌≡◌, cond, List, [], length}
use Rattle.std.proofs.Common.{arith, sym, ap, ◌∙◌, le-ltb}
use Rattle.std.proofs.Math.Option.{none}
use Rattle.octets.specs.Octets.{Octets}
use Rattle.octets.specs.LentLaws.{part_length}
use Rattle.codec.proofs.CodecLaws.{element_injective}
use Rattle.layout.specs.Reading.{Signed, Basic, basic}
use Rattle.layout.proofs.Format.{response_data}
use Rattle.layout.proofs.LimitsLaws.{signed_limits}
use Rattle.layout.specs.Read.{reads}
use Rattle.layout.proofs.Read.{reading}
use Rattle.layout.proofs.ReadLaws.{fits_64}
use Rattle.layout.proofs.Theorem.{sound}
use Rattle.answer.specs.Verdict.{refused}
use Rattle.answer.specs.declared.Answer.{Answer}
use Rattle.read_response.specs.Parts.{parts_in}
use Rattle.read_response.proofs.PartsLaws.{signed_stands}
use Rattle.show.specs.Shown.{signed_of}
use Rattle.show.proofs.ShownLaws.{signed_shown}
use Rattle.rules.specs.declared.Question.{Question}
use Rattle.rules.specs.Order.{Case, tests, first_of}
use Rattle.rules.specs.Ruling.{ruled, answer_of}
use Rattle.desk_question.specs.Asked.{question_in, name_in, question_ok}

-- ── the signed part and the signed reading ──

-- the length of a signed part fits 64 bits: it is no longer than its response
part_small : (s : List ℕ) (b : Basic) → Octets s → length s ≤ 16384 → reading s ≡ reads (basic b)
    → length (response_data.enc b.signed) < 2 ^ 64
part_small s b o l e =
    let at = (parts_in s b).signed in
    let h = signed_stands s b o e in
    fits_64 _ (omega (arith, ap length h.octets, part_length at.start at.len s h.inside))

-- the same signed part is the same signed reading: the octets that are shown of two responses are the same exactly if what was
-- signed reads the same
pub same_part : (s t : List ℕ) (b c : Basic) → Octets s → Octets t → length s ≤ 16384 → length t ≤ 16384
    → reading s ≡ reads (basic b) → reading t ≡ reads (basic c) → signed_of s ≡ signed_of t ↔ b.signed ≡ c.signed
same_part s t b c o p l m e f =
    let x = signed_shown s b o l e in
    let y = signed_shown t c p m f in
    let h = (signed_limits b.signed).1 (sound s (basic b) o e).0.signed in
    let k = (signed_limits c.signed).1 (sound t (basic c) p f).0.signed in (
      λ i. element_injective response_data b.signed c.signed h k (part_small s b o l e) (sym x ∙ i ∙ y),
      λ i. x ∙ ap response_data.enc i ∙ sym y,
    )

-- ── the answer ──

-- a signed reading with nothing around it
abbrev pub alone : Signed → Basic
alone d = record { signed = d; algorithm = record { oid = []; parameters = none }; signature = []; certificates = none }

-- the case that it makes for the table of refusals: a question, the signer's Name, and this reading alone, which has no size
abbrev pub spoken_case : Question → List ℕ → Signed → Case
spoken_case q name d = record { question = q; name = name; size = 0; outcome = reads (basic (alone d)) }

-- the answer of a signed reading to a question, by the check's own table: no signature, algorithm or certificate is handed to it
unfoldable pub spoken : Question → List ℕ → Signed → Answer
spoken q name d = ruled (spoken_case q name d) (first_of (tests (spoken_case q name d)))

-- the check of a basic response of at most 16,384 octets gives that answer
pub answer_spoken : (q : Question) (name s : List ℕ) (b : Basic) → length s ≤ 16384 → reading s ≡ reads (basic b)
    → answer_of q name s ≡ spoken q name b.signed
unfolding answer_of tests spoken
answer_spoken q name s b l e = rw (e, le-ltb 16384 (length s) l)

-- ── the desk's answer to octets ──

-- the answer by a question's octets and a signed reading alone
unfoldable pub spoken_to : List ℕ → Signed → Answer
spoken_to q d = cond (question_ok 20 q) (spoken (question_in 20 q) (name_in 20 q) d) (refused 1 0)
