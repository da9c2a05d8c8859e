-- The desk's program: from the octets of its input to the line that it writes.
-- question_form, question_fields, question_name; desk_asks, desk_refuses, desk_short; desk_slip; desk_line; kept, kept_chunk,
-- kept_enough, kept_same_line; case.
-- `desk_of` is the answer to an input, a question of 353 octets and then the response (question: Asked), `line_of` the line
-- that desk_line::line_for writes (question: Line), `kept_of` what desk_intake::keep has kept of an input (intake: Kept). What is read
-- from outside and written there, no theorem says.
-- Assumes nothing.
use Rattle.std.specs.Prelude.{ℕ, ◌+◌, ◌≤◌, ◌<◌, ◌⊎◌, ◌↔◌, ◌≡◌, refl, true, false, List, [], ◌∷◌, ◌++◌, length, take, drop, replicate}
use Rattle.octets.specs.Octets.{Octets}
use Rattle.answer.specs.Card.{all_zero}
use Rattle.answer.specs.Verdict.{without_place, refused}
use Rattle.fields.specs.Field.{field_at, value_at, card_in}
use Rattle.rules.specs.Ruling.{answer_of}
use Rattle.slip.specs.Slip.{slip_of, slip_ok, read_of}
use Rattle.slip.specs.SlipLaws.{read_written}
use Rattle.hexadecimal.specs.Hex.{hex_of}
use Rattle.desk_question.specs.Asked.{question_in, name_in, fill_in, question_ok, desk_of}
use Rattle.desk_question.proofs.AskedLaws as desk
use Rattle.desk_question.proofs.SizeLaws.{asked_sized}
use Rattle.desk_question.specs.Line.{line_of}
use Rattle.desk_question.proofs.LineLaws.{desk_fits, desk_most}
use Rattle.desk_question.proofs.Examples as examples
use Rattle.desk_intake.specs.Kept.{kept_of, kept_with, space_kept, Holds}
use Rattle.desk_intake.specs.KeptLaws.{holds_next, kept_either}
use Rattle.desk_intake.specs.SameLineLaws as same

-- a question keeps its form: 353 octets, kind 51 hex, a Name of at most 256 octets, and zeros after the Name
pub question_form : (q : List ℕ) → question_ok 20 q ≡ true
    ↔ (length q ≡ 353) × (value_at q 0 1 ≡ 0x51) × (value_at q 95 2 ≤ 256) × (all_zero (drop (value_at q 95 2) (drop 97 q)) ≡ true)
unfolding fill_in
question_form = desk.question_exactly 20

-- its fields: card 61, now 8, tolerance 2, verdict, role, marks, key hash 20; then the Name's length 2 and the Name
pub question_fields : (q : List ℕ) → question_in 20 q ≡ record {
  card = card_in 20 (drop 1 q);
  now = value_at q 62 8;
  tolerance = value_at q 70 2;
  verdict = value_at q 72 1;
  role = value_at q 73 1;
  marks = value_at q 74 1;
  signer = field_at 20 q 75;
}
unfolding question_in
question_fields q = refl

pub question_name : (q : List ℕ) → name_in 20 q ≡ take (value_at q 95 2) (drop 97 q)
unfolding name_in
question_name q = refl

-- a question that keeps its form is asked, with the response to the end of the input
pub desk_asks : (s : List ℕ) → question_ok 20 (take 353 s) ≡ true
    → desk_of s ≡ answer_of (question_in 20 (take 353 s)) (name_in 20 (take 353 s)) (drop 353 s)
unfolding desk_of
desk_asks s = desk.asked_kept (take 353 s) (drop 353 s)

-- one that breaks it gives 1, whatever the response is, and so does an input short of 353 octets
pub desk_refuses : (s : List ℕ) → question_ok 20 (take 353 s) ≡ false → desk_of s ≡ refused 1 0
unfolding desk_of
desk_refuses s = desk.asked_broken (take 353 s) (drop 353 s)

pub desk_short : (s : List ℕ) → length s < 353 → desk_of s ≡ refused 1 0
desk_short = desk.desk_short

-- every answer can be written as a slip, of at most 87 octets, and is read back from it without its place; of a call, whose
-- octets its types say, without that premise: contracts: ReadBack
pub desk_slip : (s : List ℕ) → Octets s → (slip_ok (desk_of s) ≡ true) × (length (slip_of (desk_of s)) ≤ 87) × (read_of 20 (slip_of (desk_of s)) ≡ without_place (desk_of s))
unfolding desk_of
desk_slip s o = (desk_fits s o, desk_most s, read_written (desk_of s) (desk_fits s o) 20 (λ c. asked_sized (take 353 s) (drop 353 s)))

-- the line is that slip as lower-case hex, and a line feed
pub desk_line : (s : List ℕ) → line_of s ≡ hex_of (slip_of (desk_of s)) ++ (10 ∷ [])
unfolding line_of
desk_line s = refl

-- of an input that comes in chunks the program keeps the beginning that there is room for, chunk by chunk
pub kept : (room : ℕ) (l : List ℕ) → kept_of room l ≡ take room l
unfolding kept_of
kept room l = refl

pub kept_chunk : (space : List ℕ) (done : ℕ) (l chunk : List ℕ) → Holds space done l
    → Holds (space_kept space done chunk) (length (kept_with space done chunk)) (l ++ chunk)
kept_chunk space done l chunk h = holds_next space done l h chunk _ _ refl refl

-- in a room for a question, the longest response and one octet more, what is kept is the input, or a beginning of it that is
-- longer than a question and the longest response
pub kept_enough : (room : ℕ) (l : List ℕ) → 353 + 16384 + 1 ≤ room
    → (kept_of room l ≡ l) ⊎ ((353 + 16384 < length (kept_of room l)) × ((rest : List ℕ) × (kept_of room l ++ rest ≡ l)))
kept_enough = kept_either

-- and the line is that of the whole input, whatever its length
pub kept_same_line : (room : ℕ) (l : List ℕ) → 353 + 16384 + 1 ≤ room → line_of (kept_of room l) ≡ line_of l
kept_same_line = same.kept_same_line

-- document 01's case: hashes all 11 and all 22, serial 05, now 1,114,909,200, tolerance 0, verdict 1, role 1, marks 0, key
-- hash all 33, Name empty; response 30 03 0A 01 06: the line is `040406`
pub case : line_of (
    (0x51 ∷ replicate 20 0x11) ++ replicate 20 0x22 ++ (1 ∷ 5 ∷ replicate 19 0)
    ++ (0 ∷ 0 ∷ 0 ∷ 0 ∷ 0x42 ∷ 0x74 ∷ 0x2a ∷ 0x10 ∷ 0 ∷ 0 ∷ 1 ∷ 1 ∷ 0 ∷ []) ++ replicate 20 0x33 ++ (0 ∷ 0 ∷ []) ++ replicate 256 0
    ++ (0x30 ∷ 0x03 ∷ 0x0a ∷ 0x01 ∷ 0x06 ∷ []))
    ≡ 0x30 ∷ 0x34 ∷ 0x30 ∷ 0x34 ∷ 0x30 ∷ 0x36 ∷ 10 ∷ []
case = examples.case_line
