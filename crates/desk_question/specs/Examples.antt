-- The desk's case by computing, from the octets: the case of document 01's program, and what must be refused.
-- read; question, case, case_asked, case_desk, case_alone; no_input, other_kind, fill_broken, name_long, longer;
-- case_line, no_input_line.
-- The definitions stand here; the laws, and what is made of them, in proofs/Examples.
-- Assumes nothing.
use Rattle.std.specs.Prelude.{ℕ, List, [], ◌∷◌, ◌++◌, replicate}
use Rattle.octets.specs.Buffer.{room_for}
use Rattle.octets.specs.Number.{value_of, number_at}
use Rattle.answer.specs.Card.{all_zero}
use Rattle.fields.specs.Field.{field_at, value_at, card_in}
use Rattle.desk_question.specs.Asked.{question_in, name_in, fill_in, question_ok}

-- what reading a question computes with: a proof that says `unfolding read` opens it
unfoldable pub read : Unit {0}
unfolding room_for value_of number_at all_zero field_at value_at card_in question_in name_in fill_in question_ok
read = tt

-- a kind, hashes all 11 and all 22, serial 05, now 1,114,909,200, tolerance 0, verdict 1, role 1, marks 0, key hash all 33; then
-- the Name's length and the 256 octets of its field
abbrev pub question : ℕ → List ℕ → List ℕ → List ℕ
question kind size name =
    (kind ∷ replicate 20 0x11)
    ++ replicate 20 0x22
    ++ (1 ∷ 5 ∷ replicate 19 0)
    ++ (0 ∷ 0 ∷ 0 ∷ 0 ∷ 0x42 ∷ 0x74 ∷ 0x2a ∷ 0x10 ∷ 0 ∷ 0 ∷ 1 ∷ 1 ∷ 0 ∷ [])
    ++ replicate 20 0x33
    ++ size
    ++ name

-- the Name empty
abbrev pub case : List ℕ
case = question 0x51 (0 ∷ 0 ∷ []) (replicate 256 0)
