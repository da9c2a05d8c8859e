-- The question's octets (document 01, "Request and slip"), and the answer to them.
-- name_size, question_in, name_in, fill_in, question_ok; asked; desk_of. Their laws are in AskedLaws.
-- Octets of a question: kind 51 hex; card; now 8, tolerance 2, verdict 1, role 1, marks 1; key hash 20; Name length 2; Name 256,
-- filled up with zeros. A hash of the card has n octets; the code uses n at 20, so 353 octets in all.
-- Assumes nothing.
use Rattle.std.specs.Prelude.{ℕ, ◌+◌, Bool, false, cond, List, eqb, leb, length, take, drop}
use Rattle.answer.specs.Card.{all_zero}
use Rattle.answer.specs.Verdict.{refused}
use Rattle.answer.specs.declared.Answer.{Answer}
use Rattle.fields.specs.Field.{field_at, value_at, card_in}
use Rattle.rules.specs.declared.Question.{Question}
use Rattle.rules.specs.Ruling.{answer_of}

-- ---- the question

-- the Name's length
abbrev pub name_size : ℕ → List ℕ → ℕ
name_size n q = value_at q (n + n + 55) 2

-- all but the Name
unfoldable pub question_in : ℕ → List ℕ → Question
question_in n q = record {
  card = card_in n (drop 1 q);
  now = value_at q (n + n + 22) 8;
  tolerance = value_at q (n + n + 30) 2;
  verdict = value_at q (n + n + 32) 1;
  role = value_at q (n + n + 33) 1;
  marks = value_at q (n + n + 34) 1;
  signer = field_at 20 q (n + n + 35);
}

-- the Name
unfoldable pub name_in : ℕ → List ℕ → List ℕ
name_in n q = take (name_size n q) (drop (n + n + 57) q)

-- what follows the Name
unfoldable pub fill_in : ℕ → List ℕ → List ℕ
fill_in n q = drop (name_size n q) (drop (n + n + 57) q)

-- its exact length, kind 51 hex, a Name of at most 256 octets, and zeros after the Name
unfoldable pub question_ok : ℕ → List ℕ → Bool
question_ok n q =
    cond (eqb (length q) (n + n + 313))
    (cond (eqb (value_at q 0 1) 0x51)
    (cond (leb (name_size n q) 256) (all_zero (fill_in n q)) false)
    false)
    false

-- ---- the answer

-- refusal 1 where the octets break the form; the card's own fill is judged with the ranges, and gives 1 too
unfoldable pub asked : List ℕ → List ℕ → Answer
asked q r = cond (question_ok 20 q) (answer_of (question_in 20 q) (name_in 20 q) r) (refused 1 0)

-- of the program's input: a question, then the response to the end
unfoldable pub desk_of : List ℕ → Answer
desk_of s = asked (take 353 s) (drop 353 s)
