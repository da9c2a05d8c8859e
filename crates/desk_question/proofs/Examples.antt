-- The desk's case by computing, from the octets: the case of document 01's program, and what must be refused.
-- read; question, case, case_asked, case_desk, case_alone; no_input, other_kind, fill_broken, name_long, longer;
-- case_line, no_input_line.
-- The laws stand here, and what is made of them; the definitions in specs/Examples.
-- Assumes nothing.
use Rattle.std.specs.Prelude.{ℕ, ◌≡◌, true, List, [], ◌∷◌, ◌++◌, replicate, Some}
use Rattle.std.proofs.Math.Path.{refl}
use Rattle.std.proofs.Common.{lit<}
use Rattle.answer.specs.Verdict.{refused_at, refused}
use Rattle.layout.proofs.Opened.{opened}
use Rattle.layout.specs.Read.{unfit}
use Rattle.layout.proofs.Read.{reading}
use Rattle.rules.specs.Examples.{checked, failure}
use Rattle.rules.proofs.Examples.{desk_case}
use Rattle.rules.specs.Examples as ruling
use Rattle.slip.specs.Examples.{slip_computes}
use Rattle.hexadecimal.specs.Hex.{digit_of, hex_of}
use Rattle.desk_question.specs.Asked.{question_in, name_in, question_ok, asked, desk_of}
use Rattle.desk_question.proofs.AskedLaws.{asked_broken, desk_short}
use Rattle.desk_question.specs.Line.{line_of}
use Rattle.desk_question.specs.Examples.{case, question, read}

pub case_fits : question_ok 20 case ≡ true
unfolding read
case_fits = refl

pub case_question_lem : question_in 20 case ≡ ruling.question_at 1114909200 0
unfolding read
case_question_lem = refl

pub case_name : name_in 20 case ≡ []
unfolding read
case_name = refl

-- the case, with response 30 03 0A 01 06
pub case_asked : asked case failure ≡ refused 4 6
unfolding asked
case_asked = rw (case_fits, case_question_lem, case_name) desk_case

pub case_desk : desk_of (case ++ failure) ≡ refused 4 6
unfolding desk_of
case_desk = case_asked

-- no octets are no response
nothing_read : reading [] ≡ unfit 0
unfolding opened
nothing_read = refl

-- no response: it does not fit, at its start
pub case_alone : desk_of case ≡ refused_at 3 0 (Some 0)
unfolding desk_of asked checked
case_alone = rw (case_fits, case_question_lem, case_name, nothing_read)

-- ---- refusal 1, whatever the response is

-- no input at all
pub no_input : desk_of [] ≡ refused 1 0
no_input = desk_short [] (lit< tt)

module _ (r : List ℕ) where
  -- another kind
  pub other_kind : asked (question 0x50 (0 ∷ 0 ∷ []) (replicate 256 0)) r ≡ refused 1 0
  unfolding read
  other_kind = asked_broken _ r refl

  -- a fill octet that is not zero
  pub fill_broken : asked (question 0x51 (0 ∷ 0 ∷ []) (replicate 255 0 ++ (1 ∷ []))) r ≡ refused 1 0
  unfolding read
  fill_broken = asked_broken _ r refl

  -- a Name of 257 octets
  pub name_long : asked (question 0x51 (1 ∷ 1 ∷ []) (replicate 256 0)) r ≡ refused 1 0
  unfolding read
  name_long = asked_broken _ r refl

  -- an octet more
  pub longer : asked (question 0x51 (0 ∷ 0 ∷ []) (replicate 257 0)) r ≡ refused 1 0
  unfolding read
  longer = asked_broken _ r refl

-- ---- the line

-- the case: `040406` and a line feed
pub case_line : line_of (case ++ failure) ≡ 48 ∷ 52 ∷ 48 ∷ 52 ∷ 48 ∷ 54 ∷ 10 ∷ []
unfolding line_of slip_computes hex_of digit_of
case_line = rw case_desk

-- no input: `040100` and a line feed
pub no_input_line : line_of [] ≡ 48 ∷ 52 ∷ 48 ∷ 49 ∷ 48 ∷ 48 ∷ 10 ∷ []
unfolding line_of slip_computes hex_of digit_of
no_input_line = rw no_input
