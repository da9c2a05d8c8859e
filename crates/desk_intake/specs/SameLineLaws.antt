-- The desk says the same of what is kept of an input as of the whole input: where not all of it is kept, the response is
-- longer than 16,384 octets either way, and the answer is 1 or 2 whatever its octets are.
-- asked_long; kept_same_answer, kept_same_line.
-- What is kept is in Kept, the room in Room, the answer and the line in crate desk_question (Asked, Line). Assumes nothing.
use Rattle.std.specs.Prelude.{ℕ, ◌≤◌, ◌<◌, ◌≡◌, refl, Bool, true, false, leb, length, take, drop}
use Rattle.std.proofs.Common.{arith, sym, ◌∙◌, take-take, leb-true, leb-false, lt-ltb}
use Rattle.std.proofs.Math.Path.{ap}
use mathlib.Core.List.{List}
use Rattle.std.proofs.Math.ListN.{length-drop}
use Rattle.std.proofs.Math.Seq.{length-take-le}
use Rattle.rules.specs.declared.Question.{Question}
use Rattle.rules.specs.Question.{in_range}
use Rattle.rules.specs.Ruling.{answer_of}
use Rattle.rules.proofs.RowLaws.{row_2}
use Rattle.rules.proofs.RefusalLaws.{out_of_range}
use Rattle.desk_question.specs.Asked.{question_in, name_in, question_ok, asked, desk_of}
use Rattle.desk_question.proofs.AskedLaws.{asked_broken, asked_kept}
use Rattle.desk_question.specs.Line.{line_of}
use Rattle.desk_intake.specs.Kept.{kept_of}
use Rattle.desk_intake.specs.KeptLaws.{kept_all}
use Rattle.desk_intake.specs.Room.{question_size, response_most, room_least}

-- ---- a response that is too long

module _ (q : Question) (name r r' : List ℕ) (h : response_most < length r) (h' : response_most < length r') where
  -- refusal 1 or 2, by the question alone
  ruled_long : answer_of q name r ≡ answer_of q name r'
  ruled_long = go (in_range q name) refl
    where
      go : (b : Bool) → in_range q name ≡ b → answer_of q name r ≡ answer_of q name r'
      go true e =
          row_2 q name r e (lt-ltb response_most (length r) h)
          ∙ sym (row_2 q name r' e (lt-ltb response_most (length r') h'))
      go false e = out_of_range q name r e ∙ sym (out_of_range q name r' e)

-- whatever the octets of two responses that are too long, the answer is the same
pub asked_long : (q r r' : List ℕ) → response_most < length r → response_most < length r' → asked q r ≡ asked q r'
asked_long q r r' h h' = go (question_ok 20 q) refl
  where
    go : (b : Bool) → question_ok 20 q ≡ b → asked q r ≡ asked q r'
    go true e = asked_kept q r e ∙ ruled_long (question_in 20 q) (name_in 20 q) r r' h h' ∙ sym (asked_kept q r' e)
    go false e = asked_broken q r e ∙ sym (asked_broken q r' e)

-- ---- an input

module _ (room : ℕ) (l : List ℕ) (h : room_least ≤ room) where
  -- an input that is longer than the room: the question is kept, and the response is too long either way
  cut_same_answer : room ≤ length l → desk_of (kept_of room l) ≡ desk_of l
  unfolding desk_of kept_of
  cut_same_answer k =
      ap (λ (q : List ℕ). asked q (drop question_size (take room l))) (take-take question_size room l (omega arith))
      ∙ asked_long
      (take question_size l)
      (drop question_size (take room l))
      (drop question_size l)
      (omega (arith, length-drop question_size (take room l), length-take-le room l k))
      (omega (arith, length-drop question_size l))

  -- the answer to what is kept is the answer to the input
  pub kept_same_answer : desk_of (kept_of room l) ≡ desk_of l
  kept_same_answer = go (leb (length l) room) refl
    where
      go : (b : Bool) → leb (length l) room ≡ b → desk_of (kept_of room l) ≡ desk_of l
      go true e = ap desk_of (kept_all room l (leb-true (length l) room e))
      go false e = let k = leb-false (length l) room e in cut_same_answer (omega arith)

  -- and so is the line
  pub kept_same_line : line_of (kept_of room l) ≡ line_of l
  unfolding line_of
  kept_same_line = rw kept_same_answer
