-- What the line is of the input that was read.
-- Says. What reading leaves in the space is in crate desk_intake (Read), and the law that this rests on too (SameLineLaws).
-- Assumes nothing.
use Rattle.std.specs.Prelude.{ℕ, ◌≡◌, List}
use Rattle.octets.specs.Buffer.{put_in, put_size}
use Rattle.desk_question.specs.Line.{line_of}
use Rattle.desk_intake.specs.Read.{ReadAs}
use Rattle.desk_intake.specs.declared.Input.{Input}

-- the line in a buffer is that of the whole input, whichever input the space holds
unfoldable pub Says : List ℕ → Input → List ℕ → ℕ → List ℕ → Type 0
Says space input before n after =
    (l : List ℕ) → ReadAs space input l
    → (n ≡ put_size before (line_of l)) × (after ≡ put_in before 0 (line_of l))
