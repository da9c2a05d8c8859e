-- The program's line (document 01, "Request and slip"): the slip of the answer to its input as lower-case hex, and a line feed.
-- question_end, line_of. Their laws are in LineLaws; the answer is in Asked.
-- Assumes nothing.
use Rattle.std.specs.Prelude.{ℕ, cond, List, [], ◌∷◌, ◌++◌, ltb}
use Rattle.slip.specs.Slip.{slip_of}
use Rattle.hexadecimal.specs.Hex.{hex_of}
use Rattle.desk_question.specs.Asked.{desk_of}

-- where the question of an input of n octets ends: after 353 octets, or where the input does
unfoldable pub question_end : ℕ → ℕ
question_end n = cond (ltb n 353) n 353

-- the line of an input
unfoldable pub line_of : List ℕ → List ℕ
line_of s = hex_of (slip_of (desk_of s)) ++ (10 ∷ [])
