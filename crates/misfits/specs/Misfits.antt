-- Every place where a response does not fit: those of the envelope; where it has none, those of the
-- basic response in its string, if the status is 0 and the type the basic one. The parts are found by
-- headers alone.
-- status_content, bytes_content, type_content, string_content; inner_misfits, or_else, misfits. That the
-- reading's place is the least of them is in Theorem.
-- Assumes nothing.
use Rattle.std.specs.Prelude.{ℕ, ◌-◌, cond, List, [], ◌∷◌, length}
use Rattle.octets.specs.Same.{same_of}
use Rattle.layout.specs.Read.{basic_type}
use Rattle.faults.specs.Faults.{shift, content_at, rest_at, line_faults}
use Rattle.misfits.specs.Tests.{is_zero}
use Rattle.misfits.specs.Described.{basic_line, envelope_line}

-- the content of the status, which is the first element in the envelope
abbrev pub status_content : List ℕ → List ℕ
status_content s = content_at (content_at s)

-- what [0] after the status holds in its sequence: the type, then the string
abbrev pub bytes_content : List ℕ → List ℕ
bytes_content s = content_at (content_at (rest_at (content_at s)))

abbrev pub type_content : List ℕ → List ℕ
type_content s = content_at (bytes_content s)

abbrev pub string_content : List ℕ → List ℕ
string_content s = content_at (rest_at (bytes_content s))

-- those of the basic response in the string, which is the last octets of the response
unfoldable pub inner_misfits : List ℕ → List ℕ
inner_misfits s =
    cond (is_zero (status_content s))
    (cond (same_of (type_content s) basic_type) (shift (length s - length (string_content s)) (line_faults basic_line (string_content s))) [])
    []

-- the first, or where it is empty the second
abbrev pub or_else : List ℕ → List ℕ → List ℕ
or_else [] k = k
or_else (p ∷ l) k = p ∷ l

unfoldable pub misfits : List ℕ → List ℕ
misfits s = or_else (line_faults envelope_line s) (inner_misfits s)
