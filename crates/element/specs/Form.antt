-- The octets of an element, and what writing a header leaves in a lent buffer.
-- head_form, head_size, form_of; room_answer, header_in, header_answer.
-- Assumes nothing.
use Rattle.std.specs.Prelude.{ℕ, ◌+◌, List, ◌∷◌, ◌++◌, cond, length, Result, Ok, Err}
use Rattle.octets.specs.Buffer.{room_for, put_in}
use Rattle.element.specs.Tag.{tag_ok}
use Rattle.element.specs.Length.{length_form}
use Rattle.element.specs.declared.Unformed.{Unformed}
use Rattle.element.specs.declared.Unformed.TheVariants.{Short, NoTag}

-- the header of an element: its tag and the length of its content
abbrev pub head_form : ℕ → ℕ → List ℕ
head_form t n = t ∷ length_form n

-- how many octets a header takes
unfoldable pub head_size : ℕ → ℕ
head_size n = 1 + length (length_form n)

-- an element: its header and its content
unfoldable pub form_of : ℕ → List ℕ → List ℕ
form_of t c = head_form t (length c) ++ c

-- the place after a header with this length, or that there is no room for it
unfoldable pub room_answer : ℕ → ℕ → ℕ → Result ℕ Unformed
room_answer size at n = cond (room_for size at (head_size n)) (Ok (at + head_size n)) (Err Short)

-- the header at its place, or the buffer as it was
unfoldable pub header_in : List ℕ → ℕ → ℕ → ℕ → List ℕ
header_in out at t n = cond (tag_ok t) (put_in out at (head_form t n)) out

-- the place after the header, or why none was written: no room, or no such tag
unfoldable pub header_answer : ℕ → ℕ → ℕ → ℕ → Result ℕ Unformed
header_answer size at t n = cond (tag_ok t) (room_answer size at n) (Err NoTag)
