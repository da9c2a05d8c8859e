-- Elements one after another, found from header to header.
-- step_size, steps_size, spot_after. That they find the entries is in StepsLaws.
-- Assumes nothing.
use Rattle.std.specs.Prelude.{ℕ, zero, suc, ◌+◌, List, drop, Ok, Err}
use Rattle.element.specs.Header.{header_of}
use Rattle.element.specs.Places.{HeaderRead}
use Rattle.show.specs.declared.Entry.{Entry}
use Rattle.show.specs.declared.Entry.TheVariants as entry

-- by its header: how many octets an element takes, none where there is no header
abbrev pub head_span : HeaderRead → ℕ
head_span (Ok h) = h.start + h.len
head_span (Err p) = 0

unfoldable pub step_size : List ℕ → ℕ
step_size s = head_span (header_of s)

-- how many octets the first k elements take
unfoldable pub steps_size : ℕ → List ℕ → ℕ
steps_size zero s = 0
steps_size (suc k) s = step_size s + steps_size k (drop (step_size s) s)

-- the element after the first k of a list that starts at a place
unfoldable pub spot_after : ℕ → ℕ → List ℕ → Entry
spot_after at k s = entry.At (at + steps_size k s) (step_size (drop (steps_size k s) s))
