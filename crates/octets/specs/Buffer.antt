-- What a write leaves in a lent buffer, and what it answers.
-- room_for, splice, put_in, put_answer, put_size. Their laws are in BufferLaws.
-- Assumes nothing.
use Rattle.std.specs.Prelude.{ℕ, ◌+◌, ◌-◌, List, ◌++◌, Option, Some, None, Bool, false, cond, leb, ltb, length, take, drop}

-- a buffer of this size has room for n octets at a place
unfoldable pub room_for : ℕ → ℕ → ℕ → Bool
room_for size at n = cond (leb at size) (leb n (size - at)) false

-- the buffer with new octets at a place, and unchanged before and after them
abbrev pub splice : List ℕ → ℕ → List ℕ → List ℕ
splice out at new = take at out ++ (new ++ drop (at + length new) out)

-- the new octets at their place, or the buffer as it was
unfoldable pub put_in : List ℕ → ℕ → List ℕ → List ℕ
put_in out at new = cond (room_for (length out) at (length new)) (splice out at new) out

-- the place after the new octets, or that there is no room
unfoldable pub put_answer : ℕ → ℕ → ℕ → Option ℕ
put_answer size at n = cond (room_for size at n) (Some (at + n)) None

-- how many octets are written at the start of a buffer: 0 where there is no room for them
abbrev pub put_size : List ℕ → List ℕ → ℕ
put_size out new = cond (ltb (length out) (length new)) 0 (length new)
