-- What stands at the head of a list of octets: an element's tag, the size of its header and the
-- size of its content; or the place that is refused, counted from the head.
-- inside_of, long_of, length_at, header_of; is_short. Their laws are in HeaderLaws and ShortLaws.
-- The octets count as they are met: a wrong one refuses the tag's own place, 0; a missing one the
-- end of the list.
-- Assumes nothing.
use Rattle.std.specs.Prelude.{ℕ, ◌+◌, ◌-◌, List, Bool, cond, ◌&&◌, ltb, leb, eqb, length, get_or, take, drop, Ok, Err}
use Rattle.octets.specs.Number.{value_of}
use Rattle.element.specs.Tag.{tag_ok}
use Rattle.element.specs.Length.{shortest}
use Rattle.element.specs.Places.{HeaderRead, header, misfit}

-- the element ends inside what holds it
unfoldable pub inside_of : ℕ → ℕ → ℕ → ℕ → HeaderRead
inside_of size t h n = cond (leb n (size - h)) (Ok (header t h n)) (Err (misfit 0))

-- k more length octets, in no longer form than they need
unfoldable pub long_of : List ℕ → ℕ → ℕ → HeaderRead
long_of s t k =
    cond (ltb (length s) (2 + k)) (Err (misfit (length s)))
    (cond (shortest k (value_of (take k (drop 2 s))))
    (inside_of (length s) t (2 + k) (value_of (take k (drop 2 s))))
    (Err (misfit 0)))

-- by the first length octet: the length itself, or how many more there are, 1 to 8
unfoldable pub length_at : List ℕ → ℕ → ℕ → HeaderRead
length_at s t b =
    cond (ltb b 128) (inside_of (length s) t 2 b)
    (cond (eqb b 128) (Err (misfit 0))
    (cond (ltb 136 b) (Err (misfit 0)) (long_of s t (b - 128))))

-- the tag, then the length
unfoldable pub header_of : List ℕ → HeaderRead
header_of s =
    cond (eqb (length s) 0) (Err (misfit 0))
    (cond (tag_ok (get_or s 0 0))
    (cond (ltb (length s) 2) (Err (misfit (length s))) (length_at s (get_or s 0 0) (get_or s 1 0)))
    (Err (misfit 0)))

-- a header of two octets: there are two, the second is a length, the element ends inside the list, and the tag fits
unfoldable pub is_short : List ℕ → Bool
is_short s = leb 2 (length s) && (leb (get_or s 1 0) 127 && (leb (get_or s 1 0) (length s - 2) && tag_ok (get_or s 0 0)))
