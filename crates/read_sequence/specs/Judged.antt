-- An answer made of answers: how the judging of a whole follows from that of its parts.
-- place_within; filled_by, closed_by, after_by. That they are what the layout's codecs say is in ViewLaws.
-- An answer carries its place in 64 bits, so that a place is held to the end of its part. A place that
-- a codec gives never lies beyond it.
-- Assumes nothing.
use Rattle.std.specs.Prelude.{ℕ, ◌+◌, cond, eqb, leb, Ok, Err}
use Rattle.element.specs.Places.{misfit}
use Rattle.codec.specs.Steps.{Step, Fit}

-- the place p octets after start, and no further than end
unfoldable pub place_within : ℕ → ℕ → ℕ → ℕ
place_within start end p = cond (leb (start + p) end) (start + p) end

-- a list of this size, by the element at its head: what is left over is wrong at its first octet
unfoldable pub filled_by : ℕ → Step → Fit
filled_by size (Ok n) = cond (eqb n size) (Ok tt) (Err (misfit n))
filled_by size (Err p) = Err p

-- an element, by its content from start to end
unfoldable pub closed_by : ℕ → ℕ → Fit → Step
closed_by start end (Ok x) = Ok end
closed_by start end (Err p) = Err (misfit (place_within start end p.place))

-- a list of this size, by what follows its first n octets
unfoldable pub after_by : ℕ → ℕ → Fit → Fit
after_by n size (Ok x) = Ok tt
after_by n size (Err p) = Err (misfit (place_within n size p.place))
