-- An element's content seen as a position: what the readers answer.
-- expected, spot_of. Their laws are in ExpectLaws and SpotLaws.
-- A place is counted from the start of the list. That an element takes so many octets is step_of, in
-- codec's Views.
-- Assumes nothing.
use Rattle.std.specs.Prelude.{ℕ, ◌-◌, cond, List, eqb, length, Ok, Err}
use Rattle.element.specs.Places.{HeaderRead, Spot, misfit, span}
use Rattle.codec.specs.Codec.{Got, got, bad}

-- by the header: where the content of an element with this tag is, or the place that is wrong
unfoldable pub expected : ℕ → HeaderRead → Spot
expected t (Ok h) = cond (eqb h.tag t) (Ok (span h.start h.len)) (Err (misfit 0))
expected t (Err p) = Err p

-- where the octets that were read are: they are the element's last
unfoldable pub spot_of : Got (List ℕ) → Spot
spot_of (got x n) = Ok (span (n - length x) (length x))
spot_of (bad p) = Err (misfit p)
