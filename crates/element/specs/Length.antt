-- The length octets of an element in their one form (X.690, 8.1.3 and 10.1).
-- length_count, length_form, shortest.
-- Assumes nothing.
use Rattle.std.specs.Prelude.{ℕ, ◌+◌, ◌-◌, ◌/◌, List, [], ◌∷◌, Bool, false, cond, ltb, eqb}
use Rattle.std.specs.Int.Count.{count_leading_zeros}
use Rattle.octets.specs.Number.{octets_of}

-- 64 less the leading zero bits of the length as a 64-bit number, divided by 8 and rounded up
unfoldable pub length_count : ℕ → ℕ
length_count n = (64 - count_leading_zeros 64 n + 7) / 8

-- up to 127 one octet; from 128 it is 80 hex plus the count, then as many octets, high first
unfoldable pub length_form : ℕ → List ℕ
length_form n = cond (ltb n 128) (n ∷ []) ((128 + length_count n) ∷ octets_of (length_count n) n)

-- whether k octets after the first are the form of this length
unfoldable pub shortest : ℕ → ℕ → Bool
shortest k n = cond (ltb n 128) false (eqb (length_count n) k)
