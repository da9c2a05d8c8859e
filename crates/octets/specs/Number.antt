-- Whole numbers as octets, high octet first.
-- value_of, octets_of, number_at; low_first. Their laws, over the width, are in NumberLaws.
-- Assumes nothing.
use Rattle.std.specs.Prelude.{ℕ, zero, suc, ◌+◌, ◌-◌, ◌*◌, ◌/◌, ◌%◌, ◌^◌, List, [], ◌∷◌, Option, Some, None, cond, leb, length, take, drop}

-- the number that octets stand for: each counts 256 times as much as the next
unfoldable pub value_of : List ℕ → ℕ
value_of [] = 0
value_of (x ∷ s) = x * 256 ^ length s + value_of s

-- the w octets of a number
unfoldable pub octets_of : ℕ → ℕ → List ℕ
octets_of zero n = []
octets_of (suc w) n = (n / 256 ^ w % 256) ∷ octets_of w n

-- the number of the w octets that stand at a place, at most eight of them
unfoldable pub number_at : List ℕ → ℕ → ℕ → Option ℕ
number_at s at w =
    cond (leb w 8)
    (cond (leb at (length s))
    (cond (leb w (length s - at)) (Some (value_of (take w (drop at s)))) None)
    None)
    None

-- the number of octets that stand the other way round: each counts 256 times as much as the one before it
unfoldable pub low_first : List ℕ → ℕ
low_first [] = 0
low_first (x ∷ s) = x + 256 * low_first s
