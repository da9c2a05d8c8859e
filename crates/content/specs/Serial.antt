-- The content of a serial (document 01, "The question"), and the serial of a whole number.
-- lead_ok, serial_ok, serial_count, serial_form. That each of serial and number gives back the other is in SerialLaws.
-- The number that a serial stands for is `value_of` of crate octets.
-- Assumes nothing.
use Rattle.std.specs.Prelude.{ℕ, ◌+◌, ◌-◌, ◌/◌, List, [], ◌∷◌, Bool, true, false, cond, eqb, leb, ltb, length}
use Rattle.std.specs.Int.Count.{count_leading_zeros}
use Rattle.octets.specs.Number.{octets_of}

-- a leading 00 is alone or the next octet is 80 hex or more
unfoldable pub lead_ok : ℕ → List ℕ → Bool
lead_ok x [] = true
lead_ok x (y ∷ s) = cond (eqb x 0) (leb 128 y) true

-- 1 to 20 octets, first bit clear, minimal
unfoldable pub serial_ok : List ℕ → Bool
serial_ok [] = false
serial_ok (x ∷ s) = cond (leb (length (x ∷ s)) 20) (cond (ltb x 128) (lead_ok x s) false) false

-- the fewest octets that leave the first bit of a number clear
unfoldable pub serial_count : ℕ → ℕ
serial_count n = (160 - count_leading_zeros 160 n) / 8 + 1

-- the serial of a number
unfoldable pub serial_form : ℕ → List ℕ
serial_form n = octets_of (serial_count n) n
