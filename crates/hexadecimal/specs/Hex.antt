-- Octets as lower-case hex (document 01, "Request and slip").
-- digit_of, hex_of, hex_line. Their laws are in HexLaws.
-- Assumes nothing.
use Rattle.std.specs.Prelude.{ℕ, ◌+◌, ◌/◌, ◌%◌, cond, List, [], ◌∷◌, ◌++◌, ltb}

-- a number below 16 as a digit, 0 to 9 and then a to f
unfoldable pub digit_of : ℕ → ℕ
digit_of n = cond (ltb n 10) (48 + n) (87 + n)

-- two digits for each octet, the high one first
unfoldable pub hex_of : List ℕ → List ℕ
hex_of [] = []
hex_of (x ∷ s) = digit_of (x / 16) ∷ digit_of (x % 16) ∷ hex_of s

-- the digits and a line feed
unfoldable pub hex_line : List ℕ → List ℕ
hex_line s = hex_of s ++ (10 ∷ [])
