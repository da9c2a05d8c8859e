-- Laws of hex: two digits for each octet, piece after piece.
-- hex_length, hex_append, line_length; digit_low, digit_high.
-- The definitions are in Hex. Assumes nothing.
use Rattle.std.specs.Prelude.{ℕ, ◌+◌, ◌*◌, ◌/◌, ◌%◌, ◌≤◌, ◌<◌, ◌≡◌, refl, List, [], ◌∷◌, ◌++◌, length}
use Rattle.std.proofs.Common.{arith, ap, ◌∙◌, length-append, lt-ltb, le-ltb}
use Rattle.hexadecimal.specs.Hex.{digit_of, hex_of, hex_line}

-- twice as many digits as octets
pub hex_length : (s : List ℕ) → length (hex_of s) ≡ length s * 2
unfolding hex_of
hex_length [] = refl
hex_length (x ∷ s) = omega (arith, hex_length s)

-- of one list after another
pub hex_append : (s t : List ℕ) → hex_of (s ++ t) ≡ hex_of s ++ hex_of t
unfolding hex_of
hex_append [] t = refl
hex_append (x ∷ s) t = ap (λ (u : List ℕ). digit_of (x / 16) ∷ digit_of (x % 16) ∷ u) (hex_append s t)

-- a line has one octet more
pub line_length : (s : List ℕ) → length (hex_line s) ≡ length s * 2 + 1
unfolding hex_line
line_length s = length-append (hex_of s) (10 ∷ []) ∙ ap (λ (k : ℕ). k + 1) (hex_length s)

-- 0 to 9
pub digit_low : (n : ℕ) → n < 10 → digit_of n ≡ 48 + n
unfolding digit_of
digit_low n h = rw (lt-ltb n 10 h)

-- a to f
pub digit_high : (n : ℕ) → 10 ≤ n → digit_of n ≡ 87 + n
unfolding digit_of
digit_high n h = rw (le-ltb n 10 h)
