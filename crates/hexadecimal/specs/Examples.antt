-- Hex by computing.
-- case, digits.
-- Assumes nothing.
use Rattle.std.specs.Prelude.{◌≡◌, refl, [], ◌∷◌}
use Rattle.hexadecimal.specs.Hex.{digit_of, hex_of, hex_line}

-- 04 04 06 is the line `040406`
case : hex_line (0x04 ∷ 0x04 ∷ 0x06 ∷ []) ≡ 48 ∷ 52 ∷ 48 ∷ 52 ∷ 48 ∷ 54 ∷ 10 ∷ []
unfolding hex_line hex_of digit_of
case = refl

-- 9F A0 FF is `9fa0ff`
digits : hex_of (0x9f ∷ 0xa0 ∷ 0xff ∷ []) ≡ 57 ∷ 102 ∷ 97 ∷ 48 ∷ 102 ∷ 102 ∷ []
unfolding hex_of digit_of
digits = refl
