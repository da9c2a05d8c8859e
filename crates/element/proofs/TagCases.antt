-- The masks of a tag octet: the low bits of a number are a remainder.
-- low_bit, low_bits.
-- Assumes nothing.
use Prim.Native.Nat.{ℕ, ◌%◌}
use mathlib.Core.Path.{◌≡◌}
use lib.Bits.{bit_and, and_mask}

-- the last bit
pub low_bit : (n : ℕ) → bit_and n 1 ≡ n % 2
low_bit n = and_mask n 1

-- the last five bits
pub low_bits : (n : ℕ) → bit_and n 31 ≡ n % 32
low_bits n = and_mask n 5
