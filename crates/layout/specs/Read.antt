-- A whole response: its reading, and its DER form. The envelope is judged first; an error status and
-- another type end there, and with another type the inner octets are not looked at; only then is the
-- basic response judged.
-- basic_type, der, Outcome, reading. The laws are in Theorem.
-- The definitions stand here; the laws, and what is made of them, in proofs/Read.
-- Assumes nothing.
use Rattle.std.specs.Prelude.{ℕ, ◌+◌, List, [], ◌∷◌}
use Rattle.codec.specs.Codec.{Read, read, broke}
use Rattle.layout.specs.Reading.{Basic, Reading, basic}

-- the basic type, 1.3.6.1.5.5.7.48.1.1
abbrev pub basic_type : List ℕ
basic_type = 0x2b ∷ 0x06 ∷ 0x01 ∷ 0x05 ∷ 0x05 ∷ 0x07 ∷ 0x30 ∷ 0x01 ∷ 0x01 ∷ []

-- what a response is: one that reads as this, one of another type, or one that doesn't fit, with the
-- place
pub data Outcome : Type 0 where
  reads : Reading → Outcome
  other_type : Outcome
  unfit : ℕ → Outcome

-- the basic response, which stands at a place of the whole
abbrev pub inner_reading : ℕ → Read Basic → Outcome
inner_reading at (read b) = reads (basic b)
inner_reading at (broke p) = unfit (at + p)
