-- A whole response: its reading, and its DER form. The envelope is judged first; an error status and
-- another type end there, and with another type the inner octets are not looked at; only then is the
-- basic response judged.
-- basic_type, der, Outcome, reading. The laws are in Theorem.
-- The laws stand here, and what is made of them; the definitions in specs/Read.
-- Assumes nothing.
use Rattle.std.specs.Prelude.{ℕ, ◌-◌, cond, List, length}
use Rattle.octets.specs.Same.{same_of}
use Rattle.codec.specs.Codec.{Read, read, broke}
use Rattle.layout.specs.Reading.{Reading, failed, basic}
use Rattle.layout.specs.Names.{Envelope, failure, success}
use Rattle.layout.proofs.Format.{basic_response, envelope}
use Rattle.layout.specs.Read.{Outcome, basic_type, inner_reading, other_type, reads, unfit}

-- the DER form of a reading
unfoldable pub der : Reading → List ℕ
der (failed n) = envelope.enc (failure n)
der (basic b) = envelope.enc (success basic_type (basic_response.enc b))

-- by the envelope, whose last octets are the string's
abbrev pub envelope_reading : List ℕ → Read Envelope → Outcome
envelope_reading s (broke p) = unfit p
envelope_reading s (read (failure n)) = reads (failed n)
envelope_reading s (read (success t c)) =
    cond (same_of t basic_type) (inner_reading (length s - length c) (basic_response.dec c)) other_type

unfoldable pub reading : List ℕ → Outcome
reading s = envelope_reading s (envelope.dec s)
