-- What an envelope is, seen as positions: what its reader answers.
-- CoverRead, an answer; cover_of; bytes_of, for the type and the string alone; covered_by, of an element that is
-- to fill its holder. Their laws are in CoverLaws.
-- Assumes nothing.
use Rattle.std.specs.Prelude.{ℕ, ◌+◌, cond, List, eqb, length, Result, Ok, Err}
use Rattle.octets.specs.Same.{same_of}
use Rattle.element.specs.declared.Misfit.{Misfit}
use Rattle.element.specs.Places.{misfit}
use Rattle.codec.specs.Codec.{Read, read, broke, Whole}
use Rattle.codec.proofs.Sequence.{field, only}
use Rattle.layout.specs.Words.{anything}
use Rattle.layout.proofs.ElementKinds.{oid, string, sequence}
use Rattle.layout.specs.Names.{Envelope, failure, success}
use Rattle.layout.specs.Read.{basic_type}
use Rattle.read_envelope.specs.declared.Cover.{Cover}
use Rattle.read_envelope.specs.declared.Cover.TheVariants as cover

-- what the envelope is, or the place that is wrong
abbrev pub CoverRead : Type 0
CoverRead = Result Cover Misfit

-- an error response's status; or whether the type is the basic one, and the string's length
unfoldable pub covered : Envelope → Cover
covered (failure n) = cover.Failed n
covered (success t c) = cover.Holds (same_of t basic_type) (length c)

-- what is read as an envelope, or the place that is wrong
unfoldable pub cover_by : {A : Type 0} → (A → Envelope) → Read A → CoverRead
cover_by f (read a) = Ok (covered (f a))
cover_by f (broke p) = Err (misfit p)

abbrev pub cover_of : Read Envelope → CoverRead
cover_of = cover_by (λ x. x)

-- the type and the string are a successful envelope's
abbrev pub bytes_of : Read (List ℕ × List ℕ) → CoverRead
bytes_of = cover_by (λ x. success x.0 x.1)

-- the type's OID, then the string, which fills the rest
unfoldable pub type_string : Whole (List ℕ × List ℕ)
type_string = field oid (only (string anything))

-- a sequence of them, and nothing more
unfoldable pub type_sequence : Whole (List ℕ × List ℕ)
type_sequence = only (sequence type_string)

-- the place that is wrong
abbrev pub broken_at : CoverRead → ℕ
broken_at (Ok c) = 0
broken_at (Err p) = p.place

-- an element that is to fill so many octets, by its content from start to end
unfoldable pub covered_by : ℕ → ℕ → ℕ → CoverRead → CoverRead
covered_by start end size (Err p) = Err (misfit (start + p.place))
covered_by start end size (Ok c) = cond (eqb end size) (Ok c) (Err (misfit end))
