-- The pieces of a basic response, each from one of its fields on, and where their parts are: what the
-- readers of this crate answer. A place is counted from the start of the piece.
-- listed, inside, tail; ListedRead, InsideRead, TailRead; version_size, responder_size, produced_size; responses_on, produced_on, listed_of, produced_of, inside_at,
-- inside_fields, version_step, inside_signed; certificates_on, signature_on, algorithm_on, signature_spot, tail_of.
-- The signed part's content is layout's signed_body, and signed_fields without a version.
-- Assumes nothing.
use Rattle.std.specs.Prelude.{ℕ, ◌+◌, ◌-◌, cond, List, length, Result, Ok, Err}
use Rattle.std.proofs.Math.Option.{Option}
use Rattle.element.specs.declared.Misfit.{Misfit}
use Rattle.element.specs.Places.{misfit, span, Spot}
use Rattle.codec.specs.Codec.{Read, read, broke, Whole}
use Rattle.codec.proofs.Sequence.{field}
use Rattle.codec.specs.Option.{option_enc}
use Rattle.codec.specs.Starts.{starts_with}
use Rattle.codec.specs.Many.{forms}
use Rattle.codec.specs.Tree.{Tree}
use Rattle.codec.specs.Views.{step_of}
use Rattle.codec.specs.Steps.{Step}
use Rattle.layout.specs.Reading.{Algorithm, Extension, Entry, Signed}
use Rattle.layout.specs.Names.{there, SignedFields}
use Rattle.layout.specs.Names.{fields_of}
use Rattle.layout.proofs.ElementKinds.{optional, time}
use Rattle.layout.proofs.Format.{single_response, responder_id, version, responses, algorithm_identifier, signature_bits, certificates, certificates_start}
use Rattle.read_ending.specs.Ends.{extensions_on}
use Rattle.read_basic.specs.declared.signed.Listed.{Listed}
use Rattle.read_basic.specs.declared.Inside.{Inside}
use Rattle.read_basic.specs.declared.Tail.{Tail}

-- ── the answers: where something is, or the place that is wrong ──
-- k entries at b, which take l octets
abbrev pub listed : (b l k : ℕ) → Listed
listed b l k = record { start = b; len = l; count = k }

abbrev pub ListedRead : Type 0
ListedRead = Result Listed Misfit

-- a responder id at v, which takes r octets, and the k entries at f after it, which take m
abbrev pub inside : (v r f m k : ℕ) → Inside
inside v r f m k = record { from = v; responder = r; start = f; len = m; count = k }

abbrev pub InsideRead : Type 0
InsideRead = Result Inside Misfit

-- an algorithm of a octets, and the signature at g, which takes h
abbrev pub tail : (a g h : ℕ) → Tail
tail a g h = record { algorithm = a; start = g; len = h }

abbrev pub TailRead : Type 0
TailRead = Result Tail Misfit

-- ── the signed part's content ──
-- how many octets the version takes, none where it is not written; and the responder id and producedAt
abbrev pub version_size : Signed → ℕ
version_size d = length (option_enc version.enc (there d.versioned))

abbrev pub responder_size : Signed → ℕ
responder_size d = length (responder_id.enc d.responder)

abbrev pub produced_size : Signed → ℕ
produced_size d = length (time.enc d.produced_at)

-- the entries' sequence, then maybe extensions
unfoldable pub responses_on : Whole (List Entry × Option (List Extension))
responses_on = field responses extensions_on

-- producedAt, then the rest
unfoldable pub produced_on : Whole (ℕ × (List Entry × Option (List Extension)))
produced_on = field time responses_on

-- how many octets the entries have, and where they start in their sequence
abbrev pub entries_length : List Entry → ℕ
entries_length l = length (forms single_response.enc l)

abbrev pub entries_place : List Entry → ℕ
entries_place l = length (responses.enc l) - entries_length l

-- where the entries are, and how many
unfoldable pub listed_of : Read (List Entry × Option (List Extension)) → ListedRead
listed_of (read x) = Ok (listed (entries_place x.0) (entries_length x.0) (length x.0))
listed_of (broke p) = Err (misfit p)

unfoldable pub produced_of : Read (ℕ × (List Entry × Option (List Extension))) → ListedRead
produced_of (read x) = Ok (listed (length (time.enc x.0) + entries_place x.1.0) (entries_length x.1.0) (length x.1.0))
produced_of (broke p) = Err (misfit p)

-- where the responder id is, n octets on, and where the entries are after its start
unfoldable pub inside_at : ℕ → SignedFields → Inside
inside_at n x =
    inside n (length (responder_id.enc x.0))
    (length (responder_id.enc x.0) + (length (time.enc x.1.0) + entries_place x.1.1.0)) (entries_length x.1.1.0)
    (length x.1.1.0)

-- the fields without a version
unfoldable pub inside_fields : Read SignedFields → InsideRead
inside_fields (read x) = Ok (inside_at 0 x)
inside_fields (broke p) = Err (misfit p)

-- the version, by the first octet: where it is not written it takes no octet
unfoldable pub version_step : List ℕ → Step
version_step s = cond (starts_with 0xa0 s) (step_of (version.dec s)) (Ok 0)

-- the fields, after the version where it is written
unfoldable pub inside_signed : Read Signed → InsideRead
inside_signed (read d) = Ok (inside_at (version_size d) (fields_of d))
inside_signed (broke p) = Err (misfit p)

-- ── what follows the signed part ──
-- maybe certificates, and nothing more
unfoldable pub certificates_on : Whole (Option (List Tree))
certificates_on = optional 0xa0 certificates certificates_start

-- the signature, then maybe certificates
unfoldable pub signature_on : Whole (List ℕ × Option (List Tree))
signature_on = field signature_bits certificates_on

-- the signature's algorithm, then the rest
unfoldable pub algorithm_on : Whole (Algorithm × (List ℕ × Option (List Tree)))
algorithm_on = field algorithm_identifier signature_on

-- where the signature is: its element's last octets
unfoldable pub signature_spot : Read (List ℕ × Option (List Tree)) → Spot
signature_spot (read x) = Ok (span (length (signature_bits.enc x.0) - length x.0) (length x.0))
signature_spot (broke p) = Err (misfit p)

-- how many octets the algorithm takes, and where the signature is after it
unfoldable pub tail_of : Read (Algorithm × (List ℕ × Option (List Tree))) → TailRead
tail_of (read x) =
    Ok (tail (length (algorithm_identifier.enc x.0))
    (length (algorithm_identifier.enc x.0) + (length (signature_bits.enc x.1.0) - length x.1.0))
    (length x.1.0))
tail_of (broke p) = Err (misfit p)
