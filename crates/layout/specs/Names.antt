-- The fields of the layout under their names: each codec of pairs and choices, as a codec of a record
-- or type of Reading. Nothing is read or written another way.
-- algorithm, cert, status, extension, entry, responder, SignedFields, signed, basic; Envelope, enveloped.
-- The definitions stand here; the laws, and what is made of them, in proofs/Names.
-- Assumes nothing.
use Rattle.std.specs.Prelude.{ℕ, refl, Bool, true, false, List, ◌⊎◌, eqb}
use Rattle.std.proofs.Common.{inl, inr}
use Rattle.std.proofs.Math.Option.{Option, none, some}
use Rattle.codec.specs.Codec.{Whole}
use Rattle.codec.proofs.Mapped.{mapped}
use Rattle.codec.specs.Tree.{Tree}
use Rattle.layout.specs.Reading.{Algorithm, CertId, Status, good, revoked, unknown, Extension, Entry, Responder, by_name, by_key, Signed}

abbrev pub algorithm : Whole (List ℕ × Option Tree) → Whole Algorithm
algorithm w = mapped (λ x. record { oid = x.0; parameters = x.1 }) (λ a. (a.oid, a.parameters)) (λ b. refl) (λ a. refl) w

abbrev pub cert : Whole (Algorithm × (List ℕ × (List ℕ × ℕ))) → Whole CertId
cert w =
    mapped (λ x. record { algorithm = x.0; name_hash = x.1.0; key_hash = x.1.1.0; serial = x.1.1.1 })
    (λ c. (c.algorithm, (c.name_hash, (c.key_hash, c.serial)))) (λ b. refl) (λ a. refl) w

-- good, unknown, or revoked at a time and maybe for a reason
abbrev pub StatusParts : Type 0
StatusParts = Unit {0} ⊎ (Unit {0} ⊎ (ℕ × Option ℕ))

abbrev pub status_from : StatusParts → Status
status_from (inl u) = good
status_from (inr (inl u)) = unknown
status_from (inr (inr r)) = revoked r.0 r.1

abbrev pub status_parts : Status → StatusParts
status_parts good = inl tt
status_parts unknown = inr (inl tt)
status_parts (revoked t r) = inr (inr (t, r))

-- whether an element without a value is written: an extension is critical where TRUE is
abbrev pub is_there : Option (Unit {0}) → Bool
is_there none = false
is_there (some u) = true

abbrev pub there : Bool → Option (Unit {0})
there false = none
there true = some tt

abbrev pub ExtensionParts : Type 0
ExtensionParts = List ℕ × (Option (Unit {0}) × List ℕ)

abbrev pub extension_of : ExtensionParts → Extension
extension_of x = record { oid = x.0; critical = is_there x.1.0; value = x.1.1 }

abbrev pub extension_parts : Extension → ExtensionParts
extension_parts e = (e.oid, (there e.critical, e.value))

abbrev pub responder_of : Tree ⊎ List ℕ → Responder
responder_of (inl n) = by_name n
responder_of (inr k) = by_key k

abbrev pub responder_parts : Responder → Tree ⊎ List ℕ
responder_parts (by_name n) = inl n
responder_parts (by_key k) = inr k

-- the fields of a signed part, without its version
abbrev pub SignedFields : Type 0
SignedFields = Responder × (ℕ × (List Entry × Option (List Extension)))

-- maybe the version, then the fields
abbrev pub SignedParts : Type 0
SignedParts = Option (Unit {0}) × SignedFields

abbrev pub fields_of : Signed → SignedFields
fields_of s = (s.responder, (s.produced_at, (s.entries, s.extensions)))

abbrev pub signed_from : SignedParts → Signed
signed_from x =
    record { versioned = is_there x.0; responder = x.1.0; produced_at = x.1.1.0; entries = x.1.1.1.0; extensions = x.1.1.1.1 }

abbrev pub signed_parts : Signed → SignedParts
signed_parts s = (there s.versioned, fields_of s)

-- an error response's status, or a successful one's type and string
pub data Envelope : Type 0 where
  failure : ℕ → Envelope
  success : List ℕ → List ℕ → Envelope

-- status 0
abbrev pub succeeds : ℕ → Bool
succeeds n = eqb n 0

abbrev pub EnvelopeParts : Type 0
EnvelopeParts = (ℕ × (List ℕ × List ℕ)) ⊎ (ℕ × Unit {0})

abbrev pub envelope_of : EnvelopeParts → Envelope
envelope_of (inl x) = success x.1.0 x.1.1
envelope_of (inr x) = failure x.0

abbrev pub envelope_parts : Envelope → EnvelopeParts
envelope_parts (success t s) = inl (0, (t, s))
envelope_parts (failure n) = inr (n, tt)
