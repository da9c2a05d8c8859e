-- Whole responses, read and written by computing: error responses, one of another type, a small basic
-- one, and the same with its version written, 0 and another.
-- unauthorized, m10, other_type_lem, small_read, small_der, version_read, version_der, version_1.
-- A response with every optional part is in FullExample, one that a document prints in Sample; what does
-- not fit piece by piece is in Refusals.
-- The definitions stand here; the laws, and what is made of them, in proofs/Examples.
-- Assumes nothing.
use Rattle.std.specs.Prelude.{ℕ, List, [], ◌∷◌, ◌++◌}
use Rattle.std.proofs.Math.Option.{none}
use Rattle.calendar.specs.Examples.{text}
use Rattle.layout.specs.Reading.{Algorithm}

-- ── what the basic responses are made of ──
-- Ed25519, as an OID's content
abbrev pub ed25519 : List ℕ
ed25519 = 0x2b ∷ 0x65 ∷ 0x70 ∷ []

-- the basic type, an element
abbrev pub type_element : List ℕ
type_element = 0x06 ∷ 0x09 ∷ 0x2b ∷ 0x06 ∷ 0x01 ∷ 0x05 ∷ 0x05 ∷ 0x07 ∷ 0x30 ∷ 0x01 ∷ 0x01 ∷ []

-- M1, and two days later
abbrev pub first : List ℕ
first = 0x18 ∷ 0x0f ∷ text 20050501010000

abbrev pub next : List ℕ
next = 0xa0 ∷ 0x11 ∷ 0x18 ∷ 0x0f ∷ text 20050503010000

abbrev pub hashes : List ℕ
hashes = 0x04 ∷ 0x01 ∷ 0x11 ∷ 0x04 ∷ 0x01 ∷ 0x22 ∷ []

-- the signature and its algorithm
abbrev pub signature : List ℕ
signature = (0x30 ∷ 0x05 ∷ 0x06 ∷ 0x03 ∷ ed25519) ++ (0x03 ∷ 0x03 ∷ 0x00 ∷ 0xaa ∷ 0xbb ∷ [])

abbrev pub signer : Algorithm
signer = record { oid = ed25519; parameters = none }
