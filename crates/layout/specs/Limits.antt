-- The limits of a reading, by its own fields alone: document 01's tags, ranges, counts, depth, the OID
-- rule and no OID twice. No octets are read here and no length is asked.
-- TimeOk, OidOk, FreeOk, SequenceOk, HashOk, ReasonOk; AlgorithmOk, CertOk, StatusOk, ExtensionOk,
-- ExtensionsOk, EntryOk, ResponderOk, SignedOk, CertificatesOk, BasicOk, FailureOk; Within.
-- That they are what the layout's codecs ask is in LimitsLaws.
-- From below: Octets (each below 256), oid_ok (the OID rule), TreeOk (the tags of a tree and its octets),
-- depth, OptionOk (where it is present), All (of each), NoneTwice (no two alike).
-- Assumes nothing.
use Rattle.std.specs.Prelude.{ℕ, ◌^◌, ◌≤◌, ◌<◌, ◌≡◌, true, List, length}
use Rattle.std.proofs.Math.Option.{Option}
use Rattle.octets.specs.Octets.{Octets}
use Rattle.content.specs.Oid.{oid_ok}
use Rattle.codec.specs.Option.{OptionOk}
use Rattle.codec.specs.Many.{All}
use Rattle.codec.specs.Each.{NoneTwice}
use Rattle.codec.specs.Tree.{Tree, tree_tag, depth, TreeOk}
use Rattle.layout.specs.Reading.{Algorithm, CertId, Status, good, revoked, unknown, Extension, Entry, Responder, by_name, by_key, Signed, Basic, Reading, failed, basic}

-- a time is at most the last second of year 9999
abbrev pub TimeOk : ℕ → Type 0
TimeOk n = n ≤ 253_402_300_799

-- an OID: octets that keep the OID rule
pub record OidOk (c : List ℕ) : Type 0 where
  pub octets : Octets c
  pub rule : oid_ok c ≡ true

-- a free element: its tags fit, and at most 16 lie one inside the other
pub record FreeOk (a : Tree) : Type 0 where
  pub tree : TreeOk a
  pub deep : depth a ≤ 16

-- a Name or a certificate: a free element with tag 30
pub record SequenceOk (a : Tree) : Type 0 where
  pub tag : tree_tag a ≡ 0x30
  pub free : FreeOk a

-- a hash: 1 to 64 octets
pub record HashOk (c : List ℕ) : Type 0 where
  pub octets : Octets c
  pub least : 1 ≤ length c
  pub most : length c ≤ 64

-- a reason: 0 to 10 but not 7
pub record ReasonOk (n : ℕ) : Type 0 where
  pub most : n ≤ 10
  pub not7 : n ≡ 7 → ⊥

-- an algorithm identifier: an OID and at most one free element
pub record AlgorithmOk (a : Algorithm) : Type 0 where
  pub oid : OidOk a.oid
  pub parameters : OptionOk FreeOk a.parameters

-- a CertID: a serial of at most 20 octets with its first bit clear is below 2 ^ 159
pub record CertOk (c : CertId) : Type 0 where
  pub algorithm : AlgorithmOk c.algorithm
  pub name_hash : HashOk c.name_hash
  pub key_hash : HashOk c.key_hash
  pub serial : c.serial < 2 ^ 159

-- revoked: a revocationTime and maybe a reason
pub record RevokedOk (t : ℕ) (r : Option ℕ) : Type 0 where
  pub time : TimeOk t
  pub reason : OptionOk ReasonOk r

-- good and unknown have no limits
abbrev pub StatusOk : Status → Type 0
StatusOk good = Unit {0}
StatusOk unknown = Unit {0}
StatusOk (revoked t r) = RevokedOk t r

-- an extension, critical or not: an OID and octets
pub record ExtensionOk (e : Extension) : Type 0 where
  pub oid : OidOk e.oid
  pub value : Octets e.value

-- extensions: 1 to 16, no OID twice
pub record ExtensionsOk (l : List Extension) : Type 0 where
  pub each : All ExtensionOk l
  pub once : NoneTwice (λ (e : Extension). e.oid) l
  pub least : 1 ≤ length l
  pub most : length l ≤ 16

-- an entry
pub record EntryOk (e : Entry) : Type 0 where
  pub cert : CertOk e.cert
  pub status : StatusOk e.status
  pub this_update : TimeOk e.this_update
  pub next_update : OptionOk TimeOk e.next_update
  pub extensions : OptionOk ExtensionsOk e.extensions

-- a key's hash: 20 octets
pub record KeyOk (k : List ℕ) : Type 0 where
  pub octets : Octets k
  pub size : length k ≡ 20

-- a responder id: a Name, or a key's hash
abbrev pub ResponderOk : Responder → Type 0
ResponderOk (by_name n) = SequenceOk n
ResponderOk (by_key k) = KeyOk k

-- the signed part: 0 to 64 entries; its version, written or not, has no limit
pub record SignedOk (s : Signed) : Type 0 where
  pub responder : ResponderOk s.responder
  pub produced_at : TimeOk s.produced_at
  pub entries : All EntryOk s.entries
  pub most : length s.entries ≤ 64
  pub extensions : OptionOk ExtensionsOk s.extensions

-- a signature: at least one octet
pub record SignatureOk (c : List ℕ) : Type 0 where
  pub octets : Octets c
  pub least : 1 ≤ length c

-- certificates: 0 to 8
pub record CertificatesOk (l : List Tree) : Type 0 where
  pub each : All SequenceOk l
  pub most : length l ≤ 8

-- a basic response
pub record BasicOk (b : Basic) : Type 0 where
  pub signed : SignedOk b.signed
  pub algorithm : AlgorithmOk b.algorithm
  pub signature : SignatureOk b.signature
  pub certificates : OptionOk CertificatesOk b.certificates

-- an error status: 1, 2, 3, 5 or 6
pub record FailureOk (n : ℕ) : Type 0 where
  pub least : 1 ≤ n
  pub most : n ≤ 6
  pub not4 : n ≡ 4 → ⊥

-- a reading is within the limits
abbrev pub Within : Reading → Type 0
Within (failed n) = FailureOk n
Within (basic b) = BasicOk b
