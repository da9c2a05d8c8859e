-- The layout of an entry, as codecs, in the order and with the tags of source document 002, section
-- 4.2.1, and with document 01's limits at each line.
-- algorithm_identifier, cert_id, cert_status, extensions, single_body. What they read is in Reading;
-- elements by their tags are in ElementKinds; how the fields get their names is in Names; one extension is in
-- ExtensionFormat. The response around the entries is in Format, which passes these names on.
-- Assumes nothing.
use Rattle.std.specs.Prelude.{ℕ, refl, List}
use Rattle.std.proofs.Math.Option.{Option}
use Rattle.std.proofs.Common.{lit<}
use Rattle.codec.specs.Codec.{Whole, Element}
use Rattle.codec.proofs.Tagged.{primitive}
use Rattle.codec.proofs.Sequence.{end, field, only}
use Rattle.codec.proofs.Maybe.{maybe}
use Rattle.codec.proofs.Option.{option}
use Rattle.codec.proofs.Choice.{choice}
use Rattle.codec.proofs.Each.{each}
use Rattle.codec.specs.Starts.{Starts, Other, Apart}
use Rattle.codec.proofs.StartsLaws.{tagged_starts, primitive_starts, starts_other, end_apart, option_apart, choice_other}
use Rattle.layout.specs.Reading.{Algorithm, CertId, Status, Extension, Entry}
use Rattle.layout.specs.Names.{algorithm, cert}
use Rattle.layout.proofs.Names.{status, entry}
use Rattle.layout.specs.Words as words
unfoldable pub use Rattle.layout.proofs.ExtensionFormat.{new_oid, critical, extension_body, extension_after}
pub use Rattle.layout.proofs.ExtensionFormat.{critical_starts, value_apart, extension_keyed}
use Rattle.layout.proofs.ElementKinds.{sequence, zero, one, enumerated, optional, free, time, serial, oid, hash, tag_80, tag_82, tag_a0, tag_a1}

-- AlgorithmIdentifier ::= SEQUENCE { algorithm OBJECT IDENTIFIER, parameters ANY OPTIONAL }
unfoldable pub algorithm_body : Whole Algorithm
algorithm_body = algorithm (field oid (maybe free))

unfoldable pub algorithm_identifier : Element Algorithm
algorithm_identifier = sequence algorithm_body

-- CertID ::= SEQUENCE { hashAlgorithm, issuerNameHash and issuerKeyHash of 1 to 64, serialNumber }
unfoldable pub cert_body : Whole CertId
cert_body = cert (field algorithm_identifier (field hash (field hash (only serial))))

unfoldable pub cert_id : Element CertId
cert_id = sequence cert_body

-- CertStatus ::= CHOICE { good [0] NULL, revoked [1] RevokedInfo, unknown [2] NULL }
-- RevokedInfo ::= SEQUENCE { revocationTime, revocationReason [0] 0 to 10 but not 7 OPTIONAL }
unfoldable pub good_status : Element (Unit {0})
good_status = primitive 0x80 words.empty tag_80 (lit< tt)

unfoldable pub unknown_status : Element (Unit {0})
unknown_status = primitive 0x82 words.empty tag_82 (lit< tt)

unfoldable pub reason : Element ℕ
reason = zero (only (enumerated words.reason_ok))

pub reason_starts : Starts 0xa0 reason
unfolding reason
reason_starts = tagged_starts 0xa0 (only (enumerated words.reason_ok)) tag_a0 (lit< tt)

unfoldable pub revoked_body : Whole (ℕ × Option ℕ)
revoked_body = field time (optional 0xa0 reason reason_starts)

unfoldable pub revoked_status : Element (ℕ × Option ℕ)
revoked_status = one revoked_body

pub good_starts : Starts 0x80 good_status
unfolding good_status
good_starts = primitive_starts 0x80 words.empty tag_80 (lit< tt)

pub unknown_starts : Starts 0x82 unknown_status
unfolding unknown_status
unknown_starts = primitive_starts 0x82 words.empty tag_82 (lit< tt)

pub revoked_starts : Starts 0xa1 revoked_status
unfolding revoked_status
revoked_starts = tagged_starts 0xa1 revoked_body tag_a1 (lit< tt)

pub revoked_other : Other 0x82 revoked_status
revoked_other = starts_other 0x82 0xa1 revoked_status refl revoked_starts

pub bad_other : Other 0x80 (choice 0x82 unknown_status revoked_status unknown_starts revoked_other)
bad_other =
    choice_other 0x80 0x82 unknown_status revoked_status unknown_starts revoked_other
    (starts_other 0x80 0x82 unknown_status refl unknown_starts) (starts_other 0x80 0xa1 revoked_status refl revoked_starts)

unfoldable pub cert_status : Element Status
cert_status =
    status (choice 0x80 good_status (choice 0x82 unknown_status revoked_status unknown_starts revoked_other) good_starts bad_other)

-- Extensions ::= SEQUENCE OF Extension, 1 to 16, no OID twice
unfoldable pub extension_list : Whole (List Extension)
extension_list = each 1 16 (λ e. e.oid) extension_after extension_keyed

unfoldable pub extensions : Element (List Extension)
extensions = one (only (sequence extension_list))

pub extensions_start : Starts 0xa1 extensions
unfolding extensions
extensions_start = tagged_starts 0xa1 (only (sequence extension_list)) tag_a1 (lit< tt)

-- SingleResponse ::= SEQUENCE { certID, certStatus, thisUpdate, nextUpdate [0] OPTIONAL, singleExtensions [1] OPTIONAL }
unfoldable pub next_update : Element ℕ
next_update = zero (only time)

pub next_starts : Starts 0xa0 next_update
unfolding next_update
next_starts = tagged_starts 0xa0 (only time) tag_a0 (lit< tt)

pub extensions_apart : Apart 0xa0 (optional 0xa1 extensions extensions_start)
extensions_apart x h =
    option_apart 0xa0 0xa1 extensions end extensions_start (end_apart 0xa1)
    (starts_other 0xa0 0xa1 extensions refl extensions_start) (end_apart 0xa0) (x, tt) h

unfoldable pub single_body : Whole Entry
single_body =
    entry (field cert_id (field cert_status (field time
    (option 0xa0 next_update (optional 0xa1 extensions extensions_start) next_starts extensions_apart))))
