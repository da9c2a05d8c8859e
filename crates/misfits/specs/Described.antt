-- The layout of a response as data, in the order and with the tags of source document 002, section
-- 4.2.1, with document 01's limits at each line and document 02's version (C-12).
-- algorithm_item, cert_id_item, status_item, extensions_item, single_item, responder_item, data_item,
-- basic_line, envelope_line.
-- Assumes nothing.
use Rattle.std.specs.Prelude.{ℕ, Bool, List, [], ◌∷◌}
use Rattle.octets.specs.Same.{same_of}
use Rattle.content.specs.Oid.{oid_ok}
use Rattle.content.specs.Serial.{serial_ok}
use Rattle.layout.specs.Words.{between, anything, reason_ok, status_ok}
use Rattle.faults.specs.Description.{Item, leaf, around, either, free, free_with, Line, nothing, then, perhaps, one_or_none, several, distinct, depending}
use Rattle.misfits.specs.Tests.{time_ok, bits_ok, single_ok, is_zero}

-- ── primitive elements ──
abbrev pub oid_item : Item
oid_item = leaf 0x06 oid_ok

abbrev pub time_item : Item
time_item = leaf 0x18 time_ok

abbrev pub serial_item : Item
serial_item = leaf 0x02 serial_ok

abbrev pub string_item : (List ℕ → Bool) → Item
string_item test = leaf 0x04 test

abbrev pub enumerated_item : (ℕ → Bool) → Item
enumerated_item test = leaf 0x0a (single_ok test)

-- ── elements around others ──
abbrev pub sequence_item : Line → Item
sequence_item l = around 0x30 l

abbrev pub only_line : Item → Line
only_line i = then i nothing

-- AlgorithmIdentifier ::= SEQUENCE { algorithm OBJECT IDENTIFIER, parameters ANY OPTIONAL }
unfoldable pub algorithm_item : Item
algorithm_item = sequence_item (then oid_item (one_or_none (free 16)))

-- CertID ::= SEQUENCE { hashAlgorithm, issuerNameHash and issuerKeyHash of 1 to 64, serialNumber }
unfoldable pub cert_id_item : Item
cert_id_item = sequence_item (then algorithm_item (then (string_item (between 1 64)) (then (string_item (between 1 64)) (only_line serial_item))))

-- CertStatus ::= CHOICE { good [0] NULL, revoked [1] RevokedInfo, unknown [2] NULL }
-- RevokedInfo ::= SEQUENCE { revocationTime, revocationReason [0] 0 to 10 but not 7 OPTIONAL }
unfoldable pub revoked_line : Line
revoked_line = then time_item (perhaps 0xa0 (around 0xa0 (only_line (enumerated_item reason_ok))) nothing)

unfoldable pub status_item : Item
status_item = either 0x80 (leaf 0x80 (same_of [])) (either 0x82 (leaf 0x82 (same_of [])) (around 0xa1 revoked_line))

-- Extension ::= SEQUENCE { extnID, critical BOOLEAN DEFAULT FALSE, extnValue OCTET STRING }
-- Extensions ::= SEQUENCE OF Extension, 1 to 16, no OID twice
unfoldable pub after_oid_line : Line
after_oid_line = perhaps 0x01 (leaf 0x01 (same_of (0xff ∷ []))) (only_line (string_item anything))

unfoldable pub extensions_item : Item
extensions_item = around 0xa1 (only_line (sequence_item (distinct 1 16 0x30 0x06 oid_ok after_oid_line)))

-- SingleResponse ::= SEQUENCE { certID, certStatus, thisUpdate, nextUpdate [0] OPTIONAL, singleExtensions [1] OPTIONAL }
unfoldable pub single_item : Item
single_item =
    sequence_item (then cert_id_item (then status_item (then time_item (perhaps 0xa0 (around 0xa0 (only_line time_item)) (perhaps 0xa1 extensions_item nothing)))))

-- ResponderID ::= CHOICE { byName [1] Name, byKey [2] an OCTET STRING of 20 }
unfoldable pub responder_item : Item
responder_item = either 0xa1 (around 0xa1 (only_line (free_with 0x30 16))) (around 0xa2 (only_line (string_item (between 20 20))))

-- ResponseData ::= SEQUENCE { version [0] DEFAULT v1, responderID, producedAt, responses of 0 to 64, responseExtensions [1] OPTIONAL }
-- Version ::= INTEGER { v1(0) }: another one does not fit
unfoldable pub version_item : Item
version_item = around 0xa0 (only_line (leaf 0x02 (same_of (0x00 ∷ []))))

unfoldable pub fields_line : Line
fields_line = then responder_item (then time_item (then (sequence_item (several 0 64 single_item)) (perhaps 0xa1 extensions_item nothing)))

unfoldable pub data_item : Item
data_item = sequence_item (perhaps 0xa0 version_item fields_line)

-- BasicOCSPResponse ::= SEQUENCE { tbsResponseData, signatureAlgorithm, signature BIT STRING, certs [0] OPTIONAL }
unfoldable pub certificates_item : Item
certificates_item = around 0xa0 (only_line (sequence_item (several 0 8 (free_with 0x30 16))))

unfoldable pub basic_line : Line
basic_line =
    only_line (sequence_item (then data_item (then algorithm_item (then (leaf 0x03 bits_ok) (perhaps 0xa0 certificates_item nothing)))))

-- ResponseBytes ::= SEQUENCE { responseType OBJECT IDENTIFIER, response OCTET STRING }
unfoldable pub bytes_item : Item
bytes_item = around 0xa0 (only_line (sequence_item (then oid_item (only_line (string_item anything)))))

-- OCSPResponse ::= SEQUENCE { responseStatus ENUMERATED, responseBytes [0] OPTIONAL }
-- status 0 is followed by the response's bytes, another by nothing
unfoldable pub envelope_line : Line
envelope_line = only_line (sequence_item (depending (enumerated_item status_ok) is_zero (only_line bytes_item) nothing))
