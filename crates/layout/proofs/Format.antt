-- The layout of a response, as codecs, in the order and with the tags of source document 002, section
-- 4.2.1, and with document 01's limits at each line. One field is not DER: the version may be written,
-- though it has a default (document 02, C-12).
-- algorithm_identifier, cert_id, cert_status, extensions, single_body (in EntryFormat); single_response, responder_id,
-- version, signed_fields, response_data, basic_response, envelope. What they read is in Reading; elements
-- by their tags are in ElementKinds; how the fields get their names is in Names.
-- Assumes nothing.
use Rattle.std.specs.Prelude.{ℕ, refl, List}
use Rattle.std.proofs.Common.{lit<}
use Rattle.codec.specs.Codec.{Whole, Element}
use Rattle.codec.proofs.Tagged.{primitive}
use Rattle.codec.proofs.Sequence.{field, only}
use Rattle.codec.proofs.Option.{option}
use Rattle.codec.proofs.Choice.{choice}
use Rattle.codec.proofs.Many.{many}
use Rattle.codec.specs.Starts.{Starts, Other, Apart}
use Rattle.codec.specs.Tree.{Tree}
use Rattle.codec.proofs.StartsLaws.{tagged_starts, starts_other, field_apart}
use Rattle.layout.specs.Reading.{Entry, Responder, by_name, by_key, Signed, Basic}
use Rattle.layout.specs.Names.{SignedFields, Envelope}
use Rattle.layout.proofs.Names.{responder, signed, basic, enveloped}
use Rattle.layout.specs.Words as words
use Rattle.layout.proofs.Words as contents
use Rattle.layout.proofs.ElementKinds.{sequence, zero, one, two, string, enumerated, optional, free_sequence, time, oid, tag_02, tag_03, tag_a0, tag_a1, tag_a2}
unfoldable pub use Rattle.layout.proofs.EntryFormat.{algorithm_body, algorithm_identifier, cert_body, cert_id, good_status, unknown_status, reason, revoked_body, revoked_status, cert_status, new_oid, critical, extension_body, extension_after, extension_list, extensions, next_update, single_body}
pub use Rattle.layout.proofs.EntryFormat.{reason_starts, good_starts, unknown_starts, revoked_starts, revoked_other, bad_other, critical_starts, value_apart, extension_keyed, extensions_start, next_starts, extensions_apart}

-- SingleResponse ::= SEQUENCE { .. }, by what stands in it
unfoldable pub single_response : Element Entry
single_response = sequence single_body

-- ResponderID ::= CHOICE { byName [1] Name, byKey [2] an OCTET STRING of 20 }
unfoldable pub name_id : Element Tree
name_id = one (only free_sequence)

unfoldable pub key_id : Element (List ℕ)
key_id = two (only (string (words.between 20 20)))

pub name_starts : Starts 0xa1 name_id
unfolding name_id
name_starts = tagged_starts 0xa1 (only free_sequence) tag_a1 (lit< tt)

pub key_starts : Starts 0xa2 key_id
unfolding key_id
key_starts = tagged_starts 0xa2 (only (string (words.between 20 20))) tag_a2 (lit< tt)

pub key_other : Other 0xa1 key_id
key_other = starts_other 0xa1 0xa2 key_id refl key_starts

unfoldable pub responder_id : Element Responder
responder_id = responder (choice 0xa1 name_id key_id name_starts key_other)

pub responder_other : Other 0xa0 responder_id
unfolding responder_id
responder_other (by_name n) h = starts_other 0xa0 0xa1 name_id refl name_starts n h
responder_other (by_key k) h = starts_other 0xa0 0xa2 key_id refl key_starts k h

-- ResponseData ::= SEQUENCE { version [0] DEFAULT v1, responderID, producedAt, responses of 0 to 64, responseExtensions [1] OPTIONAL }
-- Version ::= INTEGER { v1(0) }: no other one is read
unfoldable pub v1 : Element (Unit {0})
v1 = primitive 0x02 words.nought tag_02 (lit< tt)

unfoldable pub version : Element (Unit {0})
version = zero (only v1)

pub version_starts : Starts 0xa0 version
unfolding version
version_starts = tagged_starts 0xa0 (only v1) tag_a0 (lit< tt)

unfoldable pub responses : Element (List Entry)
responses = sequence (many 0 64 single_response)

-- the fields after the version
unfoldable pub signed_fields : Whole SignedFields
signed_fields = field responder_id (field time (field responses (optional 0xa1 extensions extensions_start)))

pub fields_apart : Apart 0xa0 signed_fields
unfolding signed_fields
fields_apart = field_apart 0xa0 responder_id (field time (field responses (optional 0xa1 extensions extensions_start))) responder_other

unfoldable pub signed_body : Whole Signed
signed_body = signed (option 0xa0 version signed_fields version_starts fields_apart)

unfoldable pub response_data : Element Signed
response_data = sequence signed_body

-- BasicOCSPResponse ::= SEQUENCE { tbsResponseData, signatureAlgorithm, signature BIT STRING, certs [0] OPTIONAL }
unfoldable pub signature_bits : Element (List ℕ)
signature_bits = primitive 0x03 contents.bits tag_03 (lit< tt)

unfoldable pub certificates : Element (List Tree)
certificates = zero (only (sequence (many 0 8 free_sequence)))

pub certificates_start : Starts 0xa0 certificates
unfolding certificates
certificates_start = tagged_starts 0xa0 (only (sequence (many 0 8 free_sequence))) tag_a0 (lit< tt)

unfoldable pub basic_body : Whole Basic
basic_body = basic (field response_data (field algorithm_identifier (field signature_bits (optional 0xa0 certificates certificates_start))))

unfoldable pub basic_response : Whole Basic
basic_response = only (sequence basic_body)

-- OCSPResponse ::= SEQUENCE { responseStatus ENUMERATED, responseBytes [0] OPTIONAL }
-- ResponseBytes ::= SEQUENCE { responseType OBJECT IDENTIFIER, response OCTET STRING }
unfoldable pub response_bytes : Element (List ℕ × List ℕ)
response_bytes = zero (only (sequence (field oid (only (string words.anything)))))

-- status 0 is followed by the response's bytes, another by nothing
unfoldable pub envelope_body : Whole Envelope
envelope_body = enveloped (enumerated words.status_ok) (only response_bytes)

unfoldable pub envelope : Whole Envelope
envelope = only (sequence envelope_body)
