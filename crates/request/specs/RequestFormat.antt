-- The layout of a request, as codecs (source document 002, section 4.1.1), with what source document 000, 2.1, leaves
-- of it: no signature, no requestor's name, one Request, no extensions. The version has a default and so is not written.
-- single_request, request_list, tbs_request, ocsp_request; cert_with, cert_of. Their laws are in FormLaws and RequestLaws.
-- What they read is a CertID, as in the layout of a response.
-- Assumes nothing.
use Rattle.std.specs.Prelude.{ℕ, List}
use Rattle.octets.specs.Number.{value_of}
use Rattle.codec.specs.Codec.{Whole, Element}
use Rattle.codec.proofs.Sequence.{only}
use Rattle.layout.specs.Reading.{Algorithm, CertId}
use Rattle.layout.proofs.ElementKinds.{sequence}
use Rattle.layout.proofs.EntryFormat.{cert_id}
use Rattle.layout.specs.Sha1.{sha1}
use Rattle.answer.specs.Card.{serial_in}
use Rattle.answer.specs.declared.Card.{Card}
use Rattle.rule_matching.specs.Known.{null_of}

-- Request ::= SEQUENCE { reqCert CertID }
unfoldable pub single_request : Element CertId
single_request = sequence (only cert_id)

-- requestList: SEQUENCE OF Request, one
unfoldable pub request_list : Element CertId
request_list = sequence (only single_request)

-- TBSRequest ::= SEQUENCE { requestList }
unfoldable pub tbs_request : Element CertId
tbs_request = sequence (only request_list)

-- OCSPRequest ::= SEQUENCE { tbsRequest }, and nothing follows it
unfoldable pub ocsp_request : Whole CertId
ocsp_request = only (sequence (only tbs_request))

-- a CertID with this algorithm, these hashes and the number of this serial
abbrev pub cert_with : Algorithm → List ℕ → List ℕ → List ℕ → CertId
cert_with a name key serial = record { algorithm = a; name_hash = name; key_hash = key; serial = value_of serial }

-- the CertID that is asked about: SHA-1 with 05 00, the card's hashes, the number of its serial
abbrev pub cert_of : Card → CertId
cert_of card = cert_with (null_of sha1) card.name card.key (serial_in card)
