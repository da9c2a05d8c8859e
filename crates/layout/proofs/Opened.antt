-- What a reading and a DER form compute with, in four lists: a proof that says `unfolding opened` opens
-- all that they name. For examples only; they have no other meaning.
-- opened: below, combined, contents, page.
-- The laws stand here, and what is made of them; the definitions in specs/Opened.
-- Assumes nothing.
use Rattle.layout.specs.Words.{time_read, serial_read, between, bits_read, single_read, reason_ok, status_ok}
use Rattle.layout.proofs.ElementKinds.{free, free_sequence, time, serial, oid, hash}
use Rattle.layout.proofs.Format.{algorithm_body, algorithm_identifier, cert_body, cert_id, reason, good_status, unknown_status, revoked_body, revoked_status, cert_status, new_oid, critical, extension_body, extension_after, extension_list, extensions, next_update, single_body, single_response}
use Rattle.layout.proofs.Format.{name_id, key_id, responder_id, v1, version, responses, signed_fields, signed_body, response_data, signature_bits, certificates, basic_body, basic_response, response_bytes, envelope_body, envelope}
use Rattle.layout.proofs.Read.{der, reading}
use Rattle.layout.specs.Opened.{below, combined}

-- contents and elements by their tags
unfoldable pub contents : Unit {0}
unfolding time_read serial_read between bits_read single_read reason_ok status_ok free free_sequence time serial oid hash
contents = tt

-- the layout
unfoldable pub page : Unit {0}
unfolding algorithm_body algorithm_identifier cert_body cert_id reason good_status unknown_status revoked_body revoked_status cert_status new_oid critical extension_body extension_after extension_list extensions next_update single_body single_response name_id key_id responder_id v1 version responses signed_fields signed_body response_data signature_bits certificates basic_body basic_response response_bytes envelope_body envelope
page = tt

unfoldable pub opened : Unit {0}
unfolding below combined contents page der reading
opened = tt
