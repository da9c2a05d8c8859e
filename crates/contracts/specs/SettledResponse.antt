-- Settled contracts of the response and its parts.
-- One theorem for each public function, CRATE_FUNCTION_settled, crate by crate:
-- read_sequence to read_response, in the order of crates.txt, and show.
-- Of a function that writes, CRATE_FUNCTION_buffer says the same of the buffer. Of a returned part, its octets are said.
-- What it is to be settled is in Settled. Assumes nothing.
use Rattle.contracts.specs.Settled.{Settled, settled, Settles, settles}
use Rattle.read_sequence.proofs.starts_with.Reads as read_sequence_starts_with
use Rattle.read_sequence.proofs.filled.Reads as read_sequence_filled
use Rattle.read_sequence.proofs.closed.Reads as read_sequence_closed
use Rattle.read_sequence.proofs.after.Reads as read_sequence_after
use Rattle.read_algorithm.proofs.read_algorithm.Reads as read_algorithm_read_algorithm
use Rattle.read_cert_id.proofs.read_cert.Reads as read_cert_id_read_cert
use Rattle.read_status.proofs.read_status.Reads as read_status_read_status
use Rattle.read_oids.proofs.name_at.Reads as read_oids_name_at
use Rattle.read_oids.proofs.is_new.Reads as read_oids_is_new
use Rattle.read_extension.proofs.read_extension.Reads as read_extension_read_extension
use Rattle.read_extensions.proofs.read_list.Reads as read_extensions_read_list
use Rattle.read_extensions.proofs.read_extensions.Reads as read_extensions_read_extensions
use Rattle.read_critical.proofs.strange_place.Reads as read_critical_strange_place
use Rattle.read_ending.proofs.extensions_maybe.Reads as read_ending_extensions_maybe
use Rattle.read_ending.proofs.next_and_more.Reads as read_ending_next_and_more
use Rattle.read_entry.proofs.read_single.Reads as read_entry_read_single
use Rattle.read_entry.proofs.read_entries.Reads as read_entry_read_entries
use Rattle.read_entry_values.proofs.look_at.Reads as read_entry_values_look_at
use Rattle.read_envelope.proofs.read_envelope.Reads as read_envelope_read_envelope
use Rattle.read_version.proofs.read_version.Reads as read_version_read_version
use Rattle.read_signer.proofs.read_responder.Reads as read_signer_read_responder
use Rattle.read_signer.proofs.read_certificates.Reads as read_signer_read_certificates
use Rattle.read_basic.proofs.signed_body.Reads as read_basic_signed_body
use Rattle.read_basic.proofs.algorithm_and_more.Reads as read_basic_algorithm_and_more
use Rattle.read_response.proofs.judge.Reads as read_response_judge
use Rattle.read_response.proofs.refusal_of.Reads as read_response_refusal_of
use Rattle.read_response.proofs.refuse.Reads as read_response_refuse
use Rattle.show.proofs.entry_at.Reads as show_entry_at
use Rattle.show.proofs.parts_of.Reads as show_parts_of
use Rattle.show.proofs.octets_at.Reads as show_octets_at
use Rattle.show.proofs.signed_part.Reads as show_signed_part
use Rattle.show.proofs.signature.Reads as show_signature

-- ── crate read_sequence ──
pub read_sequence_starts_with_settled : Settled read_sequence_starts_with.Asked read_sequence_starts_with.Learnt
read_sequence_starts_with_settled = settled _ _ _ (λ k a. tt) (λ k a z e p. p)

pub read_sequence_filled_settled : Settled read_sequence_filled.Asked read_sequence_filled.Learnt
read_sequence_filled_settled = settled _ _ _ (λ k a. tt) (λ k a z e p. p)

pub read_sequence_closed_settled : Settled read_sequence_closed.Asked read_sequence_closed.Learnt
read_sequence_closed_settled = settled _ _ _ (λ k a. tt) (λ k a z e p. p)

pub read_sequence_after_settled : Settled read_sequence_after.Asked read_sequence_after.Learnt
read_sequence_after_settled = settled _ _ _ (λ k a. tt) (λ k a z e p. p)

-- ── crate read_algorithm ──
pub read_algorithm_read_algorithm_settled : Settled read_algorithm_read_algorithm.Asked read_algorithm_read_algorithm.Learnt
read_algorithm_read_algorithm_settled = settled _ _ _ (λ k a. tt) (λ k a z e p. p)

-- ── crate read_cert_id ──
pub read_cert_id_read_cert_settled : Settled read_cert_id_read_cert.Asked read_cert_id_read_cert.Learnt
read_cert_id_read_cert_settled = settled _ _ _ (λ k a. tt) (λ k a z e p. p)

-- ── crate read_status ──
pub read_status_read_status_settled : Settled read_status_read_status.Asked read_status_read_status.Learnt
read_status_read_status_settled = settled _ _ _ (λ k a. tt) (λ k a z e p. p)

-- ── crate read_oids ──
pub read_oids_name_at_settled : Settled read_oids_name_at.Asked read_oids_name_at.Learnt
read_oids_name_at_settled = settled _ _ _ (λ k a. tt) (λ k a z e p. p)

pub read_oids_is_new_settled : Settled read_oids_is_new.Asked read_oids_is_new.Learnt
read_oids_is_new_settled = settled _ _ _ (λ k a. tt) (λ k a z e p. p)

-- ── crate read_extension ──
pub read_extension_read_extension_settled : Settled read_extension_read_extension.Asked read_extension_read_extension.Learnt
read_extension_read_extension_settled = settled _ _ _ (λ k a. tt) (λ k a z e p. p)

-- ── crate read_extensions ──
pub read_extensions_read_list_settled : Settled read_extensions_read_list.Asked read_extensions_read_list.Learnt
read_extensions_read_list_settled = settled _ _ _ (λ k a. tt) (λ k a z e p. p)

pub read_extensions_read_extensions_settled : Settled read_extensions_read_extensions.Asked read_extensions_read_extensions.Learnt
read_extensions_read_extensions_settled = settled _ _ _ (λ k a. tt) (λ k a z e p. p)

-- ── crate read_critical ──
pub read_critical_strange_place_settled : Settled read_critical_strange_place.Asked read_critical_strange_place.Learnt
read_critical_strange_place_settled = settled _ _ _ (λ k a. tt) (λ k a z e p. p)

-- ── crate read_ending ──
pub read_ending_extensions_maybe_settled : Settled read_ending_extensions_maybe.Asked read_ending_extensions_maybe.Learnt
read_ending_extensions_maybe_settled = settled _ _ _ (λ k a. tt) (λ k a z e p. p)

pub read_ending_next_and_more_settled : Settled read_ending_next_and_more.Asked read_ending_next_and_more.Learnt
read_ending_next_and_more_settled = settled _ _ _ (λ k a. tt) (λ k a z e p. p)

-- ── crate read_entry ──
pub read_entry_read_single_settled : Settled read_entry_read_single.Asked read_entry_read_single.Learnt
read_entry_read_single_settled = settled _ _ _ (λ k a. tt) (λ k a z e p. p)

pub read_entry_read_entries_settled : Settled read_entry_read_entries.Asked read_entry_read_entries.Learnt
read_entry_read_entries_settled = settled _ _ _ (λ k a. tt) (λ k a z e p. p)

-- ── crate read_entry_values ──
pub read_entry_values_look_at_settled : Settled read_entry_values_look_at.Asked read_entry_values_look_at.Learnt
read_entry_values_look_at_settled = settled _ _ _ (λ k a. tt) (λ k a z e p. p)

-- ── crate read_envelope ──
pub read_envelope_read_envelope_settled : Settled read_envelope_read_envelope.Asked read_envelope_read_envelope.Learnt
read_envelope_read_envelope_settled = settled _ _ _ (λ k a. tt) (λ k a z e p. p)

-- ── crate read_version ──
pub read_version_read_version_settled : Settled read_version_read_version.Asked read_version_read_version.Learnt
read_version_read_version_settled = settled _ _ _ (λ k a. tt) (λ k a z e p. p)

-- ── crate read_signer ──
pub read_signer_read_responder_settled : Settled read_signer_read_responder.Asked read_signer_read_responder.Learnt
read_signer_read_responder_settled = settled _ _ _ (λ k a. tt) (λ k a z e p. p)

pub read_signer_read_certificates_settled : Settled read_signer_read_certificates.Asked read_signer_read_certificates.Learnt
read_signer_read_certificates_settled = settled _ _ _ (λ k a. tt) (λ k a z e p. p)

-- ── crate read_basic ──
pub read_basic_signed_body_settled : Settled read_basic_signed_body.Asked read_basic_signed_body.Learnt
read_basic_signed_body_settled = settled _ _ _ (λ k a. tt) (λ k a z e p. p)

pub read_basic_algorithm_and_more_settled : Settled read_basic_algorithm_and_more.Asked read_basic_algorithm_and_more.Learnt
read_basic_algorithm_and_more_settled = settled _ _ _ (λ k a. tt) (λ k a z e p. p)

-- ── crate read_response ──
pub read_response_judge_settled : Settled read_response_judge.Asked read_response_judge.Learnt
read_response_judge_settled = settled _ _ _ (λ k a. tt) (λ k a z e p. p)

pub read_response_refusal_of_settled : Settled read_response_refusal_of.Asked read_response_refusal_of.Learnt
read_response_refusal_of_settled = settled _ _ _ (λ k a. tt) (λ k a z e p. p)

pub read_response_refuse_settled : Settled read_response_refuse.Asked read_response_refuse.Learnt
read_response_refuse_settled = settled _ _ _ (λ k a. tt) (λ k a z e p. p)

-- ── crate show ──
pub show_entry_at_settled : Settled show_entry_at.Asked show_entry_at.Learnt
show_entry_at_settled = settled _ _ _ (λ k a. tt) (λ k a z e p. p)

pub show_parts_of_settled : Settled show_parts_of.Asked show_parts_of.Learnt
show_parts_of_settled = settled _ _ _ (λ k a. tt) (λ k a z e p. p)

pub show_octets_at_settled : Settles show_octets_at.Asked show_octets_at.Learnt (λ k z e. z.now)
show_octets_at_settled = settles _ _ (λ k z e. z.now) _ (λ k a. tt) (λ k a z e p. p)

pub show_signed_part_settled : Settles show_signed_part.Asked show_signed_part.Learnt (λ k z e. z.now)
show_signed_part_settled = settles _ _ (λ k z e. z.now) _ (λ k a. tt) (λ k a z e p. p)

pub show_signature_settled : Settles show_signature.Asked show_signature.Learnt (λ k z e. z.now)
show_signature_settled = settles _ _ (λ k z e. z.now) _ (λ k a. tt) (λ k a z e p. p)
