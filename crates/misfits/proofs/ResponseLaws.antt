-- The codecs of a response give the first place of the described response's faults.
-- basic_placed, envelope_placed. Entries are in EntryLaws.
-- Assumes nothing.
use Rattle.std.specs.Prelude.{[], ◌∷◌}
use Rattle.octets.specs.Same.{same_of}
use Rattle.codec.specs.Contents.{fixed_read, filled_dec}
use Rattle.codec.specs.Tagged.{own}
use Rattle.layout.specs.Words.{bits_read, single_read, between, anything, status_ok}
use Rattle.layout.specs.Names.{succeeds}
use Rattle.layout.proofs.ElementKinds as kinds
use Rattle.layout.proofs.Format as format
use Rattle.faults.specs.Description.{leaf}
use Rattle.faults.specs.Faults.{content_at}
use Rattle.faults.proofs.ContentLaws.{fixed_finds}
use Rattle.faults.proofs.PartLaws.{tagged_content}
use Rattle.faults.specs.Placed.{PlacedHead, Placed}
use Rattle.faults.proofs.PlacedLaws.{leaf_placed, around_placed, either_placed, free_with_placed, called, named, end_placed, then_placed, perhaps_placed, only_placed, several_placed, depending_placed}
use Rattle.misfits.specs.Tests.{bits_ok, is_zero}
use Rattle.misfits.proofs.TestLaws.{bits_finds, zero_content}
use Rattle.misfits.specs.Described.{responder_item, version_item, fields_line, data_item, certificates_item, basic_line, bytes_item, envelope_line}
use Rattle.misfits.proofs.EntryLaws.{oid_placed, time_placed, string_placed, enumerated_placed, algorithm_placed, single_placed, perhaps_extensions}

-- ── the basic response ──
responder_placed : PlacedHead (format.responder_id).dec responder_item
unfolding format.responder_id format.name_id format.key_id kinds.free_sequence responder_item
responder_placed =
    called _ (either_placed 0xa1 (around_placed 0xa1 (only_placed (free_with_placed 0x30 16)))
    (around_placed 0xa2 (only_placed (string_placed (between 20 20)))))

version_placed : PlacedHead (format.version).dec version_item
unfolding format.version format.v1 version_item
version_placed =
    around_placed 0xa0 (only_placed (leaf_placed 0x02 (fixed_read (0x00 ∷ [])) (same_of (0x00 ∷ [])) (fixed_finds (0x00 ∷ []))))

fields_placed : Placed (format.signed_fields).dec fields_line
unfolding format.signed_fields format.responses fields_line
fields_placed =
    then_placed responder_placed
    (then_placed time_placed (then_placed (around_placed 0x30 (several_placed single_placed 0 64)) perhaps_extensions))

data_placed : PlacedHead (format.response_data).dec data_item
unfolding format.response_data format.signed_body data_item
data_placed = around_placed 0x30 (named _ (perhaps_placed version_placed 0xa0 fields_placed))

certificates_placed : PlacedHead (format.certificates).dec certificates_item
unfolding format.certificates kinds.free_sequence certificates_item
certificates_placed = around_placed 0xa0 (only_placed (around_placed 0x30 (several_placed (free_with_placed 0x30 16) 0 8)))

signature_placed : PlacedHead (format.signature_bits).dec (leaf 0x03 bits_ok)
unfolding format.signature_bits
signature_placed = leaf_placed 0x03 bits_read bits_ok bits_finds

pub basic_placed : Placed (format.basic_response).dec basic_line
unfolding format.basic_response format.basic_body basic_line
basic_placed =
    only_placed (around_placed 0x30
    (named _ (then_placed data_placed (then_placed algorithm_placed (then_placed signature_placed
    (named _ (perhaps_placed certificates_placed 0xa0 end_placed)))))))

-- ── the envelope ──
bytes_placed : PlacedHead (format.response_bytes).dec bytes_item
unfolding format.response_bytes bytes_item
bytes_placed = around_placed 0xa0 (only_placed (around_placed 0x30 (then_placed oid_placed (only_placed (string_placed anything)))))

pub envelope_placed : Placed (format.envelope).dec envelope_line
unfolding format.envelope format.envelope_body envelope_line
envelope_placed =
    only_placed (around_placed 0x30
    (named _ (depending_placed (enumerated_placed status_ok) succeeds is_zero
    (λ s a n e. zero_content status_ok (content_at s) a (tagged_content own 0x0a (filled_dec (single_read status_ok)) s a n e))
    (only_placed bytes_placed) end_placed)))
