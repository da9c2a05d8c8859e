-- Settled contracts of requests, slips and the desk.
-- One theorem for each public function, CRATE_FUNCTION_settled, crate by crate:
-- fields, read_errors, request, slip, slip_write, slip_read, hexadecimal, desk_intake, desk_case, desk_line.
-- Of a function that writes, CRATE_FUNCTION_buffer says the same of the buffer. Of a returned part, its octets are said.
-- What it is to be settled is in Settled. Assumes nothing.
use Rattle.contracts.specs.Settled.{Settled, settled, Settles, settles}
use Rattle.fields.proofs.hash_at.Reads as fields_hash_at
use Rattle.fields.proofs.value_at.Reads as fields_value_at
use Rattle.fields.proofs.card_in.Reads as fields_card_in
use Rattle.fields.proofs.room_for.Reads as fields_room_for
use Rattle.read_errors.proofs.error_status.Reads as read_errors_error_status
use Rattle.request.proofs.write_request.Reads as request_write_request
use Rattle.slip.proofs.has_card.Reads as slip_has_card
use Rattle.slip.proofs.size_of.Reads as slip_size_of
use Rattle.slip.proofs.slip_size.Reads as slip_slip_size
use Rattle.slip.proofs.slip_fits.Reads as slip_slip_fits
use Rattle.slip.proofs.times_fit.Reads as slip_times_fit
use Rattle.slip.proofs.reason_fits.Reads as slip_reason_fits
use Rattle.slip_write.proofs.write_slip.Reads as slip_write_write_slip
use Rattle.slip_write.proofs.write_unjudged.Reads as slip_write_write_unjudged
use Rattle.slip_read.proofs.read_slip.Reads as slip_read_read_slip
use Rattle.hexadecimal.proofs.hex.Reads as hex_hex
use Rattle.hexadecimal.proofs.hex_line.Reads as hex_hex_line
use Rattle.desk_intake.proofs.keep.Reads as desk_intake_keep
use Rattle.desk_case.proofs.ask.Reads as desk_case_ask
use Rattle.desk_case.proofs.slip_for.Reads as desk_case_slip_for
use Rattle.desk_line.proofs.line_for.Reads as desk_line_line_for

-- ── crate fields ──
pub fields_hash_at_settled : Settled fields_hash_at.Asked fields_hash_at.Learnt
fields_hash_at_settled = settled _ _ _ (λ k a. tt) (λ k a z e p. p)

pub fields_value_at_settled : Settled fields_value_at.Asked fields_value_at.Learnt
fields_value_at_settled = settled _ _ _ (λ k a. tt) (λ k a z e p. p)

pub fields_card_in_settled : Settled fields_card_in.Asked fields_card_in.Learnt
fields_card_in_settled = settled _ _ _ (λ k a. tt) (λ k a z e p. p)

pub fields_room_for_settled : Settled fields_room_for.Asked fields_room_for.Learnt
fields_room_for_settled = settled _ _ _ (λ k a. tt) (λ k a z e p. p)

-- ── crate read_errors ──
pub read_errors_error_status_settled : Settled read_errors_error_status.Asked read_errors_error_status.Learnt
read_errors_error_status_settled = settled _ _ _ (λ k a. tt) (λ k a z e p. p)

-- ── crate request ──
pub request_write_request_settled : Settled request_write_request.Asked request_write_request.Learnt
request_write_request_settled = settled _ _ _ (λ k a. tt) (λ k a z e p. p.0)

pub request_write_request_buffer : Settles request_write_request.Asked request_write_request.Learnt (λ k z e. e.1.0.now)
request_write_request_buffer = settles _ _ (λ k z e. e.1.0.now) _ (λ k a. tt) (λ k a z e p. p.1)

-- ── crate slip ──
pub slip_has_card_settled : Settled slip_has_card.Asked slip_has_card.Learnt
slip_has_card_settled = settled _ _ _ (λ k a. tt) (λ k a z e p. p)

pub slip_size_of_settled : Settled slip_size_of.Asked slip_size_of.Learnt
slip_size_of_settled = settled _ _ _ (λ k a. tt) (λ k a z e p. p)

pub slip_slip_size_settled : Settled slip_slip_size.Asked slip_slip_size.Learnt
slip_slip_size_settled = settled _ _ _ (λ k a. tt) (λ k a z e p. p)

pub slip_times_fit_settled : Settled slip_times_fit.Asked slip_times_fit.Learnt
slip_times_fit_settled = settled _ _ _ (λ k a. tt) (λ k a z e p. p)

pub slip_reason_fits_settled : Settled slip_reason_fits.Asked slip_reason_fits.Learnt
slip_reason_fits_settled = settled _ _ _ (λ k a. tt) (λ k a z e p. p)

pub slip_slip_fits_settled : Settled slip_slip_fits.Asked slip_slip_fits.Learnt
slip_slip_fits_settled = settled _ _ _ (λ k a. tt) (λ k a z e p. p)

-- ── crate slip_write ──
pub slip_write_write_slip_settled : Settled slip_write_write_slip.Asked slip_write_write_slip.Learnt
slip_write_write_slip_settled = settled _ _ _ (λ k a. tt) (λ k a z e p. p.0)

pub slip_write_write_slip_buffer : Settles slip_write_write_slip.Asked slip_write_write_slip.Learnt (λ k z e. e.1.0.now)
slip_write_write_slip_buffer = settles _ _ (λ k z e. e.1.0.now) _ (λ k a. tt) (λ k a z e p. p.1)

pub slip_write_write_unjudged_settled : Settled slip_write_write_unjudged.Asked slip_write_write_unjudged.Learnt
slip_write_write_unjudged_settled = settled _ _ _ (λ k a. tt) (λ k a z e p. p.0)

pub slip_write_write_unjudged_buffer : Settles slip_write_write_unjudged.Asked slip_write_write_unjudged.Learnt (λ k z e. e.1.0.now)
slip_write_write_unjudged_buffer = settles _ _ (λ k z e. e.1.0.now) _ (λ k a. tt) (λ k a z e p. p.1)

-- ── crate slip_read ──
pub slip_read_read_slip_settled : Settled slip_read_read_slip.Asked slip_read_read_slip.Learnt
slip_read_read_slip_settled = settled _ _ _ (λ k a. tt) (λ k a z e p. p)

-- ── crate hexadecimal ──
pub hex_hex_settled : Settled hex_hex.Asked hex_hex.Learnt
hex_hex_settled = settled _ _ _ (λ k a. tt) (λ k a z e p. p.0)

pub hex_hex_buffer : Settles hex_hex.Asked hex_hex.Learnt (λ k z e. e.1.0.now)
hex_hex_buffer = settles _ _ (λ k z e. e.1.0.now) _ (λ k a. tt) (λ k a z e p. p.1)

pub hex_hex_line_settled : Settled hex_hex_line.Asked hex_hex_line.Learnt
hex_hex_line_settled = settled _ _ _ (λ k a. tt) (λ k a z e p. p.0)

pub hex_hex_line_buffer : Settles hex_hex_line.Asked hex_hex_line.Learnt (λ k z e. e.1.0.now)
hex_hex_line_buffer = settles _ _ (λ k z e. e.1.0.now) _ (λ k a. tt) (λ k a z e p. p.1)

-- ── crate desk_intake ──
pub desk_intake_keep_settled : Settled desk_intake_keep.Asked desk_intake_keep.Learnt
desk_intake_keep_settled = settled _ _ _ (λ k a. tt) (λ k a z e p. p.0)

pub desk_intake_keep_buffer : Settles desk_intake_keep.Asked desk_intake_keep.Learnt (λ k z e. e.0.now)
desk_intake_keep_buffer = settles _ _ (λ k z e. e.0.now) _ (λ k a. tt) (λ k a z e p. p.1)

-- ── crate desk_case ──
pub desk_case_ask_settled : Settled desk_case_ask.Asked desk_case_ask.Learnt
desk_case_ask_settled = settled _ _ _ (λ k a. tt) (λ k a z e p. p)

pub desk_case_slip_for_settled : Settled desk_case_slip_for.Asked desk_case_slip_for.Learnt
desk_case_slip_for_settled = settled _ _ _ (λ k a. tt) (λ k a z e p. p.0)

pub desk_case_slip_for_buffer : Settles desk_case_slip_for.Asked desk_case_slip_for.Learnt (λ k z e. e.1.1.0.now)
desk_case_slip_for_buffer = settles _ _ (λ k z e. e.1.1.0.now) _ (λ k a. tt) (λ k a z e p. p.1)

-- ── crate desk_line ──
pub desk_line_line_for_settled : Settled desk_line_line_for.Asked desk_line_line_for.Learnt
desk_line_line_for_settled = settled _ _ _ (λ k a. tt) (λ k a z e p. p.0)

pub desk_line_line_for_buffer : Settles desk_line_line_for.Asked desk_line_line_for.Learnt (λ k z e. e.1.0.now)
desk_line_line_for_buffer = settles _ _ (λ k z e. e.1.0.now) _ (λ k a. tt) (λ k a z e p. p.1.0)
