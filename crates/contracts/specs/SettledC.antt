-- Settled contracts of the functions for C.
-- One theorem for each, desk_c_FUNCTION_settled; of what is written through a pointer, _buffer (of a part, where it starts; of
-- desk_refusal, the status, of desk_misfit the place) and _length say the same; of desk_cache_file, _buffer is of the cache and _places of the count.
-- What it is to be settled is in Settled. Assumes nothing.
use Rattle.contracts.specs.Settled.{Settled, settled, Settles, settles}
use Rattle.desk_c.proofs.desk_check.Reads as desk_c_desk_check
use Rattle.desk_c.proofs.desk_slip.Reads as desk_c_desk_slip
use Rattle.desk_c.proofs.desk_request.Reads as desk_c_desk_request
use Rattle.desk_c.proofs.desk_refusal.Reads as desk_c_desk_refusal
use Rattle.desk_c.proofs.desk_misfit.Reads as desk_c_desk_misfit
use Rattle.desk_c.proofs.desk_signed.Reads as desk_c_desk_signed
use Rattle.desk_c.proofs.desk_algorithm.Reads as desk_c_desk_algorithm
use Rattle.desk_c.proofs.desk_signature.Reads as desk_c_desk_signature
use Rattle.desk_c.proofs.desk_certificates.Reads as desk_c_desk_certificates
use Rattle.desk_c.proofs.desk_entry.Reads as desk_c_desk_entry
use Rattle.desk_c.proofs.desk_cache_file.Reads as desk_c_desk_cache_file
use Rattle.desk_c.proofs.desk_cache_ask.Reads as desk_c_desk_cache_ask

-- ── the check, slips and requests ──
pub desk_c_desk_check_settled : Settled desk_c_desk_check.Asked desk_c_desk_check.Learnt
desk_c_desk_check_settled = settled _ _ _ (λ k a. tt) (λ k a z e p. p.0)

pub desk_c_desk_check_buffer : Settles desk_c_desk_check.Asked desk_c_desk_check.Learnt (λ k z e. e.1.1.0.now)
desk_c_desk_check_buffer = settles _ _ (λ k z e. e.1.1.0.now) _ (λ k a. tt) (λ k a z e p. p.1.0)

pub desk_c_desk_slip_settled : Settled desk_c_desk_slip.Asked desk_c_desk_slip.Learnt
desk_c_desk_slip_settled = settled _ _ _ (λ k a. tt) (λ k a z e p. p)

pub desk_c_desk_request_settled : Settled desk_c_desk_request.Asked desk_c_desk_request.Learnt
desk_c_desk_request_settled = settled _ _ _ (λ k a. tt) (λ k a z e p. p.0)

pub desk_c_desk_request_buffer : Settles desk_c_desk_request.Asked desk_c_desk_request.Learnt (λ k z e. e.1.0.now)
desk_c_desk_request_buffer = settles _ _ (λ k z e. e.1.0.now) _ (λ k a. tt) (λ k a z e p. p.1)

-- ── a response's refusal ──
pub desk_c_desk_refusal_settled : Settled desk_c_desk_refusal.Asked desk_c_desk_refusal.Learnt
desk_c_desk_refusal_settled = settled _ _ _ (λ k a. tt) (λ k a z e p. p.0)

pub desk_c_desk_refusal_buffer : Settles desk_c_desk_refusal.Asked desk_c_desk_refusal.Learnt (λ k z e. e.1.0.now)
desk_c_desk_refusal_buffer = settles _ _ (λ k z e. e.1.0.now) _ (λ k a. tt) (λ k a z e p. p.1)

pub desk_c_desk_misfit_settled : Settled desk_c_desk_misfit.Asked desk_c_desk_misfit.Learnt
desk_c_desk_misfit_settled = settled _ _ _ (λ k a. tt) (λ k a z e p. p.0)

pub desk_c_desk_misfit_buffer : Settles desk_c_desk_misfit.Asked desk_c_desk_misfit.Learnt (λ k z e. e.1.0.now)
desk_c_desk_misfit_buffer = settles _ _ (λ k z e. e.1.0.now) _ (λ k a. tt) (λ k a z e p. p.1)

-- ── parts of a response ──
pub desk_c_desk_signed_settled : Settled desk_c_desk_signed.Asked desk_c_desk_signed.Learnt
desk_c_desk_signed_settled = settled _ _ _ (λ k a. tt) (λ k a z e p. p.0)

pub desk_c_desk_signed_buffer : Settles desk_c_desk_signed.Asked desk_c_desk_signed.Learnt (λ k z e. e.1.0.now)
desk_c_desk_signed_buffer = settles _ _ (λ k z e. e.1.0.now) _ (λ k a. tt) (λ k a z e p. p.1.0)

pub desk_c_desk_signed_length : Settles desk_c_desk_signed.Asked desk_c_desk_signed.Learnt (λ k z e. e.1.1.0.now)
desk_c_desk_signed_length = settles _ _ (λ k z e. e.1.1.0.now) _ (λ k a. tt) (λ k a z e p. p.1.1)

pub desk_c_desk_algorithm_settled : Settled desk_c_desk_algorithm.Asked desk_c_desk_algorithm.Learnt
desk_c_desk_algorithm_settled = settled _ _ _ (λ k a. tt) (λ k a z e p. p.0)

pub desk_c_desk_algorithm_buffer : Settles desk_c_desk_algorithm.Asked desk_c_desk_algorithm.Learnt (λ k z e. e.1.0.now)
desk_c_desk_algorithm_buffer = settles _ _ (λ k z e. e.1.0.now) _ (λ k a. tt) (λ k a z e p. p.1.0)

pub desk_c_desk_algorithm_length : Settles desk_c_desk_algorithm.Asked desk_c_desk_algorithm.Learnt (λ k z e. e.1.1.0.now)
desk_c_desk_algorithm_length = settles _ _ (λ k z e. e.1.1.0.now) _ (λ k a. tt) (λ k a z e p. p.1.1)

pub desk_c_desk_signature_settled : Settled desk_c_desk_signature.Asked desk_c_desk_signature.Learnt
desk_c_desk_signature_settled = settled _ _ _ (λ k a. tt) (λ k a z e p. p.0)

pub desk_c_desk_signature_buffer : Settles desk_c_desk_signature.Asked desk_c_desk_signature.Learnt (λ k z e. e.1.0.now)
desk_c_desk_signature_buffer = settles _ _ (λ k z e. e.1.0.now) _ (λ k a. tt) (λ k a z e p. p.1.0)

pub desk_c_desk_signature_length : Settles desk_c_desk_signature.Asked desk_c_desk_signature.Learnt (λ k z e. e.1.1.0.now)
desk_c_desk_signature_length = settles _ _ (λ k z e. e.1.1.0.now) _ (λ k a. tt) (λ k a z e p. p.1.1)

pub desk_c_desk_certificates_settled : Settled desk_c_desk_certificates.Asked desk_c_desk_certificates.Learnt
desk_c_desk_certificates_settled = settled _ _ _ (λ k a. tt) (λ k a z e p. p.0)

pub desk_c_desk_certificates_buffer : Settles desk_c_desk_certificates.Asked desk_c_desk_certificates.Learnt (λ k z e. e.1.0.now)
desk_c_desk_certificates_buffer = settles _ _ (λ k z e. e.1.0.now) _ (λ k a. tt) (λ k a z e p. p.1.0)

pub desk_c_desk_certificates_length : Settles desk_c_desk_certificates.Asked desk_c_desk_certificates.Learnt (λ k z e. e.1.1.0.now)
desk_c_desk_certificates_length = settles _ _ (λ k z e. e.1.1.0.now) _ (λ k a. tt) (λ k a z e p. p.1.1)

pub desk_c_desk_entry_settled : Settled desk_c_desk_entry.Asked desk_c_desk_entry.Learnt
desk_c_desk_entry_settled = settled _ _ _ (λ k a. tt) (λ k a z e p. p.0)

pub desk_c_desk_entry_buffer : Settles desk_c_desk_entry.Asked desk_c_desk_entry.Learnt (λ k z e. e.1.1.0.now)
desk_c_desk_entry_buffer = settles _ _ (λ k z e. e.1.1.0.now) _ (λ k a. tt) (λ k a z e p. p.1.0)

pub desk_c_desk_entry_length : Settles desk_c_desk_entry.Asked desk_c_desk_entry.Learnt (λ k z e. e.1.1.1.0.now)
desk_c_desk_entry_length = settles _ _ (λ k z e. e.1.1.1.0.now) _ (λ k a. tt) (λ k a z e p. p.1.1)

-- ── the room's cache ──
pub desk_c_desk_cache_file_settled : Settled desk_c_desk_cache_file.Asked desk_c_desk_cache_file.Learnt
desk_c_desk_cache_file_settled = settled _ _ _ (λ k a. tt) (λ k a z e p. p.0)

pub desk_c_desk_cache_file_buffer : Settles desk_c_desk_cache_file.Asked desk_c_desk_cache_file.Learnt (λ k z e. e.0.now)
desk_c_desk_cache_file_buffer = settles _ _ (λ k z e. e.0.now) _ (λ k a. tt) (λ k a z e p. p.1.0)

pub desk_c_desk_cache_file_places : Settles desk_c_desk_cache_file.Asked desk_c_desk_cache_file.Learnt (λ k z e. e.1.1.1.1.0.now)
desk_c_desk_cache_file_places = settles _ _ (λ k z e. e.1.1.1.1.0.now) _ (λ k a. tt) (λ k a z e p. p.1.1)

pub desk_c_desk_cache_ask_settled : Settled desk_c_desk_cache_ask.Asked desk_c_desk_cache_ask.Learnt
desk_c_desk_cache_ask_settled = settled _ _ _ (λ k a. tt) (λ k a z e p. p.0)

pub desk_c_desk_cache_ask_buffer : Settles desk_c_desk_cache_ask.Asked desk_c_desk_cache_ask.Learnt (λ k z e. e.1.1.1.1.0.now)
desk_c_desk_cache_ask_buffer = settles _ _ (λ k z e. e.1.1.1.1.0.now) _ (λ k a. tt) (λ k a z e p. p.1.0)

pub desk_c_desk_cache_ask_length : Settles desk_c_desk_cache_ask.Asked desk_c_desk_cache_ask.Learnt (λ k z e. e.1.1.1.1.1.0.now)
desk_c_desk_cache_ask_length = settles _ _ (λ k z e. e.1.1.1.1.1.0.now) _ (λ k a. tt) (λ k a z e p. p.1.1)
