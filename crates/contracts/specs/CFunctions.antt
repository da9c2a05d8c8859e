-- The functions of desk_c, and the two under the check and the program: each meets its contract, and its contract tells what
-- it returns and what it writes. Those of include/desk.h call them, and have the same clauses (crate desk_c_c).
-- desk_request, desk_refusal, desk_misfit, desk_signed, desk_algorithm, desk_signature, desk_certificates, desk_check, desk_slip,
-- desk_entry, desk_cache_file, desk_cache_ask, slip_for, each with _met and _tells; line_for's are in Writers.
-- What _met and _tells say, and Tells, are in Functions. In C a slice is a pointer and a length; here it is one of the arguments
-- `a`, counted `a.0`, `a.1.0`, `a.1.1.0`, and what is written is among the parameters at exit `e`, counted likewise.
-- Assumes nothing.
use Rattle.std.specs.Prelude.{◌≡◌, length}
use Rattle.octets.specs.Buffer.{put_in, put_size}
use Rattle.read_response.specs.Parts.{judged_of}
use Rattle.read_response.specs.Refusals.{refusal_of}
use Rattle.show.specs.Shown.{entry_of}
use Rattle.slip.specs.Slip.{slip_of, read_of}
use Rattle.desk_question.specs.Asked.{asked}
use Rattle.desk_c.specs.Places.{signed_span, algorithm_in, signature_span, certificates_in, entry_number, entry_span, place_over}
use Rattle.desk_c.specs.Papers.{slip_number, request_size, request_in}
use Rattle.cache_rules.specs.Cache.{filed_of, buffer_of}
use Rattle.cache_rules.specs.Numbers.{filed_number, filed_count}
use Rattle.cache_ask.specs.Found.{ask_found}
use Rattle.desk_c.specs.Caches.{clock_at, found_number, found_span}
use Rattle.desk_c.proofs.desk_request.Reads as desk_request
use Rattle.desk_c.proofs.desk_request.Statement as desk_request_contract
use Rattle.desk_c.proofs.desk_request.Met as desk_request_theorem
use Rattle.desk_c.proofs.desk_refusal.Reads as desk_refusal
use Rattle.desk_c.proofs.desk_refusal.Statement as desk_refusal_contract
use Rattle.desk_c.proofs.desk_refusal.Met as desk_refusal_theorem
use Rattle.desk_c.proofs.desk_misfit.Reads as desk_misfit
use Rattle.desk_c.proofs.desk_misfit.Statement as desk_misfit_contract
use Rattle.desk_c.proofs.desk_misfit.Met as desk_misfit_theorem
use Rattle.desk_c.proofs.desk_signed.Reads as desk_signed
use Rattle.desk_c.proofs.desk_signed.Statement as desk_signed_contract
use Rattle.desk_c.proofs.desk_signed.Met as desk_signed_theorem
use Rattle.desk_c.proofs.desk_algorithm.Reads as desk_algorithm
use Rattle.desk_c.proofs.desk_algorithm.Statement as desk_algorithm_contract
use Rattle.desk_c.proofs.desk_algorithm.Met as desk_algorithm_theorem
use Rattle.desk_c.proofs.desk_signature.Reads as desk_signature
use Rattle.desk_c.proofs.desk_signature.Statement as desk_signature_contract
use Rattle.desk_c.proofs.desk_signature.Met as desk_signature_theorem
use Rattle.desk_c.proofs.desk_certificates.Reads as desk_certificates
use Rattle.desk_c.proofs.desk_certificates.Statement as desk_certificates_contract
use Rattle.desk_c.proofs.desk_certificates.Met as desk_certificates_theorem
use Rattle.desk_c.proofs.desk_check.Reads as desk_check
use Rattle.desk_c.proofs.desk_check.Statement as desk_check_contract
use Rattle.desk_c.proofs.desk_check.Met as desk_check_theorem
use Rattle.desk_c.proofs.desk_slip.Reads as desk_slip
use Rattle.desk_c.proofs.desk_slip.Statement as desk_slip_contract
use Rattle.desk_c.proofs.desk_slip.Met as desk_slip_theorem
use Rattle.desk_c.proofs.desk_entry.Reads as desk_entry
use Rattle.desk_c.proofs.desk_entry.Statement as desk_entry_contract
use Rattle.desk_c.proofs.desk_entry.Met as desk_entry_theorem
use Rattle.desk_c.proofs.desk_cache_file.Reads as desk_cache_file
use Rattle.desk_c.proofs.desk_cache_file.Statement as desk_cache_file_contract
use Rattle.desk_c.proofs.desk_cache_file.Met as desk_cache_file_theorem
use Rattle.desk_c.proofs.desk_cache_ask.Reads as desk_cache_ask
use Rattle.desk_c.proofs.desk_cache_ask.Statement as desk_cache_ask_contract
use Rattle.desk_c.proofs.desk_cache_ask.Met as desk_cache_ask_theorem
use Rattle.desk_case.proofs.slip_for.Reads as slip_for
use Rattle.desk_case.proofs.slip_for.Statement as slip_for_contract
use Rattle.desk_case.proofs.slip_for.Met as slip_for_theorem
use Rattle.contracts.specs.Functions.{Tells}

-- ── desk_request(card, out): how many octets, or 0, and the buffer ──
pub desk_request_met : {M : Type 1} → desk_request_contract.statement M
desk_request_met = desk_request_theorem.met

pub desk_request_tells : Tells desk_request.Learnt (λ k a z e.
    (z ≡ request_size a.0.now (length a.1.0.now)) × (e.1.0.now ≡ request_in a.0.now a.1.0.now))
desk_request_tells k a z e p = (p.0, p.1)

-- ── desk_refusal(response, status): 0 or 2 to 5, and the status that goes with 4 ──
pub desk_refusal_met : {M : Type 1} → desk_refusal_contract.statement M
desk_refusal_met = desk_refusal_theorem.met

pub desk_refusal_tells : Tells desk_refusal.Learnt (λ k a z e.
    (z ≡ (refusal_of (judged_of a.0.now)).number) × (e.1.0.now ≡ (refusal_of (judged_of a.0.now)).status))
desk_refusal_tells k a z e p = (p.0, p.1)

-- ── desk_misfit(response, place): the same number, and the place, written with 3 alone ──
pub desk_misfit_met : {M : Type 1} → desk_misfit_contract.statement M
desk_misfit_met = desk_misfit_theorem.met

pub desk_misfit_tells : Tells desk_misfit.Learnt (λ k a z e.
    (z ≡ (refusal_of (judged_of a.0.now)).number)
    × (e.1.0.now ≡ place_over (refusal_of (judged_of a.0.now)).place a.1.0.now))
desk_misfit_tells k a z e p = (p.0, p.1)

-- ── desk_signed(response, from, len): the refusal or 0, and where the signed part is ──
pub desk_signed_met : {M : Type 1} → desk_signed_contract.statement M
desk_signed_met = desk_signed_theorem.met

pub desk_signed_tells : Tells desk_signed.Learnt (λ k a z e.
    (z ≡ (refusal_of (judged_of a.0.now)).number)
    × (e.1.0.now ≡ (signed_span (judged_of a.0.now)).start)
    × (e.1.1.0.now ≡ (signed_span (judged_of a.0.now)).len))
desk_signed_tells k a z e p = (p.0, p.1.0, p.1.1)

-- ── desk_algorithm(response, from, len): the refusal or 0, and where the algorithm identifier is ──
pub desk_algorithm_met : {M : Type 1} → desk_algorithm_contract.statement M
desk_algorithm_met = desk_algorithm_theorem.met

pub desk_algorithm_tells : Tells desk_algorithm.Learnt (λ k a z e.
    (z ≡ (refusal_of (judged_of a.0.now)).number)
    × (e.1.0.now ≡ (algorithm_in (judged_of a.0.now)).start)
    × (e.1.1.0.now ≡ (algorithm_in (judged_of a.0.now)).len))
desk_algorithm_tells k a z e p = (p.0, p.1.0, p.1.1)

-- ── desk_signature(response, from, len): the refusal or 0, and where the signature is ──
pub desk_signature_met : {M : Type 1} → desk_signature_contract.statement M
desk_signature_met = desk_signature_theorem.met

pub desk_signature_tells : Tells desk_signature.Learnt (λ k a z e.
    (z ≡ (refusal_of (judged_of a.0.now)).number)
    × (e.1.0.now ≡ (signature_span (judged_of a.0.now)).start)
    × (e.1.1.0.now ≡ (signature_span (judged_of a.0.now)).len))
desk_signature_tells k a z e p = (p.0, p.1.0, p.1.1)

-- ── desk_certificates(response, from, len): the refusal or 0, and where the certificates are ──
pub desk_certificates_met : {M : Type 1} → desk_certificates_contract.statement M
desk_certificates_met = desk_certificates_theorem.met

pub desk_certificates_tells : Tells desk_certificates.Learnt (λ k a z e.
    (z ≡ (refusal_of (judged_of a.0.now)).number)
    × (e.1.0.now ≡ (certificates_in a.0.now (judged_of a.0.now)).start)
    × (e.1.1.0.now ≡ (certificates_in a.0.now (judged_of a.0.now)).len))
desk_certificates_tells k a z e p = (p.0, p.1.0, p.1.1)

-- ── desk_check(question, response, slip): the slip's length, 0 where it is too long for the buffer, and the buffer ──
pub desk_check_met : {M : Type 1} → desk_check_contract.statement M
desk_check_met = desk_check_theorem.met

pub desk_check_tells : Tells desk_check.Learnt (λ k a z e.
    (z ≡ put_size a.1.1.0.now (slip_of (asked a.0.now a.1.0.now)))
    × (e.1.1.0.now ≡ put_in a.1.1.0.now 0 (slip_of (asked a.0.now a.1.0.now))))
desk_check_tells k a z e p = (p.0, p.1.0)

-- ── desk_slip(slip): 17, or 0 ──
pub desk_slip_met : {M : Type 1} → desk_slip_contract.statement M
desk_slip_met = desk_slip_theorem.met

pub desk_slip_tells : Tells desk_slip.Learnt (λ k a z e. z ≡ slip_number (read_of 20 a.0.now).verdict)
desk_slip_tells k a z e p = p

-- ── desk_entry(response, ordinal, from, len): the refusal or 0, and where the entry is ──
pub desk_entry_met : {M : Type 1} → desk_entry_contract.statement M
desk_entry_met = desk_entry_theorem.met

pub desk_entry_tells : Tells desk_entry.Learnt (λ k a z e.
    (z ≡ entry_number (entry_of a.0.now a.1.0))
    × (e.1.1.0.now ≡ (entry_span (entry_of a.0.now a.1.0)).start)
    × (e.1.1.1.0.now ≡ (entry_span (entry_of a.0.now a.1.0)).len))
desk_entry_tells k a z e p = (p.0, p.1.0, p.1.1)

-- ── desk_cache_file(cache, slip, now, tolerance, places): the refusal or 0, the cache, and how many places are filled ──
pub desk_cache_file_met : {M : Type 1} → desk_cache_file_contract.statement M
desk_cache_file_met = desk_cache_file_theorem.met

pub desk_cache_file_tells : Tells desk_cache_file.Learnt (λ k a z e.
    (z ≡ filed_number (filed_of (clock_at a.1.1.0 a.1.1.1.0) a.0.now a.1.0.now))
    × (e.0.now ≡ buffer_of (clock_at a.1.1.0 a.1.1.1.0) a.0.now a.1.0.now)
    × (e.1.1.1.1.0.now ≡ filed_count (filed_of (clock_at a.1.1.0 a.1.1.1.0) a.0.now a.1.0.now)))
desk_cache_file_tells k a z e p = (p.0, p.1.0, p.1.1)

-- ── desk_cache_ask(cache, card, now, tolerance, from, len): 0, the refusal or 256, and where the slip is ──
pub desk_cache_ask_met : {M : Type 1} → desk_cache_ask_contract.statement M
desk_cache_ask_met = desk_cache_ask_theorem.met

pub desk_cache_ask_tells : Tells desk_cache_ask.Learnt (λ k a z e.
    (z ≡ found_number (ask_found (clock_at a.1.1.0 a.1.1.1.0) a.1.0.now a.0.now))
    × (e.1.1.1.1.0.now ≡ (found_span a.0.now (ask_found (clock_at a.1.1.0 a.1.1.1.0) a.1.0.now a.0.now)).start)
    × (e.1.1.1.1.1.0.now ≡ (found_span a.0.now (ask_found (clock_at a.1.1.0 a.1.1.1.0) a.1.0.now a.0.now)).len))
desk_cache_ask_tells k a z e p = (p.0, p.1.0, p.1.1)

-- ── desk_case::slip_for(question, response, slip): as desk_check ──
pub slip_for_met : {M : Type 1} → slip_for_contract.statement M
slip_for_met = slip_for_theorem.met

pub slip_for_tells : Tells slip_for.Learnt (λ k a z e.
    (z ≡ put_size a.1.1.0.now (slip_of (asked a.0.now a.1.0.now)))
    × (e.1.1.0.now ≡ put_in a.1.1.0.now 0 (slip_of (asked a.0.now a.1.0.now))))
slip_for_tells k a z e p = (p.0, p.1)
