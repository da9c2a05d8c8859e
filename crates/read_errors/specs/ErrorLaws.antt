-- An error response is five octets, and no other octets are judged to be one.
-- error_octets; error_form, error_status, no_error.
-- What a response is judged to be is in crate read_response. Assumes nothing.
use Rattle.std.specs.Prelude.{ℕ, zero, suc, ◌≤◌, ◌≡◌, refl, Bool, true, false, cond, List, [], ◌∷◌, ltb, length, Err}
use Rattle.std.proofs.Common.{arith, ◌∙◌}
use Rattle.octets.specs.Octets.{Octets}
use Rattle.layout.specs.Reading.{failed, basic}
use Rattle.layout.specs.Limits.{FailureOk}
use Rattle.layout.specs.Read.{Outcome, reads, other_type, unfit}
use Rattle.layout.proofs.Read.{reading, der}
use Rattle.layout.proofs.Opened.{opened}
use Rattle.layout.proofs.Theorem.{sound}
use Rattle.read_response.specs.Parts.{judged_as, judged_of}
use Rattle.read_response.specs.Refusals.{refusal_of}
use Rattle.read_response.specs.declared.Unread.TheVariants as unread

-- 30 03 0a 01, then the status
abbrev pub error_octets : ℕ → List ℕ
error_octets n = 0x30 ∷ 0x03 ∷ 0x0a ∷ 0x01 ∷ n ∷ []

-- they are the DER form
pub error_form : (n : ℕ) → FailureOk n → der (failed n) ≡ error_octets n
unfolding opened
error_form zero h = absurd (omega (arith, h.least))
error_form (suc zero) h = refl
error_form (suc (suc zero)) h = refl
error_form (suc (suc (suc zero))) h = refl
error_form (suc (suc (suc (suc zero)))) h = absurd (h.not4 refl)
error_form (suc (suc (suc (suc (suc zero))))) h = refl
error_form (suc (suc (suc (suc (suc (suc zero)))))) h = refl
error_form (suc (suc (suc (suc (suc (suc (suc n))))))) h = absurd (omega (arith, h.most))

-- they are judged to be one
pub error_status : (n : ℕ) → n ≤ 6 → (n ≡ 4 → ⊥) → n ≡ (refusal_of (judged_of (error_octets n))).status
unfolding opened judged_of judged_as refusal_of
error_status zero h k = refl
error_status (suc zero) h k = refl
error_status (suc (suc zero)) h k = refl
error_status (suc (suc (suc zero))) h k = refl
error_status (suc (suc (suc (suc zero)))) h k = absurd (k refl)
error_status (suc (suc (suc (suc (suc zero))))) h k = refl
error_status (suc (suc (suc (suc (suc (suc zero)))))) h k = refl
error_status (suc (suc (suc (suc (suc (suc (suc n))))))) h k = absurd (omega arith)

-- octets that are not those of an error response are not judged to be one
pub no_error : (s : List ℕ) → Octets s → ((n : ℕ) → FailureOk n → s ≡ error_octets n → ⊥) → 0 ≡ (refusal_of (judged_of s)).status
unfolding judged_of judged_as refusal_of
no_error s o h = go (ltb 16384 (length s)) (reading s) refl
  where
    go : (t : Bool) (x : Outcome) → reading s ≡ x → 0 ≡ (refusal_of (cond t (Err unread.TooLong) (judged_as (length s) x))).status
    go true x e = refl
    go false (reads (basic b)) e = refl
    go false other_type e = refl
    go false (unfit p) e = refl
    go false (reads (failed n)) e = let v = sound s (failed n) o e in absurd (h n v.0 (v.1 ∙ error_form n v.0))
