-- What desk_refusal answers, by a response's octets: refusal_answers. What is said of the other functions for C is in specs/ForC.
-- Assumes nothing.
use Rattle.std.specs.Prelude.{ℕ, ◌≤◌, ◌<◌, ◌↔◌, ◌≡◌, refl, List, [], ◌∷◌, length, Ok, Err}
use Rattle.std.proofs.Common.{arith}
use Rattle.std.proofs.Math.Path.{ap}
use Rattle.octets.specs.Octets.{Octets}
use Rattle.element.specs.Places.{misfit}
use Rattle.layout.specs.Limits.{FailureOk}
use Rattle.read_response.specs.Parts.{judged_of}
use Rattle.read_response.specs.Refusals.{refusal_of}
use Rattle.read_response.specs.declared.Parts.{Parts}
use Rattle.read_response.specs.Judged.{Judged}
use Rattle.read_response.specs.declared.Unread.TheVariants as unread
use Rattle.promises.specs.OneReading.{basic_exactly, error_exactly}
use Rattle.promises.specs.Envelopes.{IsError, IsOtherType, IsBasic, other_type_exactly, too_long_exactly}
use Rattle.promises.proofs.Envelopes.{unfit_exactly}

-- the number of a refusal says which case it is
number_says : (j : Judged)
    → ((refusal_of j).number ≡ 0 → (t : Parts) × (j ≡ Ok t))
    × ((refusal_of j).number ≡ 2 → j ≡ Err unread.TooLong)
    × ((refusal_of j).number ≡ 3 → (p : ℕ) × (j ≡ Err (unread.Unfit (misfit p))))
    × ((refusal_of j).number ≡ 4 → j ≡ Err (unread.Failed (refusal_of j).status))
    × ((refusal_of j).number ≡ 5 → j ≡ Err unread.OtherType)
    × (((refusal_of j).number ≡ 4 → ⊥) → (refusal_of j).status ≡ 0)
unfolding refusal_of
number_says (Ok t) = (λ e. (t, refl), λ e. absurd (omega arith), λ e. absurd (omega arith), λ e. absurd (omega arith), λ e. absurd (omega arith), λ e. refl)
number_says (Err unread.TooLong) = (λ e. absurd (omega arith), λ e. refl, λ e. absurd (omega arith), λ e. absurd (omega arith), λ e. absurd (omega arith), λ e. refl)
number_says (Err (unread.Unfit p)) = (λ e. absurd (omega arith), λ e. absurd (omega arith), λ e. (p.place, refl), λ e. absurd (omega arith), λ e. absurd (omega arith), λ e. refl)
number_says (Err (unread.Failed n)) = (λ e. absurd (omega arith), λ e. absurd (omega arith), λ e. absurd (omega arith), λ e. refl, λ e. absurd (omega arith), λ e. absurd (e refl))
number_says (Err unread.OtherType) = (λ e. absurd (omega arith), λ e. absurd (omega arith), λ e. absurd (omega arith), λ e. absurd (omega arith), λ e. refl, λ e. refl)

module _ (s : List ℕ) (o : Octets s) where
  -- desk_refusal: 0 exactly for a basic response within the limits; 2 where it has more than 16,384 octets; 3 where it is none
  -- of the three kinds; 4, and its status, for an error response; 5 for a response of another type; no status but with 4
  pub refusal_answers : (n status : ℕ) → n ≡ (refusal_of (judged_of s)).number → status ≡ (refusal_of (judged_of s)).status
      → (n ≡ 0 ↔ (length s ≤ 16384) × IsBasic s)
      × (n ≡ 2 ↔ 16384 < length s)
      × (n ≡ 3 ↔ (length s ≤ 16384) × (IsError s → ⊥) × (IsOtherType s → ⊥) × (IsBasic s → ⊥))
      × (n ≡ 4 ↔ FailureOk status × (s ≡ 0x30 ∷ 0x03 ∷ 0x0a ∷ 0x01 ∷ status ∷ []))
      × (n ≡ 5 ↔ (length s ≤ 16384) × IsOtherType s)
      × ((n ≡ 4 → ⊥) → status ≡ 0)
  unfolding refusal_of
  refusal_answers n status i j =
      let (to0, to2, to3, to4, to5, else) = number_says (judged_of s) in
      rw (i, j) (
        (
          λ e. let (b, w, z, f) = (basic_exactly s o).0 (to0 e) in (rw f z, (b, w, f)),
          λ (le, (b, w, f)). let (t, e) = (basic_exactly s o).1 (b, w, rw (← f) le, f) in ap (λ (x : Judged). (refusal_of x).number) e,
        ),
        (λ e. (too_long_exactly s).0 (to2 e), λ h. ap (λ (x : Judged). (refusal_of x).number) ((too_long_exactly s).1 h)),
        (λ e. (unfit_exactly s o).0 (to3 e), λ h. ap (λ (x : Judged). (refusal_of x).number) ((unfit_exactly s o).1 h).1),
        (λ e. (error_exactly s _ o).0 (to4 e), λ h. ap (λ (x : Judged). (refusal_of x).number) ((error_exactly s _ o).1 h)),
        (λ e. (other_type_exactly s o).0 (to5 e), λ h. ap (λ (x : Judged). (refusal_of x).number) ((other_type_exactly s o).1 h)),
        else,
      )
