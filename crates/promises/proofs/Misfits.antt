-- When a response has no misfit, by its octets: fits_exactly. Misfits and what they decide are in specs/Misfits.
-- Assumes nothing.
use Rattle.std.specs.Prelude.{ℕ, ◌≤◌, ◌⊎◌, ◌↔◌, ◌≡◌, refl, List, [], length, Ok, Err}
use Rattle.std.proofs.Common.{arith, inl, inr, ⊎_elim}
use Rattle.octets.specs.Octets.{Octets}
use Rattle.layout.specs.Read.{unfit}
use Rattle.layout.proofs.Read.{reading}
use Rattle.misfits.specs.Misfits.{misfits}
use Rattle.read_response.specs.Parts.{judged_of}
use Rattle.read_response.proofs.OutcomeLaws.{unfit_judged, long_judged}
use Rattle.read_response.specs.Judged.{Judged}
use Rattle.read_response.specs.declared.Unread.TheVariants as unread
use Rattle.promises.specs.OneReading.{basic_exactly, error_exactly}
use Rattle.promises.specs.Envelopes.{IsError, IsOtherType, IsBasic, other_type_exactly}
use Rattle.promises.proofs.Envelopes.{unfit_exactly}
use Rattle.promises.specs.Misfits.{no_misfit}

module _ (s : List ℕ) where
  -- a response of at most 16,384 octets fits, as an error response, one of another type or a basic one, exactly if there are none
  pub fits_exactly : Octets s → length s ≤ 16384 → misfits s ≡ [] ↔ IsError s ⊎ (IsOtherType s ⊎ IsBasic s)
  fits_exactly o le = (λ e. go (judged_of s) refl ((no_misfit s).1 e), λ h. (no_misfit s).0 (λ p r. none p r h))
    where
      go : (j : Judged) → judged_of s ≡ j → ((p : ℕ) → reading s ≡ unfit p → ⊥) → IsError s ⊎ (IsOtherType s ⊎ IsBasic s)
      go (Ok t) i f = let (b, w, z, e) = (basic_exactly s o).0 (t, i) in inr (inr (b, w, e))
      go (Err unread.TooLong) i f = absurd (omega (arith, (long_judged s).0 i))
      go (Err (unread.Unfit p)) i f = absurd (f p.place ((unfit_judged s p.place).0 i).1)
      go (Err (unread.Failed n)) i f = let (w, e) = (error_exactly s n o).0 i in inl (n, w, e)
      go (Err unread.OtherType) i f = inr (inl ((other_type_exactly s o).0 i).1)

      none : (p : ℕ) → reading s ≡ unfit p → IsError s ⊎ (IsOtherType s ⊎ IsBasic s) → ⊥
      none p r h =
          let (l, a, b, c) = (unfit_exactly s o).0 (p, (unfit_judged s p).1 (le, r)) in
          ⊎_elim a (λ x. ⊎_elim b c x) h
