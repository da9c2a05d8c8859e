-- For every reading that is placed by a description: it refuses with a place exactly if that is the
-- least place of a fault, and it reads exactly if there is no fault.
-- place_least, reads_none.
-- Assumes nothing.
use Rattle.std.specs.Prelude.{ℕ, ◌≡◌, refl, List, [], ◌↔◌, length, Ok, Err}
use Rattle.std.proofs.Common.{arith, sym, ◌∙◌}
use Rattle.std.proofs.Math.Path.{ap}
use Rattle.codec.specs.Codec.{Read, read, broke}
use Rattle.codec.specs.Views.{fit_of}
use Rattle.element.specs.Places.{misfit}
use Rattle.element.specs.PlacesLaws.{same_place}
use Rattle.faults.specs.Description.{Line}
use Rattle.faults.specs.Faults.{line_faults}
use Rattle.faults.specs.Order.{leftmost, Least}
use Rattle.faults.proofs.OrderLaws.{first_least, least_first, first_none}
use Rattle.faults.proofs.AscendLaws.{line_ascends}
use Rattle.faults.specs.Placed.{Placed}

broke_of : {A : Type 0} (o : Read A) (p : ℕ) → fit_of o ≡ Err (misfit p) → o ≡ broke p
unfolding fit_of
broke_of (broke q) p e = ap broke (same_place e)
broke_of (read a) p e = let z : ◌≡◌ {A = ℕ} 0 1 = cc in absurd (omega arith)

read_of : {A : Type 0} (o : Read A) → fit_of o ≡ Ok tt → (a : A) × (o ≡ read a)
unfolding fit_of
read_of (broke p) e = let z : ◌≡◌ {A = ℕ} 0 1 = cc in absurd (omega arith)
read_of (read a) e = (a, refl)

module _ {A : Type 0} (d : List ℕ → Read A) (l : Line) (w : Placed d l) (s : List ℕ) where
  pub place_least : (p : ℕ) → (d s ≡ broke p) ↔ Least p (line_faults l s)
  unfolding fit_of
  place_least p =
      let h = line_ascends l s in (
        λ e. first_least 0 (length s) (line_faults l s) h p (sym (w.finds s) ∙ ap fit_of e),
        λ m. broke_of (d s) p (w.finds s ∙ least_first 0 (length s) (line_faults l s) h p m),
      )

  pub reads_none : ((a : A) × (d s ≡ read a)) ↔ (line_faults l s ≡ [])
  unfolding fit_of leftmost
  reads_none = (
    λ v. first_none (line_faults l s) (sym (w.finds s) ∙ ap fit_of v.1),
    λ e. read_of (d s) (w.finds s ∙ ap leftmost e),
  )
