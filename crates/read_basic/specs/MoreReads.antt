-- An element and then the rest, as MoreLaws has it, where both answers are Results: what is found, or the place that does
-- not fit. Premises are what code has learned, as it lends it.
-- moved_read, place_read, MoreRead; reads_wrong, reads_end, reads_place, reads_broken, reads_start, reads_moved.
-- Assumes nothing.
use Rattle.std.specs.Prelude.{ℕ, ◌+◌, ◌-◌, ◌≤◌, ◌≡◌, List, take, drop, Result, Ok, Err}
use Rattle.std.proofs.Math.Path.{refl, sym}
use Rattle.std.proofs.Math.ListN.{length}
use Rattle.octets.specs.LentLaws.{Known}
use Rattle.element.specs.declared.Misfit.{Misfit}
use Rattle.element.specs.Places.{misfit}
use Rattle.codec.specs.Codec.{Read, Whole, Element}
use Rattle.codec.specs.Views.{step_of}
use Rattle.codec.proofs.ViewLaws.{step_taken}
use Rattle.read_basic.specs.MoreLaws.{More, more_wrong, more_within, more_moved}

-- an answer for the rest, n octets further on
abbrev pub moved_read : {U T : Type 0} → (ℕ → U → T) → ℕ → Result U Misfit → Result T Misfit
moved_read moved n (Ok x) = Ok (moved n x)
moved_read moved n (Err p) = Err (misfit (n + p.place))

-- the place that an answer names
abbrev pub place_read : {U : Type 0} → (U → ℕ) → Result U Misfit → ℕ
place_read place (Ok x) = place x
place_read place (Err p) = p.place

-- moved is what the code finds in the rest that many octets further on, and place is the place that it names
abbrev pub MoreRead : {A B U T : Type 0} → Element A → Whole B → (Read B → Result U Misfit) → (List ℕ → Result T Misfit)
    → (ℕ → U → T) → (U → ℕ) → Type 0
MoreRead e w u v moved place = More e w u v (λ p. Err (misfit p)) (moved_read moved) (place_read place)

module _ {A B U T : Type 0} {e : Element A} {w : Whole B} {u : Read B → Result U Misfit} {v : List ℕ → Result T Misfit} {moved : ℕ → U → T} {place : U → ℕ}
    (m : MoreRead e w u v moved place) (s : List ℕ) where
  pub reads_wrong : (p : Misfit) → step_of (e.dec s) ≡ Err p → v s ≡ Err p
  reads_wrong p f = sym (more_wrong m s (step_of (e.dec s)) refl p.place f)

  module _ (n : ℕ) (f : step_of (e.dec s) ≡ Ok n) where
    pub reads_end : n ≤ length s
    reads_end = (step_taken e s n f).3

    -- what follows the element, as the code lends it
    module _ (known : Known s) where
      module _ (p : Misfit) (c : u (w.dec (take (length s - n) (drop n s))) ≡ Err p) where
        pub reads_place : n + p.place ≤ length s
        reads_place = more_within m s (step_of (e.dec s)) refl n f (u (w.dec (take (length s - n) (drop n s)))) refl known (Err p) c p.place refl

        pub reads_broken : v s ≡ Err (misfit (n + p.place))
        reads_broken = sym (more_moved m s (step_of (e.dec s)) refl n f (u (w.dec (take (length s - n) (drop n s)))) refl known (Err p) c (Err (misfit (n + p.place))) refl)

      module _ (k : U) (c : u (w.dec (take (length s - n) (drop n s))) ≡ Ok k) where
        pub reads_start : n + place k ≤ length s
        reads_start = more_within m s (step_of (e.dec s)) refl n f (u (w.dec (take (length s - n) (drop n s)))) refl known (Ok k) c (place k) refl

        pub reads_moved : v s ≡ Ok (moved n k)
        reads_moved = sym (more_moved m s (step_of (e.dec s)) refl n f (u (w.dec (take (length s - n) (drop n s)))) refl known (Ok k) c (Ok (moved n k)) refl)
