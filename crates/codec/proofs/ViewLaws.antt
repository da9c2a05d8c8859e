-- Laws of readings seen as positions: what an answer tells of the reading, and how the answer for a
-- sequence or an element is made of the answers for its parts.
-- step_taken, step_bad, fit_fits, fit_breaks; fit_further, fit_renamed, step_called, later_later;
-- fit_mapped, fit_field, fit_only; step_refused, step_fits.
-- Assumes nothing.
use Rattle.std.specs.Prelude.{ℕ, ◌+◌, ◌≤◌, ◌<◌, ◌≡◌, take, drop, Ok, Err}
use Rattle.std.proofs.Common.{arith, ◌∙◌, drop_of_length-le}
use Rattle.std.proofs.Math.Path.{refl, ap}
use mathlib.Core.List.{List, [], ◌∷◌}
use Rattle.std.proofs.Math.ListN.{length, length-drop}
use borrow.Author.Tests.{eq-eqb}
use Rattle.element.specs.Header.{header_of}
use Rattle.element.specs.Places.{header, misfit}
use Rattle.element.specs.PlacesLaws.{same_place}
use Rattle.codec.specs.Codec.{Read, read, broke, Got, got, bad, Whole, Element}
use Rattle.codec.specs.Outcome.{further, renamed, called}
use Rattle.codec.specs.Tagged.{tagged_dec}
use Rattle.codec.specs.Mapped.{mapped_dec}
use Rattle.codec.specs.Sequence.{end_dec, field_dec, only_dec}
use Rattle.codec.specs.Views.{step_of, fit_of, later}
use Rattle.codec.specs.Steps.{Fit}

-- what an answer tells of the reading
got_of : {A : Type 0} (g : Got A) (n : ℕ) → step_of g ≡ Ok n → (a : A) × (g ≡ got a n)
unfolding step_of
got_of (bad p) n q = let z : ◌≡◌ {A = ℕ} 0 1 = cc in absurd (omega arith)
got_of (got a m) n q = let i : m ≡ n = cc in (a, ap (got a) i)

bad_of : {A : Type 0} (g : Got A) (p : ℕ) → step_of g ≡ Err (misfit p) → g ≡ bad p
unfolding step_of
bad_of (bad j) p q = ap bad (same_place q)
bad_of (got a m) p q = let z : ◌≡◌ {A = ℕ} 0 1 = cc in absurd (omega arith)

read_of : {A : Type 0} (o : Read A) → fit_of o ≡ Ok tt → (a : A) × (o ≡ read a)
unfolding fit_of
read_of (broke p) q = let z : ◌≡◌ {A = ℕ} 0 1 = cc in absurd (omega arith)
read_of (read a) q = (a, refl)

broke_of : {A : Type 0} (o : Read A) (p : ℕ) → fit_of o ≡ Err (misfit p) → o ≡ broke p
unfolding fit_of
broke_of (broke j) p q = ap broke (same_place q)
broke_of (read a) p q = let z : ◌≡◌ {A = ℕ} 0 1 = cc in absurd (omega arith)

pub step_taken : {A : Type 0} (e : Element A) (s : List ℕ) (n : ℕ) → step_of (e.dec s) ≡ Ok n
    → (a : A) × (e.dec s ≡ got a n) × (0 < n) × (n ≤ length s)
step_taken e s n q =
    let (a, g) = got_of (e.dec s) n q in
    let i = e.inside s a n g in
    (a, g, i.0, i.1)

pub step_bad : {A : Type 0} (e : Element A) (s : List ℕ) (p : ℕ) → step_of (e.dec s) ≡ Err (misfit p) → (e.dec s ≡ bad p) × (p ≤ length s)
step_bad e s p q = let g = bad_of (e.dec s) p q in (g, e.within s p g)

pub fit_fits : {A : Type 0} (w : Whole A) (s : List ℕ) → fit_of (w.dec s) ≡ Ok tt → (a : A) × (w.dec s ≡ read a)
fit_fits w s q = read_of (w.dec s) q

pub fit_breaks : {A : Type 0} (w : Whole A) (s : List ℕ) (p : ℕ) → fit_of (w.dec s) ≡ Err (misfit p) → (w.dec s ≡ broke p) × (p ≤ length s)
fit_breaks w s p q = let g = broke_of (w.dec s) p q in (g, w.within s p g)

-- a place further on; other names do not count
pub fit_further : {A B : Type 0} (n : ℕ) (f : A → B) (o : Read A) → fit_of (further n f o) ≡ later n (fit_of o)
unfolding fit_of later
fit_further n f (broke p) = refl
fit_further n f (read a) = refl

pub fit_renamed : {A B : Type 0} (f : A → B) (o : Read A) → fit_of (renamed f o) ≡ fit_of o
unfolding fit_of
fit_renamed f (broke p) = refl
fit_renamed f (read a) = refl

pub step_called : {A B : Type 0} (f : A → B) (g : Got A) → step_of (called f g) ≡ step_of g
unfolding step_of
step_called f (bad p) = refl
step_called f (got a n) = refl

pub later_later : (m n : ℕ) (x : Fit) → later m (later n x) ≡ later (m + n) x
unfolding later
later_later m n (Ok x) = refl
later_later m n (Err p) = ap (λ (j : ℕ). Err (misfit j)) (omega arith)

-- names
pub fit_mapped : {A B : Type 0} (f : A → B) (d : List ℕ → Read A) (s : List ℕ) → fit_of (mapped_dec f d s) ≡ fit_of (d s)
unfolding mapped_dec
fit_mapped f d s = fit_renamed f (d s)

-- an element, then a whole list
module _ {A B : Type 0} (d : List ℕ → Got A) (d' : List ℕ → Read B) (s : List ℕ) where
  pub fit_field_bad : (p : ℕ) → d s ≡ bad p → fit_of (field_dec d d' s) ≡ Err (misfit p)
  unfolding field_dec fit_of
  fit_field_bad p q = rw q

  pub fit_field : (a : A) (n : ℕ) → d s ≡ got a n → fit_of (field_dec d d' s) ≡ later n (fit_of (d' (drop n s)))
  unfolding field_dec
  fit_field a n q = rw q (fit_further n (λ b. (a, b)) (d' (drop n s)))

-- an element that fills its holder
module _ {A : Type 0} (d : List ℕ → Got A) (s : List ℕ) where
  pub fit_only_bad : (p : ℕ) → d s ≡ bad p → fit_of (only_dec d s) ≡ Err (misfit p)
  unfolding only_dec
  fit_only_bad p q = fit_mapped (λ x. x.0) (field_dec d end_dec) s ∙ fit_field_bad d end_dec s p q

  only_then : (a : A) (n : ℕ) → d s ≡ got a n → fit_of (only_dec d s) ≡ later n (fit_of (end_dec (drop n s)))
  unfolding only_dec
  only_then a n q = fit_mapped (λ x. x.0) (field_dec d end_dec) s ∙ fit_field d end_dec s a n q

  pub fit_only : (a : A) (n : ℕ) → d s ≡ got a n → length s ≤ n → fit_of (only_dec d s) ≡ Ok tt
  unfolding end_dec fit_of later
  fit_only a n q le = only_then a n q ∙ rw (drop_of_length-le s le)

  pub fit_only_left : (a : A) (n : ℕ) → d s ≡ got a n → n < length s → fit_of (only_dec d s) ≡ Err (misfit n)
  unfolding end_dec fit_of later
  fit_only_left a n q lt = only_then a n q ∙ ap (later n) (left (drop n s) (simp length-drop (omega arith))) ∙ ap (λ (j : ℕ). Err (misfit j)) (omega arith)
    where
      left : (l : List ℕ) → 0 < length l → fit_of (end_dec l) ≡ Err (misfit 0)
      left [] h = absurd (omega arith)
      left (x ∷ l) h = refl

-- an element with a tag, by its header
module _ {A : Type 0} (at : ℕ → ℕ → ℕ) (t : ℕ) (d : List ℕ → Read A) (s : List ℕ) where
  pub step_refused : (p : ℕ) → header_of s ≡ Err (misfit p) → step_of (tagged_dec at t d s) ≡ Err (misfit p)
  unfolding tagged_dec step_of
  step_refused p q = rw q

  module _ (u h n : ℕ) (q : header_of s ≡ Ok (header u h n)) where
    pub step_fits : u ≡ t → fit_of (d (take n (drop h s))) ≡ Ok tt → step_of (tagged_dec at t d s) ≡ Ok (h + n)
    unfolding tagged_dec step_of
    step_fits o f = rw (q, eq-eqb u t o, (read_of (d (take n (drop h s))) f).1)
