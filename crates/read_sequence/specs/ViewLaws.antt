-- Sequences, options and choices seen as positions: the answer for the whole as an equation in the
-- answers for its parts, for any codec.
-- place_is; fit_end, fit_only_step, fit_maybe_none, fit_maybe_step; fit_field_wrong, fit_field_step;
-- fit_option_there, fit_option_missing, fit_optional; step_tagged_wrong, step_tagged; step_choice,
-- step_named. What is made of a part's answer is in Judged. The names of a whole list do not count:
-- fit_mapped of codec's ViewLaws, which has the laws by what was read.
-- Assumes nothing.
use Rattle.std.specs.Prelude.{ℕ, ◌+◌, ◌≤◌, ◌<◌, ◌≡◌, Bool, ◌⊎◌, take, drop, Ok, Err}
use Rattle.std.proofs.Common.{arith, ◌∙◌}
use Rattle.std.proofs.Math.Path.{refl, sym, ap}
use Rattle.std.proofs.Math.Bool.{true, false, cond}
use mathlib.Core.List.{List, [], ◌∷◌}
use Rattle.std.proofs.Math.Option.{some, none}
use Rattle.std.proofs.Math.Logic.{inl, inr}
use Rattle.std.proofs.Math.Dec.{eqb}
use Rattle.std.proofs.Math.ListN.{length, length-drop}
use Rattle.std.proofs.Math.Seq.{length-take-le}
use borrow.Author.Tests.{eqb-true, eqb-false, le-leb, ne_eqb}
use Rattle.element.specs.Header.{header_of}
use Rattle.element.specs.Places.{misfit, span}
use Rattle.codec.specs.Codec.{Read, read, broke, Got, got, bad, Whole, Element}
use Rattle.codec.specs.Outcome.{further, on_got, attach}
use Rattle.codec.specs.Tagged.{inner, tagged_dec}
use Rattle.codec.specs.Mapped.{called_dec}
use Rattle.codec.specs.Sequence.{end_dec, field_dec, only_dec}
use Rattle.codec.proofs.Sequence.{end}
use Rattle.codec.specs.Maybe.{maybe_dec}
use Rattle.codec.proofs.Maybe.{maybe_none, maybe_some}
use Rattle.codec.specs.Starts.{starts_with, Starts}
use Rattle.codec.specs.Option.{option_of, option_dec}
use Rattle.codec.specs.Choice.{choice_of, choice_dec}
use Rattle.codec.specs.Views.{step_of, fit_of, later}
use Rattle.codec.proofs.ViewLaws.{step_taken, step_bad, fit_further, fit_renamed, step_called, fit_mapped, fit_field_bad, fit_field, fit_only_bad, fit_only, fit_only_left}
use Rattle.layout.proofs.ElementKinds.{optional}
use Rattle.read_content.specs.Spots.{expected}
use Rattle.read_content.specs.ExpectLaws.{expected_at, tagged_at_lem, tagged_wrong}
use Rattle.read_sequence.specs.Judged.{place_within, filled_by, closed_by, after_by}

-- a place in the part is not held back
pub place_is : (start end p : ℕ) → start + p ≤ end → place_within start end p ≡ start + p
unfolding place_within
place_is start end p h = rw (le-leb (start + p) end h)

-- ── nothing more ──
pub fit_end : (s : List ℕ) → fit_of (end_dec s) ≡ filled_by (length s) (Ok 0)
unfolding fit_of end_dec filled_by
fit_end [] = refl
fit_end (x ∷ s) = rw (ne_eqb 0 (length (x ∷ s)) (λ e. omega arith))

-- ── an element that fills its holder, or nothing ──
module _ {A : Type 0} (e : Element A) (s : List ℕ) where
  pub fit_only_step : fit_of (only_dec e.dec s) ≡ filled_by (length s) (step_of (e.dec s))
  unfolding step_of filled_by
  fit_only_step = go (e.dec s) refl
    where
      on : (a : A) (n : ℕ) → e.dec s ≡ got a n → (b : Bool) → eqb n (length s) ≡ b → fit_of (only_dec e.dec s) ≡ cond b (Ok tt) (Err (misfit n))
      on a n q true i = let j = eqb-true n (length s) i in fit_only e.dec s a n q (omega arith)
      on a n q false i =
          let j = eqb-false n (length s) i in
          let k = e.inside s a n q in
          fit_only_left e.dec s a n q (omega arith)

      go : (g : Got A) → e.dec s ≡ g → fit_of (only_dec e.dec s) ≡ filled_by (length s) (step_of (e.dec s))
      go (bad p) q = fit_only_bad e.dec s p q ∙ rw q
      go (got a n) q = on a n q (eqb n (length s)) refl ∙ rw q

  pub fit_maybe_none : length s ≡ 0 → fit_of (maybe_dec e.dec s) ≡ Ok tt
  unfolding fit_of
  fit_maybe_none h = go s h
    where
      go : (l : List ℕ) → length l ≡ 0 → fit_of (maybe_dec e.dec l) ≡ Ok tt
      go [] h = ap fit_of (maybe_none e.dec)
      go (x ∷ l) h = absurd (omega arith)

  pub fit_maybe_step : 0 < length s → fit_of (maybe_dec e.dec s) ≡ filled_by (length s) (step_of (e.dec s))
  fit_maybe_step h = ap fit_of (maybe_some e.dec s h) ∙ fit_renamed some (only_dec e.dec s) ∙ fit_only_step

-- ── an element, then a whole list ──
-- what is made of the two does not count
module _ {A B C D : Type 0} (d : List ℕ → Read B) (s : List ℕ) (f : A → B → C) (h : A → B → D) where
  fit_either : (g : Got A) → fit_of (on_got g (λ a n. further n (f a) (d (drop n s)))) ≡ fit_of (on_got g (λ a n. further n (h a) (d (drop n s))))
  unfolding fit_of
  fit_either (bad p) = refl
  fit_either (got a n) = fit_further n (f a) (d (drop n s)) ∙ sym (fit_further n (h a) (d (drop n s)))

pub fit_field_wrong : {A B : Type 0} (e : Element A) (d : List ℕ → Read B) (s : List ℕ) (p : ℕ) → step_of (e.dec s) ≡ Err (misfit p) → fit_of (field_dec e.dec d s) ≡ Err (misfit p)
fit_field_wrong e d s p q = fit_field_bad e.dec d s p (step_bad e s p q).0

module _ {A B : Type 0} (e : Element A) (w : Whole B) (s : List ℕ) where
  -- a place in what follows is not held back
  later_is : (n : ℕ) → n ≤ length s → later n (fit_of (w.dec (drop n s))) ≡ after_by n (length s) (fit_of (w.dec (drop n s)))
  unfolding fit_of later after_by
  later_is n le = go (w.dec (drop n s)) refl
    where
      go : (o : Read B) → w.dec (drop n s) ≡ o → later n (fit_of o) ≡ after_by n (length s) (fit_of o)
      go (read b) q = refl
      go (broke p) q =
          let v = w.within (drop n s) p q in
          ap (λ (k : ℕ). Err (misfit k)) (sym (place_is n (length s) p (omega (arith, length-drop n s))))

  pub fit_field_step : (n : ℕ) → step_of (e.dec s) ≡ Ok n → fit_of (field_dec e.dec w.dec s) ≡ after_by n (length s) (fit_of (w.dec (drop n s)))
  fit_field_step n q =
      let (a, g, _, le) = step_taken e s n q in
      fit_field e.dec w.dec s a n g ∙ later_is n le

  -- maybe the element: where it is there, the whole is judged as if it had to be
  pub fit_option_there : (t : ℕ) → starts_with t s ≡ true → fit_of (option_dec t e.dec w.dec s) ≡ fit_of (field_dec e.dec w.dec s)
  unfolding option_dec option_of field_dec
  fit_option_there t b = rw b (fit_either w.dec s (λ a y. (some a, y)) (λ a y. (a, y)) (e.dec s))

  pub fit_option_missing : (t : ℕ) → starts_with t s ≡ false → fit_of (option_dec t e.dec w.dec s) ≡ fit_of (w.dec s)
  unfolding option_dec option_of
  fit_option_missing t b = rw b (fit_renamed (λ (y : B). (none, y)) (w.dec s))

-- maybe an element, and nothing more
module _ {A : Type 0} (t : ℕ) (e : Element A) (st : Starts t e) (s : List ℕ) where
  pub fit_optional : fit_of ((optional t e st).dec s) ≡ filled_by (length s) (cond (starts_with t s) (step_of (e.dec s)) (Ok 0))
  unfolding only_dec
  fit_optional = fit_mapped (λ x. x.0) (option_dec t e.dec end_dec) s ∙ go (starts_with t s) refl
    where
      go : (b : Bool) → starts_with t s ≡ b → fit_of (option_dec t e.dec end_dec s) ≡ filled_by (length s) (cond (starts_with t s) (step_of (e.dec s)) (Ok 0))
      go true i =
          fit_option_there e end s t i ∙ sym (fit_mapped (λ x. x.0) (field_dec e.dec end_dec) s)
          ∙ fit_only_step e s ∙ rw i
      go false i = fit_option_missing e end s t i ∙ fit_end s ∙ rw i

-- ── an element with a tag, around a whole list ──
pub step_tagged_wrong : {A : Type 0} (t : ℕ) (d : List ℕ → Read A) (s : List ℕ) (p : ℕ) → expected t (header_of s) ≡ Err (misfit p)
    → step_of (tagged_dec inner t d s) ≡ Err (misfit p)
unfolding step_of
step_tagged_wrong t d s p q = rw (tagged_wrong inner t d s p q)

module _ {A : Type 0} (t : ℕ) (w : Whole A) (s : List ℕ) where
  pub step_tagged : (b l : ℕ) → expected t (header_of s) ≡ Ok (span b l)
      → step_of (tagged_dec inner t w.dec s) ≡ closed_by b (b + l) (fit_of (w.dec (take l (drop b s))))
  unfolding step_of fit_of closed_by
  step_tagged b l q = ap step_of (tagged_at_lem inner t w.dec s b l q) ∙ go (w.dec (take l (drop b s))) refl
    where
      go : (o : Read A) → w.dec (take l (drop b s)) ≡ o → step_of (attach (inner b) (b + l) o) ≡ closed_by b (b + l) (fit_of o)
      go (read a) i = refl
      go (broke p) i =
          let v = w.within (take l (drop b s)) p i in
          let long : length (take l (drop b s)) ≡ l = length-take-le l (drop b s) (simp length-drop (omega (arith, (expected_at t s b l q).2))) in
          ap (λ (k : ℕ). Err (misfit k)) (sym (place_is b (b + l) p (omega arith)))

-- ── one of two, by the first octet; other names ──
module _ {A B : Type 0} (d : List ℕ → Got A) (s : List ℕ) where
  pub step_choice : (t : ℕ) (d' : List ℕ → Got B) → step_of (choice_dec t d d' s) ≡ cond (starts_with t s) (step_of (d s)) (step_of (d' s))
  unfolding choice_dec choice_of
  step_choice t d' = go (starts_with t s)
    where
      go : (b : Bool) → step_of (choice_of b d d' s) ≡ cond b (step_of (d s)) (step_of (d' s))
      go true = step_called {B = A ⊎ B} inl (d s)
      go false = step_called {B = A ⊎ B} inr (d' s)

  pub step_named : (f : A → B) → step_of (called_dec f d s) ≡ step_of (d s)
  unfolding called_dec
  step_named f = step_called f (d s)
