-- Laws of the place of the first critical extension that is not understood: there is one exactly where
-- some extension is so, and it is where the forms before it end.
-- moved_moved; strange_none, strange_some, strange_first; strange_got, strange_clear, strange_found,
-- strange_broke, strange_bad, strange_absent.
-- The definitions are in Strange. Assumes nothing.
use Rattle.std.specs.Prelude.{ℕ, ◌+◌, ◌-◌, Bool, Option, Some, None, Err}
use Rattle.std.proofs.Common.{arith, sym, ◌∙◌, length-append}
use Rattle.std.proofs.Math.Path.{◌≡◌, refl, ap}
use Rattle.std.proofs.Math.Bool.{true, false, cond}
use mathlib.Core.List.{List, [], ◌∷◌, ◌++◌}
use Rattle.std.proofs.Math.ListN.{length}
use Rattle.std.proofs.Math.Seq.{drop-length}
use Rattle.element.specs.Places.{misfit}
use Rattle.element.specs.HeaderLaws.{header_empty}
use Rattle.octets.specs.SameLaws.{impossible}
use Rattle.codec.specs.Codec.{Read, read, broke, got, bad}
use Rattle.codec.specs.Many.{forms}
use Rattle.codec.specs.Mapped.{mapped_dec}
use Rattle.codec.specs.Sequence.{end_dec, field_dec, only_dec}
use Rattle.codec.specs.Tagged.{tagged_dec}
use Rattle.codec.specs.Views.{fit_of}
use Rattle.codec.proofs.ViewLaws.{fit_only_bad}
use Rattle.layout.specs.Reading.{Extension}
use Rattle.layout.proofs.Format.{extension_after, extension_list, extensions}
use Rattle.read_critical.specs.Strange.{is_strange, any_strange, strange_moved, strange_at, strange_read, strange_of}

pub moved_moved : (m n : ℕ) (x : Option ℕ) → strange_moved m (strange_moved n x) ≡ strange_moved (m + n) x
unfolding strange_moved
moved_moved m n None = refl
moved_moved m n (Some p) = ap Some (omega arith)

-- ── by the list ──
module _ (known : List (List ℕ)) where
  -- no extension is so: there is no place
  pub strange_none : (l : List Extension) → any_strange known l ≡ false → strange_at known l ≡ None
  unfolding any_strange strange_at strange_moved
  strange_none [] h = refl
  strange_none (e ∷ l) h = go (is_strange known e) h (λ i. strange_none l i)
    where
      go : (b : Bool) → cond b true (any_strange known l) ≡ false → (any_strange known l ≡ false → strange_at known l ≡ None)
          → cond b (Some 0) (strange_moved (length ((extension_after []).enc e)) (strange_at known l)) ≡ None
      go true h on = impossible (sym h)
      go false h on = rw (on h)

  -- some extension is so: there is one
  pub strange_some : (l : List Extension) → any_strange known l ≡ true → (q : ℕ) × (strange_at known l ≡ Some q)
  unfolding any_strange strange_at strange_moved
  strange_some [] h = impossible h
  strange_some (e ∷ l) h = go (is_strange known e) h (λ i. strange_some l i)
    where
      go : (b : Bool) → cond b true (any_strange known l) ≡ true → (any_strange known l ≡ true → (q : ℕ) × (strange_at known l ≡ Some q))
          → (q : ℕ) × (cond b (Some 0) (strange_moved (length ((extension_after []).enc e)) (strange_at known l)) ≡ Some q)
      go true h on = (0, refl)
      go false h on =
          let i = on h in
          (length ((extension_after []).enc e) + i.0, ap (strange_moved (length ((extension_after []).enc e))) i.1)

  -- the first that is so stands where the forms before it end
  pub strange_first : (before : List Extension) (e : Extension) (after : List Extension) → any_strange known before ≡ false
      → is_strange known e ≡ true → strange_at known (before ++ e ∷ after) ≡ Some (length (forms (extension_after []).enc before))
  unfolding any_strange strange_at strange_moved
  strange_first [] e after h y = rw y
  strange_first (a ∷ before) e after h y = go (is_strange known a) h (λ i. strange_first before e after i y)
    where
      go : (b : Bool) → cond b true (any_strange known before) ≡ false
          → (any_strange known before ≡ false → strange_at known (before ++ e ∷ after) ≡ Some (length (forms (extension_after []).enc before)))
          → cond b (Some 0) (strange_moved (length ((extension_after []).enc a)) (strange_at known (before ++ e ∷ after)))
          ≡ Some (length ((extension_after []).enc a ++ forms (extension_after []).enc before))
      go true h on = impossible (sym h)
      go false h on = rw (on h) (ap Some (sym (length-append ((extension_after []).enc a) (forms (extension_after []).enc before))))

  -- ── by the part ──
  -- the extensions and nothing more
  pub strange_got : (p : List ℕ) (l : List Extension) → extensions.dec p ≡ got l (length p)
      → strange_of known p ≡ strange_moved (length p - length (extension_list.enc l)) (strange_at known l)
  unfolding strange_of strange_read only_dec mapped_dec field_dec end_dec
  strange_got p l q = rw (q, drop-length p)

  -- there is a place exactly where some extension is so
  pub strange_clear : (p : List ℕ) (l : List Extension) → extensions.dec p ≡ got l (length p) → any_strange known l ≡ false → strange_of known p ≡ None
  unfolding strange_moved
  strange_clear p l q h = strange_got p l q ∙ rw (strange_none l h)

  pub strange_found : (p : List ℕ) (l : List Extension) → extensions.dec p ≡ got l (length p) → any_strange known l ≡ true
      → (q : ℕ) × (strange_of known p ≡ Some q)
  unfolding strange_moved
  strange_found p l q h =
      let n = length p - length (extension_list.enc l) in
      let i = strange_some l h in
      (n + i.0, strange_got p l q ∙ ap (strange_moved n) i.1)

  -- something more, or not the extensions
  pub strange_broke : (p : List ℕ) (o : Read (List Extension)) (q : ℕ) → fit_of o ≡ Err (misfit q) → strange_read known p o ≡ None
  unfolding strange_read fit_of
  strange_broke p (read l) q e = let z : ◌≡◌ {A = ℕ} 0 1 = cc in absurd (omega arith)
  strange_broke p (broke k) q e = refl

  pub strange_bad : (p : List ℕ) (q : ℕ) → extensions.dec p ≡ bad q → strange_of known p ≡ None
  unfolding strange_of
  strange_bad p q e = strange_broke p (only_dec extensions.dec p) q (fit_only_bad extensions.dec p q e)

  -- absent
  pub strange_absent : strange_of known [] ≡ None
  unfolding extensions tagged_dec
  strange_absent = strange_bad [] 0 (rw header_empty)
