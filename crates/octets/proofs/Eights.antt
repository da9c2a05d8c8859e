-- Eight octets at a place as one number, and two lists compared by such numbers.
-- weights, eight_low, eight_high; eight_is; same_few; eights_next, eights_differ, eights_end.
-- Assumes nothing.
use Prim.Native.Nat.{ℕ, zero, suc, ◌+◌, ◌-◌, ◌*◌, ◌≤◌, ◌<◌}
use native.Mathlib.Nat.{add-zero}
use native.Mathlib.Omega.{arith}
use mathlib.Core.Path.{◌≡◌, refl, sym, ap, ap₂, ◌∙◌}
use mathlib.Core.Bool.{Bool, true, false, cond, ◌&&◌}
use mathlib.Core.List.{List, [], ◌∷◌}
use lib.Dec.{eqb}
use lib.Pointwise.{pointwise}
use lib.ListN.{length, get_or, take, drop, length-drop}
use lib.Seq.{get_or-drop, drop-drop, length-take-le, take_all}
use mir.Syntax.{w8}
use mir.Val.{Fits}
use borrow.Author.Tests.{eq-eqb}
use Rattle.std.proofs.lemmas.Bool.{eqb-true, eqb-false}
use Rattle.std.specs.Prelude.{nat_eq, Some}
use Rattle.octets.specs.Octets.{Octets}
use Rattle.octets.specs.OctetsLaws.{octets_from, octets_take, octets_drop}
use Rattle.octets.specs.Number.{value_of, number_at, low_first}
use Rattle.octets.specs.NumberLaws.{number_inside}
use Rattle.octets.specs.Same.{same_of}
use Rattle.octets.specs.SameLaws.{same_true, same_refl}

-- ---- the number

-- each octet with its weight
pub weights : (a b c d e f g h : ℕ)
    → a + b * 256 + c * 65536 + d * 16777216 + (e + f * 256 + g * 65536 + h * 16777216) * 4294967296
    ≡ low_first (a ∷ b ∷ c ∷ d ∷ e ∷ f ∷ g ∷ h ∷ [])
unfolding low_first
weights a b c d e f g h = omega arith

-- the same octets, the high one first
turned : (a b c d e f g h : ℕ) → low_first (h ∷ g ∷ f ∷ e ∷ d ∷ c ∷ b ∷ a ∷ []) ≡ value_of (a ∷ b ∷ c ∷ d ∷ e ∷ f ∷ g ∷ h ∷ [])
unfolding low_first value_of
turned a b c d e f g h = omega arith

first_eight : (t : List ℕ) → 8 ≤ length t
    → get_or t 0 0 ∷ get_or t 1 0 ∷ get_or t 2 0 ∷ get_or t 3 0 ∷ get_or t 4 0 ∷ get_or t 5 0 ∷ get_or t 6 0 ∷ get_or t 7 0 ∷ [] ≡ take 8 t
first_eight [] l = absurd (omega arith)
first_eight (a ∷ []) l = absurd (omega arith)
first_eight (a ∷ b ∷ []) l = absurd (omega arith)
first_eight (a ∷ b ∷ c ∷ []) l = absurd (omega arith)
first_eight (a ∷ b ∷ c ∷ d ∷ []) l = absurd (omega arith)
first_eight (a ∷ b ∷ c ∷ d ∷ e ∷ []) l = absurd (omega arith)
first_eight (a ∷ b ∷ c ∷ d ∷ e ∷ f ∷ []) l = absurd (omega arith)
first_eight (a ∷ b ∷ c ∷ d ∷ e ∷ f ∷ g ∷ []) l = absurd (omega arith)
first_eight (a ∷ b ∷ c ∷ d ∷ e ∷ f ∷ g ∷ h ∷ r) l = refl

module _ (s : List ℕ) (at : ℕ) (h : at + 8 ≤ length s) where
  -- the eight octets at a place
  eight_there : get_or s at 0 ∷ get_or s (at + 1) 0 ∷ get_or s (at + 2) 0 ∷ get_or s (at + 3) 0 ∷ get_or s (at + 4) 0 ∷ get_or s (at + 5) 0 ∷ get_or s (at + 6) 0 ∷ get_or s (at + 7) 0 ∷ []
      ≡ take 8 (drop at s)
  eight_there =
      let first : get_or (drop at s) 0 0 ≡ get_or s at 0 = get_or-drop at s 0 0 ∙ ap (λ (k : ℕ). get_or s k 0) (add-zero at) in
      rw (
        ← first,
        ← get_or-drop at s 1 0,
        ← get_or-drop at s 2 0,
        ← get_or-drop at s 3 0,
        ← get_or-drop at s 4 0,
        ← get_or-drop at s 5 0,
        ← get_or-drop at s 6 0,
        ← get_or-drop at s 7 0,
      ) (first_eight (drop at s) (omega (arith, length-drop at s)))

  pub eight_low : (r : ℕ)
      → r ≡ low_first (get_or s at 0 ∷ get_or s (at + 1) 0 ∷ get_or s (at + 2) 0 ∷ get_or s (at + 3) 0 ∷ get_or s (at + 4) 0 ∷ get_or s (at + 5) 0 ∷ get_or s (at + 6) 0 ∷ get_or s (at + 7) 0 ∷ [])
      → r ≡ low_first (take 8 (drop at s))
  eight_low r e = e ∙ ap low_first eight_there

  pub eight_high : (r : ℕ)
      → r ≡ low_first (get_or s (at + 7) 0 ∷ get_or s (at + 6) 0 ∷ get_or s (at + 5) 0 ∷ get_or s (at + 4) 0 ∷ get_or s (at + 3) 0 ∷ get_or s (at + 2) 0 ∷ get_or s (at + 1) 0 ∷ get_or s at 0 ∷ [])
      → r ≡ value_of (take 8 (drop at s))
  eight_high r e =
      e
      ∙ turned (get_or s at 0) (get_or s (at + 1) 0) (get_or s (at + 2) 0) (get_or s (at + 3) 0) (get_or s (at + 4) 0) (get_or s (at + 5) 0) (get_or s (at + 6) 0) (get_or s (at + 7) 0)
      ∙ ap value_of eight_there

-- a number of eight octets, as code knows it
module _ (s : List ℕ) (at w : ℕ) (e : w ≡ 8) where
  pub eight_is : at ≤ length s → 8 ≤ length s - at → (n : ℕ) → n ≡ value_of (take 8 (drop at s)) → Some n ≡ number_at s at w
  eight_is h g n q = ap Some (q ∙ ap (λ (k : ℕ). value_of (take k (drop at s))) (sym e)) ∙ sym (number_inside s at w (omega arith) (omega arith))

-- ---- two lists compared

-- few octets: the library's comparing gives the same answer
pub same_few : (a b : List ℕ) → pointwise nat_eq a b ≡ same_of a b
unfolding same_of
same_few [] [] = refl
same_few [] (y ∷ t) = refl
same_few (x ∷ s) [] = refl
same_few (x ∷ s) (y ∷ t) = go (eqb x y) (same_few s t)
  where
    go : (u : Bool) → pointwise nat_eq s t ≡ same_of s t → (u && pointwise nat_eq s t) ≡ cond u (same_of s t) false
    go true p = p
    go false p = refl

-- octets with one number and one length are one list
one_list : (s t : List ℕ) → Octets s → Octets t → length s ≡ length t → low_first s ≡ low_first t → s ≡ t
unfolding low_first
one_list [] [] p q l e = refl
one_list [] (y ∷ t) p q l e = absurd (omega arith)
one_list (x ∷ s) [] p q l e = absurd (omega arith)
one_list (x ∷ s) (y ∷ t) p q l e =
    let a : x < 256 = p.0 in
    let b : y < 256 = q.0 in
    ap₂ ◌∷◌ (omega arith) (one_list s t p.1 q.1 (omega arith) (omega arith))

-- lists that begin alike: the answer is that of the rest
same_rest : (n : ℕ) (a b : List ℕ) → n ≤ length a → n ≤ length b → take n a ≡ take n b → same_of a b ≡ same_of (drop n a) (drop n b)
unfolding same_of
same_rest zero a b h g e = refl
same_rest (suc n) [] b h g e = absurd (omega arith)
same_rest (suc n) (x ∷ s) [] h g e = absurd (omega arith)
same_rest (suc n) (x ∷ s) (y ∷ t) h g e =
    let f : x ≡ y = cc in
    let r : take n s ≡ take n t = cc in
    rw (eq-eqb x y f) (same_rest n s t (omega arith) (omega arith) r)

-- eight of what a slice of octets holds
eight_octets : (s : List ℕ) → ((j : ℕ) → Fits w8 (get_or s j 0)) → (i : ℕ) → Octets (take 8 (drop i s))
eight_octets s k i = octets_take 8 (drop i s) (octets_drop i s (octets_from s (λ j lt. (k j).fits)))

-- eight octets in two lists, as code knows them
module _ (a b : List ℕ) (i x y : ℕ) (u : x ≡ low_first (take 8 (drop i a))) (v : y ≡ low_first (take 8 (drop i b))) where
  module _ (k : (j : ℕ) → Fits w8 (get_or a j 0)) (m : (j : ℕ) → Fits w8 (get_or b j 0)) (q : length a ≡ length b) (e : x ≡ y) where
    eights_same : i + 8 ≤ length a → take 8 (drop i a) ≡ take 8 (drop i b)
    eights_same h =
        let la = length-take-le 8 (drop i a) (omega (arith, length-drop i a)) in
        let lb = length-take-le 8 (drop i b) (omega (arith, length-drop i b)) in
        one_list (take 8 (drop i a)) (take 8 (drop i b)) (eight_octets a k i) (eight_octets b m i) (la ∙ sym lb) (sym u ∙ e ∙ v)

    -- equal
    pub eights_next : same_of a b ≡ same_of (drop i a) (drop i b) → 8 ≤ length a - i → same_of a b ≡ same_of (drop (i + 8) a) (drop (i + 8) b)
    eights_next p h =
        let la : 8 ≤ length (drop i a) = omega (arith, length-drop i a) in
        let lb : 8 ≤ length (drop i b) = omega (arith, length-drop i b) in
        p ∙ same_rest 8 (drop i a) (drop i b) la lb (eights_same (omega arith)) ∙ ap₂ same_of (drop-drop 8 i a) (drop-drop 8 i b)

  -- not equal
  pub eights_differ : (x ≡ y → ⊥) → false ≡ same_of a b
  eights_differ n = go (same_of a b) refl
    where
      go : (r : Bool) → same_of a b ≡ r → false ≡ r
      go false e = refl
      go true e = absurd (n (u ∙ ap (λ (l : List ℕ). low_first (take 8 (drop i l))) (same_true a b e) ∙ sym v))

-- what is left has eight octets at most: the last eight decide
module _ (a b : List ℕ) (x y : ℕ) (u : x ≡ low_first (take 8 (drop (length a - 8) a))) (v : y ≡ low_first (take 8 (drop (length a - 8) b))) where
  all_same : ((j : ℕ) → Fits w8 (get_or a j 0)) → ((j : ℕ) → Fits w8 (get_or b j 0)) → length a ≡ length b → x ≡ y
      → (i : ℕ) → (i ≤ length a) × (same_of a b ≡ same_of (drop i a) (drop i b)) → length a - 8 ≤ i → 8 ≤ length a → true ≡ same_of a b
  all_same k m q e i p l h =
      let o = eights_same a b (length a - 8) x y u v k m q e (omega arith) in
      let f = take_all 8 (drop (length a - 8) a) (omega (arith, length-drop (length a - 8) a)) in
      let g = take_all 8 (drop (length a - 8) b) (omega (arith, length-drop (length a - 8) b)) in
      let n : length a - 8 + (i - (length a - 8)) ≡ i = omega (arith, p.0) in
      let d : drop i a ≡ drop i b =
      ap (λ (t : ℕ). drop t a) (sym n)
      ∙ sym (drop-drop (i - (length a - 8)) (length a - 8) a)
      ∙ ap (drop (i - (length a - 8))) (sym f ∙ o ∙ g)
      ∙ drop-drop (i - (length a - 8)) (length a - 8) b
      ∙ ap (λ (t : ℕ). drop t b) n in
      sym (p.1 ∙ ap (λ (t : List ℕ). same_of t (drop i b)) d ∙ same_refl (drop i b))

  pub eights_end : ((j : ℕ) → Fits w8 (get_or a j 0)) → ((j : ℕ) → Fits w8 (get_or b j 0)) → length a ≡ length b
      → (i : ℕ) → (i ≤ length a) × (same_of a b ≡ same_of (drop i a) (drop i b)) → length a - 8 ≤ i → 8 ≤ length a → eqb x y ≡ same_of a b
  eights_end k m q i p l h = go (eqb x y) refl
    where
      go : (r : Bool) → eqb x y ≡ r → r ≡ same_of a b
      go true e = all_same k m q (eqb-true x y e) i p l h
      go false e = eights_differ a b (length a - 8) x y u v (eqb-false x y e)
