-- What the code knows at each return and in each turn, and what follows there.
-- zero_next, zero_end; fill_all; field_long, field_short, counted, field_serial, field_fill; cards_alike.
-- Assumes nothing.
use Prim.Native.Nat.{ℕ, suc, ◌+◌, ◌-◌, ◌<◌, ◌≤◌}
use native.Mathlib.Numerals.{add-one}
use native.Mathlib.Omega.{arith}
use mathlib.Core.Path.{◌≡◌, refl, sym, ap, ◌∙◌}
use mathlib.Core.Bool.{Bool, true, false, cond, not, ◌&&◌}
use mathlib.Core.List.{List, [], ◌∷◌}
use lib.Dec.{eqb}
use lib.ListN.{length, get_or, take, drop, drop_of_length-le, length-drop}
use lib.Pointwise.{pointwise}
use lib.Seq.{drop-cons, length-take-le, take_all}
use borrow.Author.Tests.{le-leb, lt-leb, not-true, not-false}
use Rattle.std.specs.Prelude.{nat_eq}
use Rattle.std.specs.List.{list_all}
use Rattle.octets.proofs.Eights.{same_few}
use Rattle.octets.specs.Same.{same_of}
use Rattle.content.specs.Serial.{serial_ok}
use Rattle.answer.specs.declared.Card.{Card}
use Rattle.answer.specs.Card.{all_zero, field_ok, same_hashes, same_card}

-- ---- octets are tested for zeros: the answer is that of those before and of the rest

one_more : (b z r : Bool) → cond z (cond b r false) false ≡ cond (z && b) r false
one_more b true r = refl
one_more b false r = refl

whole : (y : Bool) → cond y true false ≡ y
whole true = refl
whole false = refl

module _ (s : List ℕ) (i : ℕ) (z : Bool) (p : all_zero s ≡ cond z (all_zero (drop i s)) false) where
  -- one more octet
  pub zero_next : i < length s → all_zero s ≡ cond (z && eqb (get_or s i 0) 0) (all_zero (drop (i + 1) s)) false
  unfolding all_zero
  zero_next h =
      p ∙ rw (drop-cons s i 0 h, add-one i) (one_more (eqb (get_or s i 0) 0) z (all_zero (drop (suc i) s)))

  -- at the end
  pub zero_end : length s ≤ i → z ≡ all_zero s
  unfolding all_zero
  zero_end h = sym (p ∙ rw (drop_of_length-le s h) (whole z))

-- the library's test of each octet
pub fill_all : (s : List ℕ) → list_all (λ x. eqb x 0) s ≡ all_zero s
unfolding all_zero
fill_all [] = refl
fill_all (x ∷ s) = go (eqb x 0) (fill_all s)
  where
    go : (t : Bool) → list_all (λ x. eqb x 0) s ≡ all_zero s → (t && list_all (λ x. eqb x 0) s) ≡ cond t (all_zero s) false
    go true h = h
    go false h = refl

-- ---- a serial in its field

module _ (size : ℕ) (field : List ℕ) where
  -- a serial of more than twenty octets
  pub field_long : 20 < size → false ≡ field_ok size field
  unfolding field_ok
  field_long h = sym (rw (lt-leb size 20 h))

  module _ (h : size ≤ 20) where
    -- a field that is not longer than the serial
    pub field_short : length field < size → (r : Bool) → r ≡ serial_ok field → r ≡ field_ok size field
    unfolding field_ok all_zero
    field_short l r p = sym (rw (le-leb size 20 h, take_all size field (omega arith), drop_of_length-le field {i = size} (omega arith), ← p) (whole r))

    pub counted : size ≤ length field → size ≡ length (take size field)
    counted l = sym (length-take-le size field l)

    module _ (r : Bool) (p : r ≡ serial_ok (take size field)) where
      -- the serial rule is broken
      pub field_serial : not r ≡ true → false ≡ field_ok size field
      unfolding field_ok
      field_serial t = sym (rw (le-leb size 20 h, ← p, not-true r t))

      -- it is kept: the fill decides
      pub field_fill : not r ≡ false → (z : Bool) → z ≡ all_zero (take (length field - size) (drop size field)) → z ≡ field_ok size field
      unfolding field_ok
      field_fill t z e =
          let all : take (length field - size) (drop size field) ≡ drop size field = take_all (length field - size) (drop size field) (omega (arith, length-drop size field)) in
          sym (rw (le-leb size 20 h, ← p, not-false r t) (sym (e ∙ ap all_zero all)))

-- ---- two cards, field by field

both_is : (t u v w : Bool) → (t && (u && (v && w))) ≡ cond (cond t u false) (cond v w false) false
both_is true true true w = refl
both_is true true false w = refl
both_is true false v w = refl
both_is false u v w = refl

pub cards_alike : (a b : Card)
    → (pointwise nat_eq a.name b.name && (pointwise nat_eq a.key b.key && (pointwise nat_eq a.serial b.serial && eqb a.size b.size))) ≡ same_card a b
unfolding same_card same_hashes
cards_alike a b =
    rw (same_few a.name b.name, same_few a.key b.key, same_few a.serial b.serial)
    (both_is (same_of a.name b.name) (same_of a.key b.key) (same_of a.serial b.serial) (eqb a.size b.size))
