-- No card twice: the test says yes exactly if any two places with one card are the same place.
-- Single, single_true, single_from; held_single.
-- The definitions are in Room. Assumes nothing.
use Prim.Native.Nat.{ℕ, zero, suc, ◌<◌, suc-le-suc}
use Rattle.std.proofs.Common.{not-suc-le-zero, le_of_suc-le-suc, zero-lt-suc, arith, sym, ◌∙◌, ltb-true, lt-ltb}
use Rattle.std.proofs.Math.Path.{◌≡◌, refl, ap}
use Rattle.std.specs.Prelude.{Bool, ltb, length, get_or}
use Rattle.std.proofs.Math.Bool.{true, false, cond}
use mathlib.Core.List.{List, [], ◌∷◌}
use Rattle.octets.specs.SameLaws.{impossible, same_true, same_false}
use Rattle.cache_room.specs.Room.{is_empty, held_at, again, cards_once}
use Rattle.cache_room.proofs.FirstLaws.{held_card, held_there}

module _ {A : Type 0} (card : A → List ℕ) (d : A) where
  -- two places with one card are one place
  abbrev pub Single : List A → Type 0
  Single l = (i j : ℕ) → i < length l → j < length l → card (get_or l i d) ≡ card (get_or l j d) → (card (get_or l i d) ≡ [] → ⊥) → i ≡ j

  -- a card that stands again
  again_true : (x : A) (l : List A) (j : ℕ) → j < length l → card x ≡ card (get_or l j d) → (card x ≡ [] → ⊥) → again card x l ≡ true
  again_true x l j b e n = go (is_empty card x) refl
    where
      go : (t : Bool) → is_empty card x ≡ t → cond t false (ltb (held_at card (card x) l) (length l)) ≡ true
      go true q = absurd (n (same_true (card x) [] q))
      go false q = lt-ltb (held_at card (card x) l) (length l) (omega (arith, held_there card (card x) d l j (sym e)))

  again_where : (x : A) (l : List A) → again card x l ≡ true → (j : ℕ) × (j < length l) × (card (get_or l j d) ≡ card x) × (card x ≡ [] → ⊥)
  again_where x l e = go (is_empty card x) refl e
    where
      go : (t : Bool) → is_empty card x ≡ t → cond t false (ltb (held_at card (card x) l) (length l)) ≡ true
          → (j : ℕ) × (j < length l) × (card (get_or l j d) ≡ card x) × (card x ≡ [] → ⊥)
      go true q e = impossible e
      go false q e =
          let b = ltb-true (held_at card (card x) l) (length l) e in
          (held_at card (card x) l, b, held_card card (card x) d l b, same_false (card x) [] q)

  pub single_true : (l : List A) → cards_once card l ≡ true → Single l
  unfolding cards_once
  single_true [] e = λ i j a b s n. absurd (not-suc-le-zero a)
  single_true (x ∷ l) e = go (again card x l) refl (λ r. single_true l r) e
    where
      go : (t : Bool) → again card x l ≡ t → (cards_once card l ≡ true → Single l) → cond t false (cards_once card l) ≡ true → Single (x ∷ l)
      go true q r e i j a b s n = impossible e
      go false q r e zero zero a b s n = refl
      go false q r e zero (suc j) a b s n = impossible (sym q ∙ again_true x l j (le_of_suc-le-suc b) s n)
      go false q r e (suc i) zero a b s n = impossible (sym q ∙ again_true x l i (le_of_suc-le-suc a) (sym s) (λ z. n (s ∙ z)))
      go false q r e (suc i) (suc j) a b s n = ap suc (r e i j (le_of_suc-le-suc a) (le_of_suc-le-suc b) s n)

  pub single_from : (l : List A) → Single l → cards_once card l ≡ true
  unfolding cards_once
  single_from [] h = refl
  single_from (x ∷ l) h =
      go (again card x l) refl (single_from l (λ i j a b s n. let e : suc i ≡ suc j = h (suc i) (suc j) (suc-le-suc a) (suc-le-suc b) s n in omega arith))
    where
      go : (t : Bool) → again card x l ≡ t → cards_once card l ≡ true → cond t false (cards_once card l) ≡ true
      go true q r =
          let (j, b, s, n) = again_where x l q in
          let e : ◌≡◌ {A = ℕ} 0 (suc j) = h 0 (suc j) (zero-lt-suc (length l)) (suc-le-suc b) (sym s) n in
          absurd (omega arith)
      go false q r = r

  -- where no card stands twice, a place that has a card is the one where it is held
  pub held_single : (l : List A) → Single l → (i : ℕ) → i < length l → (card (get_or l i d) ≡ [] → ⊥) → held_at card (card (get_or l i d)) l ≡ i
  held_single l h i b n =
      let k : held_at card (card (get_or l i d)) l < length l = omega (arith, held_there card (card (get_or l i d)) d l i refl) in
      let e = held_card card (card (get_or l i d)) d l k in
      h (held_at card (card (get_or l i d)) l) i k b e (λ z. n (sym e ∙ z))
