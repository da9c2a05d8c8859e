-- What a filing does to another card: nothing, or its place was stale and is taken, and the card is then not held.
-- Kept, Taken, other_either.
-- The definitions are in Room. Assumes nothing.
use Rattle.std.specs.Prelude.{ℕ, ◌<◌, ◌⊎◌, ◌≡◌, Bool, ltb, eqb, length, get_or}
use Rattle.std.proofs.Common.{arith, inl, inr, sym, ap, ◌∙◌, ltb-true, ltb-false, eqb-true}
use Rattle.std.proofs.Math.Path.{refl}
use Rattle.std.proofs.Math.Bool.{true, false, cond}
use mathlib.Core.List.{List, []}
use Rattle.std.proofs.lemmas.Bool.{eqb-false}
use Rattle.octets.specs.SameLaws.{same_true}
use Rattle.cache_room.specs.Room.{is_empty, is_free, held_at, free_at, taken_at, filed_in}
use Rattle.cache_room.proofs.FirstLaws.{first_passes, held_le, held_card, held_none}
use Rattle.cache_room.proofs.SingleLaws.{Single, held_single}
use Rattle.cache_room.proofs.TakenLaws.{taken_held, taken_free}
use Rattle.cache_room.proofs.FiledLaws.{filed_length, filed_at, filed_same, kept_card, filed_single}

module _ {A : Type 0} (card : A → List ℕ) (stale : A → Bool) (wins : A → A → Bool) (new : A) (l : List A) (d : A) (c : List ℕ) where
  -- the card stays where it was, if it was held, and its place is as it was
  pub record Kept : Type 0 where
    pub place : held_at card c (filed_in card stale wins new l) ≡ held_at card c l
    pub same : get_or (filed_in card stale wins new l) (held_at card c l) d ≡ get_or l (held_at card c l) d

  -- the card's place was stale and is the one taken; the card is then not held
  pub record Taken : Type 0 where
    pub place : held_at card c l ≡ taken_at card stale (card new) l
    pub old : stale (get_or l (held_at card c l) d) ≡ true
    pub gone : held_at card c (filed_in card stale wins new l) ≡ length l

  module _
      (b : taken_at card stale (card new) l < length l)
      (n : card new ≡ [] → ⊥)
      (s : Single card d l)
      (m : c ≡ [] → ⊥)
      (other : c ≡ card new → ⊥)
    where
      abbrev k : ℕ
      k = taken_at card stale (card new) l

      abbrev i : ℕ
      i = held_at card c l

      abbrev after : List A
      after = filed_in card stale wins new l

      -- a place of the room afterwards that has the card had it before, and is not the one taken
      before : (j : ℕ) → card (get_or after j d) ≡ c → (j ≡ k → ⊥) × (card (get_or l j d) ≡ c)
      before j e =
          let h : j ≡ k → ⊥ = λ z. other (sym e ∙ ap (λ (i : ℕ). card (get_or after i d)) z ∙ ap card (filed_at card stale wins new l d b) ∙ kept_card card wins new l) in
          (h, ap card (sym (filed_same card stale wins new l d j h)) ∙ e)

      -- a place that the filing takes and that is not empty was stale
      was_stale : (i : ℕ) → i ≡ k → card (get_or l i d) ≡ c → stale (get_or l i d) ≡ true
      unfolding free_at
      was_stale i e x = go (ltb (held_at card (card new) l) (length l)) refl
        where
          free : (y : A) → card y ≡ c → is_free card stale y ≡ true → stale y ≡ true
          free y z f = go (is_empty card y) refl f
            where
              go : (t : Bool) → is_empty card y ≡ t → cond t true (stale y) ≡ true → stale y ≡ true
              go true q f = absurd (m (sym z ∙ same_true (card y) [] q))
              go false q f = f

          go : (t : Bool) → ltb (held_at card (card new) l) (length l) ≡ t → stale (get_or l i d) ≡ true
          go true q =
              let h = ltb-true (held_at card (card new) l) (length l) q in
              absurd (other (sym x ∙ ap (λ (y : ℕ). card (get_or l y d)) (e ∙ taken_held card stale (card new) l h) ∙ held_card card (card new) d l h))
          go false q =
              let f : i ≡ free_at card stale l = e ∙ taken_free card stale (card new) l (ltb-false (held_at card (card new) l) (length l) q) in
              free (get_or l i d) x (rw (← f) at (first_passes (is_free card stale) d l (rw (← f, e) b)))

      -- a place that has the card is the one where it is held, before and after
      lone : (j : ℕ) → j < length l → card (get_or l j d) ≡ c → i ≡ j
      lone j h e = rw e at (held_single card d l s j h (λ z. m (sym e ∙ z)))

      still : (j : ℕ) → j < length l → card (get_or after j d) ≡ c → held_at card c after ≡ j
      still j h e =
          rw e at (held_single card d after (filed_single card stale wins new l d b n s) j (rw (filed_length card stale wins new l) h) (λ z. m (sym e ∙ z)))

      -- one of the two
      pub other_either : Kept ⊎ Taken
      other_either = go (ltb i (length l)) (eqb i k) refl refl
        where
          go : (t u : Bool) → ltb i (length l) ≡ t → eqb i k ≡ u → Kept ⊎ Taken
          go false u p q =
              let e : i ≡ length l = omega (arith, ltb-false i (length l) p, held_le card c l) in
              inl (record {
                place =
                    held_none card c d after (λ j h x. let g : i ≡ j = lone j (rw (filed_length card stale wins new l) at h) (before j x).1 in omega (arith, filed_length card stale wins new l))
                    ∙ filed_length card stale wins new l
                    ∙ sym e;
                same = filed_same card stale wins new l d i (λ z. omega arith);
              })
          go true false p q =
              let x : card (get_or l i d) ≡ c = held_card card c d l (ltb-true i (length l) p) in
              let y : get_or after i d ≡ get_or l i d = filed_same card stale wins new l d i (eqb-false i k q) in
              inl (record { place = still i (ltb-true i (length l) p) (ap card y ∙ x); same = y })
          go true true p q =
              let x : card (get_or l i d) ≡ c = held_card card c d l (ltb-true i (length l) p) in
              inr (record {
                place = eqb-true i k q;
                old = was_stale i (eqb-true i k q) x;
                gone =
                    held_none card c d after
                    (λ j h y. let (f, g) = before j y in f (sym (lone j (rw (filed_length card stale wins new l) at h) g) ∙ eqb-true i k q))
                    ∙ filed_length card stale wins new l;
              })
