-- Laws of a filing: what its place holds, that no other changes, that the card is then held there, and that no card is
-- then held twice.
-- kept_held, kept_new, kept_either, kept_card; filed_length, filed_same, filed_at, filed_single.
-- The definitions are in Room. The place is in TakenLaws, other cards in OtherLaws, the count in CountLaws.
-- Assumes nothing.
use Rattle.std.specs.Prelude.{ℕ, ◌≤◌, ◌<◌, ◌⊎◌, ◌≡◌, refl, Bool, true, false, List, [], ltb, eqb, length, get_or}
use Rattle.std.proofs.Common.{arith, inl, inr, sym, ap, ◌∙◌, ltb-true, ltb-false, lt-ltb, le-ltb, eqb-true}
use Rattle.std.proofs.Math.ListN.{length-set}
use Rattle.std.proofs.Math.Seq.{get_or-set_same, get_or-set_other}
use Rattle.std.proofs.lemmas.Bool.{eqb-false}
use Rattle.cache_room.specs.Room.{held_at, taken_at, winner, kept_in, filed_in}
use Rattle.cache_room.proofs.FirstLaws.{nth_any, held_card}
use Rattle.cache_room.proofs.SingleLaws.{Single, held_single}
use Rattle.cache_room.proofs.TakenLaws.{taken_held}

-- ---- what it holds

module _ {A : Type 0} (card : A → List ℕ) (wins : A → A → Bool) (new : A) (l : List A) where
  pub kept_held : (d : A) → held_at card (card new) l < length l → kept_in card wins new l ≡ winner card wins new (get_or l (held_at card (card new) l) d)
  unfolding kept_in
  kept_held d h = rw (lt-ltb (held_at card (card new) l) (length l) h, nth_any l (held_at card (card new) l) new d h)

  pub kept_new : length l ≤ held_at card (card new) l → kept_in card wins new l ≡ new
  unfolding kept_in
  kept_new h = rw (le-ltb (held_at card (card new) l) (length l) h)

  -- the new one, or the one held, and the new one wins not
  pub kept_either : (d : A)
      → (kept_in card wins new l ≡ new)
      ⊎ ((held_at card (card new) l < length l)
      × (kept_in card wins new l ≡ get_or l (held_at card (card new) l) d)
      × (wins new (get_or l (held_at card (card new) l) d) ≡ false))
  kept_either d = go (ltb (held_at card (card new) l) (length l)) (wins new (get_or l (held_at card (card new) l) d)) refl refl
    where
      go : (t u : Bool) → ltb (held_at card (card new) l) (length l) ≡ t → wins new (get_or l (held_at card (card new) l) d) ≡ u
          → (kept_in card wins new l ≡ new)
          ⊎ ((held_at card (card new) l < length l)
          × (kept_in card wins new l ≡ get_or l (held_at card (card new) l) d)
          × (wins new (get_or l (held_at card (card new) l) d) ≡ false))
      go false u p q = inl (kept_new (ltb-false (held_at card (card new) l) (length l) p))
      go true true p q = inl (kept_held d (ltb-true (held_at card (card new) l) (length l) p) ∙ rw q)
      go true false p q =
          let h = ltb-true (held_at card (card new) l) (length l) p in
          inr (h, kept_held d h ∙ rw q, q)

  -- either way it has the card
  pub kept_card : card (kept_in card wins new l) ≡ card new
  kept_card = go (kept_either new)
    where
      go : (kept_in card wins new l ≡ new)
          ⊎ ((held_at card (card new) l < length l)
          × (kept_in card wins new l ≡ get_or l (held_at card (card new) l) new)
          × (wins new (get_or l (held_at card (card new) l) new) ≡ false))
          → card (kept_in card wins new l) ≡ card new
      go (inl e) = ap card e
      go (inr (h, e, q)) = ap card e ∙ held_card card (card new) new l h

-- ---- the room afterwards

module _ {A : Type 0} (card : A → List ℕ) (stale : A → Bool) (wins : A → A → Bool) (new : A) (l : List A) where
  abbrev k : ℕ
  k = taken_at card stale (card new) l

  pub filed_length : length (filed_in card stale wins new l) ≡ length l
  unfolding filed_in
  filed_length = length-set l (taken_at card stale (card new) l) (kept_in card wins new l)

  module _ (d : A) where
    -- no other place changes
    pub filed_same : (j : ℕ) → (j ≡ taken_at card stale (card new) l → ⊥) → get_or (filed_in card stale wins new l) j d ≡ get_or l j d
    unfolding filed_in
    filed_same j n = get_or-set_other l (taken_at card stale (card new) l) j (kept_in card wins new l) d n

    module _ (b : taken_at card stale (card new) l < length l) where
      -- the place that it takes
      pub filed_at : get_or (filed_in card stale wins new l) (taken_at card stale (card new) l) d ≡ kept_in card wins new l
      unfolding filed_in
      filed_at = get_or-set_same l (taken_at card stale (card new) l) (kept_in card wins new l) d b

      filed_card : card (get_or (filed_in card stale wins new l) (taken_at card stale (card new) l) d) ≡ card new
      filed_card = ap card filed_at ∙ kept_card card wins new l

      module _ (n : card new ≡ [] → ⊥) (s : Single card d l) where
        -- another place never had the card
        elsewhere : (j : ℕ) → j < length l → (j ≡ taken_at card stale (card new) l → ⊥) → card (get_or l j d) ≡ card new → ⊥
        elsewhere j q h e =
            let i : held_at card (card new) l ≡ j = rw e at (held_single card d l s j q (λ z. n (sym e ∙ z))) in
            h (sym (taken_held card stale (card new) l (omega arith) ∙ i))

        -- no card is held twice
        pub filed_single : Single card d (filed_in card stale wins new l)
        filed_single i j p q e m = go (eqb i k) (eqb j k) refl refl
          where
            inside : (x : ℕ) → x < length (filed_in card stale wins new l) → x < length l
            inside x h = rw filed_length at h

            go : (t u : Bool) → eqb i k ≡ t → eqb j k ≡ u → i ≡ j
            go true true a b' = eqb-true i k a ∙ sym (eqb-true j k b')
            go true false a b' =
                absurd
                (elsewhere j (inside j q) (eqb-false j k b')
                (ap card (sym (filed_same j (eqb-false j k b'))) ∙ sym e ∙ rw (eqb-true i k a) filed_card))
            go false true a b' =
                absurd
                (elsewhere i (inside i p) (eqb-false i k a)
                (ap card (sym (filed_same i (eqb-false i k a))) ∙ e ∙ rw (eqb-true j k b') filed_card))
            go false false a b' =
                let x = filed_same i (eqb-false i k a) in
                let y = filed_same j (eqb-false j k b') in
                s i j (inside i p) (inside j q) (ap card (sym x) ∙ e ∙ ap card y) (λ z. m (ap card x ∙ z))
