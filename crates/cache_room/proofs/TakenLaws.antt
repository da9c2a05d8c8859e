-- Laws of the place that a filing takes: the card's own, else the first that is empty or stale.
-- taken_held, taken_free, taken_fits; free_exactly, taken_first, taken_none.
-- The definitions are in Room. Assumes nothing.
use Rattle.std.specs.Prelude.{ℕ, ◌≤◌, ◌<◌, ◌⊎◌, ◌↔◌, ◌≡◌, refl, Bool, true, false, cond, List, [], length, get_or}
use Rattle.std.proofs.Common.{arith, inl, inr, ⊎_elim, sym, ◌∙◌, lt-ltb, le-ltb}
use Rattle.octets.specs.SameLaws.{impossible, same_true, same_false}
use Rattle.cache_room.specs.Room.{is_empty, held_at, is_free, free_at, taken_at}
use Rattle.cache_room.proofs.FirstLaws.{first_passes, first_before, first_reaches, first_none, held_there, held_none}

-- ---- which place

module _ {A : Type 0} (card : A → List ℕ) (stale : A → Bool) (c : List ℕ) (l : List A) where
  -- the card's own, where it is held
  pub taken_held : held_at card c l < length l → taken_at card stale c l ≡ held_at card c l
  unfolding taken_at
  taken_held h = rw (lt-ltb (held_at card c l) (length l) h)

  -- else the first that may be taken
  pub taken_free : length l ≤ held_at card c l → taken_at card stale c l ≡ free_at card stale l
  unfolding taken_at
  taken_free h = rw (le-ltb (held_at card c l) (length l) h)

  -- a card that is held has a place
  pub taken_fits : held_at card c l < length l → taken_at card stale c l < length l
  taken_fits h = rw (taken_held h) h

-- ---- the first that may be taken

module _ {A : Type 0} (card : A → List ℕ) (stale : A → Bool) where
  -- a place may be taken exactly if it is empty or stale
  pub free_exactly : (x : A) → is_free card stale x ≡ true ↔ (card x ≡ []) ⊎ (stale x ≡ true)
  free_exactly x = go (is_empty card x) refl
    where
      go : (t : Bool) → is_empty card x ≡ t → cond t true (stale x) ≡ true ↔ (card x ≡ []) ⊎ (stale x ≡ true)
      go true q = (λ e. inl (same_true (card x) [] q), λ h. refl)
      go false q = (λ e. inr e, ⊎_elim (λ z. absurd (same_false (card x) [] q z)) (λ z. z))

  free_not : (x : A) → ((card x ≡ []) ⊎ (stale x ≡ true) → ⊥) → is_free card stale x ≡ false
  free_not x h = go (is_free card stale x) refl
    where
      go : (t : Bool) → is_free card stale x ≡ t → is_free card stale x ≡ false
      go true q = absurd (h ((free_exactly x).0 q))
      go false q = q

  module _ (c : List ℕ) (d : A) (l : List A) where
    -- a card that is not held takes the first place that is empty or stale
    pub taken_first : length l ≤ held_at card c l → taken_at card stale c l < length l
        → ((card (get_or l (taken_at card stale c l) d) ≡ []) ⊎ (stale (get_or l (taken_at card stale c l) d) ≡ true))
        × ((j : ℕ) → j < taken_at card stale c l → (card (get_or l j d) ≡ []) ⊎ (stale (get_or l j d) ≡ true) → ⊥)
    unfolding free_at
    taken_first h b =
        let e = taken_free card stale c l h in
        rw e (
          (free_exactly (get_or l (free_at card stale l) d)).0 (first_passes (is_free card stale) d l (rw e at b)),
          λ j q z. impossible (sym (first_before (is_free card stale) d l j q) ∙ (free_exactly (get_or l j d)).1 z),
        )

    free_first : (j : ℕ) → is_free card stale (get_or l j d) ≡ true → free_at card stale l ≤ j
    unfolding free_at
    free_first j e = first_reaches (is_free card stale) d l j e

    free_none : ((j : ℕ) → j < length l → is_free card stale (get_or l j d) ≡ false) → free_at card stale l ≡ length l
    unfolding free_at
    free_none h = first_none (is_free card stale) d l h

    -- there is no place exactly if the card is not held and no place is empty or stale
    pub taken_none : length l ≤ taken_at card stale c l
        ↔ ((j : ℕ) → j < length l → card (get_or l j d) ≡ c → ⊥)
        × ((j : ℕ) → j < length l → (card (get_or l j d) ≡ []) ⊎ (stale (get_or l j d) ≡ true) → ⊥)
    taken_none = (λ h. (none h, full h), λ (m, n). back m n)
      where
        none : length l ≤ taken_at card stale c l → (j : ℕ) → j < length l → card (get_or l j d) ≡ c → ⊥
        none h j b e =
            let g = held_there card c d l j e in
            omega (arith, taken_fits card stale c l (omega arith))

        full : length l ≤ taken_at card stale c l → (j : ℕ) → j < length l → (card (get_or l j d) ≡ []) ⊎ (stale (get_or l j d) ≡ true) → ⊥
        full h j b z =
            let e = taken_free card stale c l (omega (arith, held_none card c d l (none h))) in
            omega (arith, free_first j ((free_exactly (get_or l j d)).1 z))

        back : ((j : ℕ) → j < length l → card (get_or l j d) ≡ c → ⊥)
            → ((j : ℕ) → j < length l → (card (get_or l j d) ≡ []) ⊎ (stale (get_or l j d) ≡ true) → ⊥)
            → length l ≤ taken_at card stale c l
        back m n =
            let e = taken_free card stale c l (omega (arith, held_none card c d l m)) in
            omega (arith, free_none (λ j b. free_not (get_or l j d) (n j b)))
