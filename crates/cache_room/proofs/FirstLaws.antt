-- Laws of the first place that passes a test, and of where a card is held.
-- first_le, first_passes, first_before, first_reaches, first_is, first_none, first_same; nth_any;
-- held_le, held_card, held_there, held_none.
-- The definitions are in Room. Assumes nothing.
use Prim.Native.Nat.{ℕ, zero, suc, ◌≤◌, ◌<◌, zero-le, suc-le-suc}
use Rattle.std.proofs.Common.{not-suc-le-zero, le_of_suc-le-suc, zero-lt-suc, arith, sym, ◌∙◌, ltb-true, ltb-false}
use Rattle.std.specs.Prelude.{◌≡◌, Bool, ltb, get_or}
use Rattle.std.proofs.Math.Path.{refl}
use Rattle.std.proofs.Math.Bool.{true, false, cond}
use mathlib.Core.List.{List, [], ◌∷◌}
use Rattle.std.proofs.Math.ListN.{length}
use Rattle.octets.specs.SameLaws.{impossible, same_true, same_refl}
use Rattle.cache_room.specs.Room.{first_at, has_card, held_at}

-- what stands inside does not depend on the default
pub nth_any : {A : Type 0} (l : List A) (i : ℕ) (d e : A) → i < length l → get_or l i d ≡ get_or l i e
nth_any [] i d e h = absurd (not-suc-le-zero h)
nth_any (x ∷ l) zero d e h = refl
nth_any (x ∷ l) (suc i) d e h = nth_any l i d e (le_of_suc-le-suc h)

module _ {A : Type 0} (p : A → Bool) where
  pub first_le : (l : List A) → first_at p l ≤ length l
  unfolding first_at
  first_le [] = zero-le
  first_le (x ∷ l) = go (p x) (first_le l)
    where
      go : (t : Bool) → first_at p l ≤ length l → cond t 0 (suc (first_at p l)) ≤ suc (length l)
      go true h = zero-le
      go false h = suc-le-suc h

  module _ (d : A) where
    -- it passes
    pub first_passes : (l : List A) → first_at p l < length l → p (get_or l (first_at p l) d) ≡ true
    unfolding first_at
    first_passes [] h = absurd (not-suc-le-zero h)
    first_passes (x ∷ l) h = go (p x) refl (λ k. first_passes l k) h
      where
        go : (t : Bool) → p x ≡ t → (first_at p l < length l → p (get_or l (first_at p l) d) ≡ true)
            → cond t 0 (suc (first_at p l)) < suc (length l) → p (get_or (x ∷ l) (cond t 0 (suc (first_at p l))) d) ≡ true
        go true e r h = e
        go false e r h = r (le_of_suc-le-suc h)

    -- none before it does
    pub first_before : (l : List A) (j : ℕ) → j < first_at p l → p (get_or l j d) ≡ false
    unfolding first_at
    first_before [] j h = absurd (not-suc-le-zero h)
    first_before (x ∷ l) j h = go (p x) refl (λ i k. first_before l i k) j h
      where
        go : (t : Bool) → p x ≡ t → ((i : ℕ) → i < first_at p l → p (get_or l i d) ≡ false)
            → (j : ℕ) → j < cond t 0 (suc (first_at p l)) → p (get_or (x ∷ l) j d) ≡ false
        go true e r j h = absurd (not-suc-le-zero h)
        go false e r zero h = e
        go false e r (suc j) h = r j (le_of_suc-le-suc h)

    -- it is no later than another that does
    pub first_reaches : (l : List A) (i : ℕ) → p (get_or l i d) ≡ true → first_at p l ≤ i
    first_reaches l i e = go (ltb i (first_at p l)) refl
      where
        go : (t : Bool) → ltb i (first_at p l) ≡ t → first_at p l ≤ i
        go true h = impossible (sym (first_before l i (ltb-true i (first_at p l) h)) ∙ e)
        go false h = ltb-false i (first_at p l) h

    -- the place that passes, where none before it does
    pub first_is : (l : List A) (i : ℕ) → i < length l → p (get_or l i d) ≡ true → ((j : ℕ) → j < i → p (get_or l j d) ≡ false) → first_at p l ≡ i
    first_is l i b e h = go (ltb (first_at p l) i) refl
      where
        go : (t : Bool) → ltb (first_at p l) i ≡ t → first_at p l ≡ i
        go true q =
            let k : first_at p l < i = ltb-true (first_at p l) i q in
            impossible (sym (h (first_at p l) k) ∙ first_passes l (omega arith))
        go false q = omega (arith, ltb-false (first_at p l) i q, first_reaches l i e)

    -- the length, where none does
    pub first_none : (l : List A) → ((j : ℕ) → j < length l → p (get_or l j d) ≡ false) → first_at p l ≡ length l
    first_none l h = go (ltb (first_at p l) (length l)) refl
      where
        go : (t : Bool) → ltb (first_at p l) (length l) ≡ t → first_at p l ≡ length l
        go true q =
            let k : first_at p l < length l = ltb-true (first_at p l) (length l) q in
            impossible (sym (h (first_at p l) k) ∙ first_passes l k)
        go false q = omega (arith, ltb-false (first_at p l) (length l) q, first_le l)

-- two tests that agree on each place
pub first_same : {A : Type 0} (p q : A → Bool) (d : A) (l : List A) → ((i : ℕ) → i < length l → p (get_or l i d) ≡ q (get_or l i d))
    → first_at p l ≡ first_at q l
unfolding first_at
first_same p q d [] h = refl
first_same p q d (x ∷ l) h = rw (h 0 (zero-lt-suc (length l)), first_same p q d l (λ i b. h (suc i) (suc-le-suc b)))

-- ---- a card

module _ {A : Type 0} (card : A → List ℕ) (c : List ℕ) where
  pub held_le : (l : List A) → held_at card c l ≤ length l
  unfolding held_at
  held_le l = first_le (has_card card c) l

  module _ (d : A) (l : List A) where
    -- the place where it is held has it
    pub held_card : held_at card c l < length l → card (get_or l (held_at card c l) d) ≡ c
    unfolding held_at
    held_card h = same_true (card (get_or l (held_at card c l) d)) c (first_passes (has_card card c) d l h)

    -- a place that has it: it is held, and not later
    pub held_there : (i : ℕ) → card (get_or l i d) ≡ c → held_at card c l ≤ i
    unfolding held_at
    held_there i e = first_reaches (has_card card c) d l i (rw e (same_refl c))

    -- no place has it
    pub held_none : ((i : ℕ) → i < length l → card (get_or l i d) ≡ c → ⊥) → held_at card c l ≡ length l
    held_none h = go (ltb (held_at card c l) (length l)) refl
      where
        go : (t : Bool) → ltb (held_at card c l) (length l) ≡ t → held_at card c l ≡ length l
        go true q =
            let k : held_at card c l < length l = ltb-true (held_at card c l) (length l) q in
            absurd (h (held_at card c l) k (held_card k))
        go false q = omega (arith, ltb-false (held_at card c l) (length l) q, held_le l)
