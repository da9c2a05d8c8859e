-- A room: a list of places, and a filing into it (document 02, C-11).
-- first_at; is_empty, has_card, held_at, again, cards_once, count; is_free, free_at, taken_at; winner, kept_in, filed_in.
-- A place has a card ([] where it is empty), may be stale, and may win over another of its card.
-- Their laws are in FirstLaws, SingleLaws, TakenLaws, FiledLaws, OtherLaws and CountLaws. Assumes nothing.
use Rattle.std.specs.Prelude.{ℕ, suc, Bool, true, false, cond, List, [], ◌∷◌, ltb, length, get_or, set}
use Rattle.octets.specs.Same.{same_of}

-- the first place that passes a test; the length where none does
unfoldable pub first_at : {A : Type 0} → (A → Bool) → List A → ℕ
first_at p [] = 0
first_at p (x ∷ l) = cond (p x) 0 (suc (first_at p l))

module _ {A : Type 0} (card : A → List ℕ) where
  -- a place is empty: it has no card
  abbrev pub is_empty : A → Bool
  is_empty x = same_of (card x) []

  -- a place has this card
  abbrev pub has_card : List ℕ → A → Bool
  has_card c x = same_of (card x) c

  -- where a card is held; the length where it is not
  unfoldable pub held_at : List ℕ → List A → ℕ
  held_at c l = first_at (has_card c) l

  -- a place's card stands in one of these places too
  abbrev pub again : A → List A → Bool
  again x l = cond (is_empty x) false (ltb (held_at (card x) l) (length l))

  -- no card stands in two places
  unfoldable pub cards_once : List A → Bool
  cards_once [] = true
  cards_once (x ∷ l) = cond (again x l) false (cards_once l)

  -- how many places are not empty
  unfoldable pub count : List A → ℕ
  count [] = 0
  count (x ∷ l) = cond (is_empty x) (count l) (suc (count l))

  module _ (stale : A → Bool) where
    -- a place may be taken: it is empty or stale
    abbrev pub is_free : A → Bool
    is_free x = cond (is_empty x) true (stale x)

    -- the first that may be taken; the length where there is none
    unfoldable pub free_at : List A → ℕ
    free_at l = first_at is_free l

    -- where a filing for a card goes: to the card's own place, else to the first that may be taken
    unfoldable pub taken_at : List ℕ → List A → ℕ
    taken_at c l = cond (ltb (held_at c l) (length l)) (held_at c l) (free_at l)

  module _ (wins : A → A → Bool) where
    -- of two places for one card
    abbrev pub winner : A → A → A
    winner new held = cond (wins new held) new held

    -- what the place holds afterwards: the winner where the card is held, else the new one
    unfoldable pub kept_in : A → List A → A
    kept_in new l = cond (ltb (held_at (card new) l) (length l)) (winner new (get_or l (held_at (card new) l) new)) new

  -- the room after a filing
  unfoldable pub filed_in : (A → Bool) → (A → A → Bool) → A → List A → List A
  filed_in stale wins new l = set l (taken_at stale (card new) l) (kept_in wins new l)
