-- Rooms by computing, with places that are numbers: 0 is empty, another number has itself modulo 10 for a card, is
-- stale below 20, and wins where it is not smaller.
-- card, stale, wins, filed; cut, first, held, lower, taken, full, none, twice, counted.
-- Assumes nothing.
use Rattle.std.specs.Prelude.{ℕ, ◌%◌, ◌≡◌, refl, Bool, false, cond, List, [], ◌∷◌, eqb, leb, ltb}
use Rattle.octets.specs.Same.{same_of}
use Rattle.cache_room.specs.Parts.{parts_of}
use Rattle.cache_room.specs.Room.{first_at, held_at, cards_once, count, free_at, taken_at, kept_in, filed_in}

abbrev card : ℕ → List ℕ
card x = cond (eqb x 0) [] (x % 10 ∷ [])

abbrev stale : ℕ → Bool
stale x = ltb x 20

abbrev wins : ℕ → ℕ → Bool
wins new held = leb held new

abbrev filed : ℕ → List ℕ → List ℕ
filed new l = filed_in card stale wins new l

-- two parts of three
cut : parts_of 3 2 (1 ∷ 2 ∷ 3 ∷ 4 ∷ 5 ∷ 6 ∷ []) ≡ (1 ∷ 2 ∷ 3 ∷ []) ∷ (4 ∷ 5 ∷ 6 ∷ []) ∷ []
unfolding parts_of
cut = refl

-- a new card goes to the first place that is empty
first : filed 41 (32 ∷ 0 ∷ 0 ∷ []) ≡ 32 ∷ 41 ∷ 0 ∷ []
unfolding filed_in taken_at kept_in held_at free_at first_at same_of
first = refl

-- one that is held to its own place, though an empty one comes before it
held : filed 41 (0 ∷ 32 ∷ 31 ∷ []) ≡ 0 ∷ 32 ∷ 41 ∷ []
unfolding filed_in taken_at kept_in held_at free_at first_at same_of
held = refl

-- a lower one leaves the room as it was, also where the one held is stale
lower : filed 1 (0 ∷ 11 ∷ []) ≡ 0 ∷ 11 ∷ []
unfolding filed_in taken_at kept_in held_at free_at first_at same_of
lower = refl

-- a stale place comes before a later empty one
taken : filed 41 (32 ∷ 13 ∷ 0 ∷ []) ≡ 32 ∷ 41 ∷ 0 ∷ []
unfolding filed_in taken_at kept_in held_at free_at first_at same_of
taken = refl

-- where there is no place nothing changes, and the place is the length
full : filed 41 (32 ∷ 33 ∷ []) ≡ 32 ∷ 33 ∷ []
unfolding filed_in taken_at kept_in held_at free_at first_at same_of
full = refl

none : taken_at card stale (1 ∷ []) (32 ∷ 33 ∷ []) ≡ 2
unfolding taken_at held_at free_at first_at same_of
none = refl

-- a card twice; two empty places are none
twice : cards_once card (31 ∷ 0 ∷ 0 ∷ 41 ∷ []) ≡ false
unfolding cards_once held_at first_at same_of
twice = refl

counted : count card (31 ∷ 0 ∷ 0 ∷ 42 ∷ []) ≡ 2
unfolding count same_of
counted = refl
