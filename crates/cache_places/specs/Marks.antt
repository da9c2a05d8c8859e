-- Marks of cards: a number for each card, and a table of the numbers that were met.
-- mark_of, Marked, lone_of.
-- Assumes nothing.
use Rattle.std.specs.Prelude.{ℕ, ◌%◌, ◌<◌, ◌≡◌, Bool, true, cond, List, [], leb, length, get_or, take}
use Rattle.std.specs.Int.Bits.{bit_xor}
use Rattle.fields.specs.Field.{value_at}
use Rattle.cache_room.specs.Room.{is_empty, held_at}
use Rattle.cache_rules.specs.Place.{card_at}

-- made of the serial's field, its first eight octets, the next eight and the last four, and of the first eight octets of the
-- issuer's name hash
unfoldable pub mark_of : List ℕ → ℕ
mark_of c = bit_xor (bit_xor (bit_xor (value_at c 41 8) (value_at c 49 8)) (value_at c 57 4)) (value_at c 0 8) % 1021

-- the mark of each card in the first i places is in the table
pub record Marked (l : List (List ℕ)) (i : ℕ) (marks : List ℕ) : Type 0 where
  pub size : length marks ≡ 1021
  pub met : (j : ℕ) → j < i → (card_at (get_or l j []) ≡ [] → ⊥) → get_or marks (mark_of (card_at (get_or l j []))) 0 ≡ 1

-- the card of place i, if it has one, is in none of the places before it
unfoldable pub lone_of : List (List ℕ) → ℕ → Bool
lone_of l i = cond (is_empty card_at (get_or l i [])) true (leb i (held_at card_at (card_at (get_or l i [])) (take i l)))
