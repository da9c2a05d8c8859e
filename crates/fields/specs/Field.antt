-- Fields of a fixed width (document 01, "Request and slip"): octets and numbers at a place, and the card.
-- field_at, known, value_at; card_in, card_fields. Their laws are in FieldLaws.
-- A hash has n octets; the code uses n at 20.
-- Assumes nothing.
use Rattle.std.specs.Prelude.{ℕ, ◌+◌, Option, Some, None, cond, List, [], ◌∷◌, length, take, drop, replicate}
use Rattle.octets.specs.Buffer.{room_for}
use Rattle.octets.specs.Number.{octets_of, number_at}
use Rattle.answer.specs.declared.Card.{Card}

-- the n octets at a place, or n zeros where they are not all there
unfoldable pub field_at : ℕ → List ℕ → ℕ → List ℕ
field_at n s at = cond (room_for (length s) at n) (take n (drop at s)) (replicate n 0)

-- a number that was looked for, 0 where it is not there
abbrev pub known : Option ℕ → ℕ
known (Some n) = n
known None = 0

-- the number of the w octets at a place, at most eight of them; 0 where they are not all there
unfoldable pub value_at : List ℕ → ℕ → ℕ → ℕ
value_at s at w = known (number_at s at w)

-- the card at the start of a part: both hashes, the serial's length, the serial in 20 octets
unfoldable pub card_in : ℕ → List ℕ → Card
card_in n s = record {
  name = field_at n s 0;
  key = field_at n s n;
  serial = field_at 20 s (n + n + 1);
  size = value_at s (n + n) 1;
}

-- the fields of a card, in order
abbrev pub card_fields : Card → List (List ℕ)
card_fields card = card.name ∷ card.key ∷ octets_of 1 card.size ∷ card.serial ∷ []
