-- The card (document 01, "The question" and "Request and slip"): both hashes, and the serial in 20 octets.
-- empty_card; all_zero, serial_in, field_ok, card_ok; same_hashes, same_card. Their laws are in CardLaws.
-- A hash is a list of any length: only the type Card and empty_card have twenty octets.
-- Assumes nothing.
use Rattle.std.specs.Prelude.{ℕ, Bool, true, false, cond, List, [], ◌∷◌, eqb, leb, take, drop, replicate}
use Rattle.octets.specs.Same.{same_of}
use Rattle.content.specs.Serial.{serial_ok}
use Rattle.answer.specs.declared.Card.{Card}

-- the card that a refusal hands out: every octet zero, and a serial of no octets
unfoldable pub empty_card : Card
empty_card = record { name = replicate 20 0; key = replicate 20 0; serial = replicate 20 0; size = 0 }

-- each octet is zero
unfoldable pub all_zero : List ℕ → Bool
all_zero [] = true
all_zero (x ∷ s) = cond (eqb x 0) (all_zero s) false

-- a serial of size octets in a field filled up with zeros: at most 20 octets, by the serial rule, and the fill is zeros
unfoldable pub field_ok : ℕ → List ℕ → Bool
field_ok size field = cond (leb size 20) (cond (serial_ok (take size field)) (all_zero (drop size field)) false) false

-- the serial's own octets
abbrev pub serial_in : Card → List ℕ
serial_in card = take card.size card.serial

-- the card's serial keeps the serial rule and its fill is zeros
abbrev pub card_ok : Card → Bool
card_ok card = field_ok card.size card.serial

-- both hashes are equal
unfoldable pub same_hashes : List ℕ → List ℕ → List ℕ → List ℕ → Bool
same_hashes name key otherName otherKey = cond (same_of name otherName) (same_of key otherKey) false

-- both hashes are equal, and the serial, its field and its size
unfoldable pub same_card : Card → Card → Bool
same_card a b =
    cond (same_hashes a.name a.key b.name b.key)
    (cond (same_of a.serial b.serial) (eqb a.size b.size) false)
    false
