-- A card's octets by computing: what is for it, and what is not.
-- Assumes nothing.
use Rattle.std.specs.Prelude.{ℕ, ◌≡◌, refl, true, false, List, [], ◌∷◌, ◌++◌, replicate}
use Rattle.octets.specs.Same.{same_of}
use Rattle.element.specs.Length.{length_form}
use Rattle.element.specs.Form.{form_of}
use Rattle.answer.specs.declared.Card.{Card}
use Rattle.rule_matching.specs.CertForm.{card_form, is_card_octets, is_card}

-- hashes all 11 and all 22, serial 05
abbrev card : Card
card = record { name = replicate 20 0x11; key = replicate 20 0x22; serial = 0x05 ∷ replicate 19 0; size = 1 }

-- 2B 0E 03 02 1A, under 06
abbrev oid : List ℕ
oid = 0x06 ∷ 0x05 ∷ 0x2b ∷ 0x0e ∷ 0x03 ∷ 0x02 ∷ 0x1a ∷ []

-- two strings of twenty octets, and then others
abbrev hashes : ℕ → ℕ → List ℕ → List ℕ
hashes x y rest = 0x04 ∷ 0x14 ∷ (replicate 20 x ++ (0x04 ∷ 0x14 ∷ (replicate 20 y ++ rest)))

-- SHA-1 without parameters, and with 05 00
plain : is_card card (0x30 ∷ 0x07 ∷ (oid ++ hashes 0x11 0x22 (0x02 ∷ 0x01 ∷ 0x05 ∷ []))) ≡ true
unfolding is_card_octets card_form form_of length_form same_of
plain = refl

null : is_card card (0x30 ∷ 0x09 ∷ (oid ++ (0x05 ∷ 0x00 ∷ hashes 0x11 0x22 (0x02 ∷ 0x01 ∷ 0x05 ∷ [])))) ≡ true
unfolding is_card_octets card_form form_of length_form same_of
null = refl

-- 05 01 00
other_parameters : is_card card (0x30 ∷ 0x0a ∷ (oid ++ (0x05 ∷ 0x01 ∷ 0x00 ∷ hashes 0x11 0x22 (0x02 ∷ 0x01 ∷ 0x05 ∷ [])))) ≡ false
unfolding is_card_octets card_form form_of length_form same_of
other_parameters = refl

-- the serial alone
serial_alone : is_card card (0x30 ∷ 0x07 ∷ (oid ++ hashes 0x33 0x44 (0x02 ∷ 0x01 ∷ 0x05 ∷ []))) ≡ false
unfolding is_card_octets card_form form_of length_form same_of
serial_alone = refl

-- the hashes in the other order
swapped : is_card card (0x30 ∷ 0x07 ∷ (oid ++ hashes 0x22 0x11 (0x02 ∷ 0x01 ∷ 0x05 ∷ []))) ≡ false
unfolding is_card_octets card_form form_of length_form same_of
swapped = refl

-- a serial that begins as the card's
longer : is_card card (0x30 ∷ 0x07 ∷ (oid ++ hashes 0x11 0x22 (0x02 ∷ 0x02 ∷ 0x05 ∷ 0x00 ∷ []))) ≡ false
unfolding is_card_octets card_form form_of length_form same_of
longer = refl
