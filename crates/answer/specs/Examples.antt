-- Cards by computing: the case of document 01's program, and what must be refused.
-- Assumes nothing.
use Rattle.std.specs.Prelude.{◌≡◌, refl, true, false, [], ◌∷◌, replicate}
use Rattle.octets.specs.Same.{same_of}
use Rattle.content.specs.Serial.{lead_ok, serial_ok}
use Rattle.answer.specs.declared.Card.{Card}
use Rattle.answer.specs.Card.{empty_card, all_zero, serial_in, field_ok, card_ok, same_hashes, same_card}

-- hashes all 11 and all 22, serial 05
abbrev case : Card
case = record { name = replicate 20 0x11; key = replicate 20 0x22; serial = 5 ∷ replicate 19 0; size = 1 }

case_fits : card_ok case ≡ true
unfolding field_ok serial_ok lead_ok all_zero
case_fits = refl

case_serial : serial_in case ≡ 5 ∷ []
case_serial = refl

-- an octet past the serial that is not zero
fill_broken : card_ok (record { name = case.name; key = case.key; serial = 5 ∷ 1 ∷ replicate 18 0; size = 1 }) ≡ false
unfolding field_ok serial_ok lead_ok all_zero
fill_broken = refl

-- a serial of twenty octets fills the field; a size of 21, or of none, is refused
twenty_fits : card_ok (record { name = case.name; key = case.key; serial = replicate 20 1; size = 20 }) ≡ true
unfolding field_ok serial_ok lead_ok all_zero
twenty_fits = refl

twenty_one : card_ok (record { name = case.name; key = case.key; serial = replicate 20 1; size = 21 }) ≡ false
unfolding field_ok
twenty_one = refl

empty_refused : card_ok empty_card ≡ false
unfolding empty_card field_ok serial_ok
empty_refused = refl

-- M9's 00 7F is no serial
lead_refused : card_ok (record { name = case.name; key = case.key; serial = 0 ∷ 0x7f ∷ replicate 18 0; size = 2 }) ≡ false
unfolding field_ok serial_ok lead_ok
lead_refused = refl

-- the same serial of another issuer is another card, and so is a serial with a zero more
other_issuer : same_card case (record { name = replicate 20 0x33; key = case.key; serial = case.serial; size = 1 }) ≡ false
unfolding same_card same_hashes same_of
other_issuer = refl

other_key : same_card case (record { name = case.name; key = replicate 20 0x33; serial = case.serial; size = 1 }) ≡ false
unfolding same_card same_hashes same_of
other_key = refl

zero_more : same_card case (record { name = case.name; key = case.key; serial = case.serial; size = 2 }) ≡ false
unfolding same_card same_hashes same_of
zero_more = refl
