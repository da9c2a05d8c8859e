-- A request by computing: sample A.1 of source document 000, whole, and M12; the shortest and the longest.
-- Assumes nothing.
use Rattle.std.specs.Prelude.{ℕ, ◌≡◌, refl, List, [], ◌∷◌, ◌++◌, length, take, replicate}
use Rattle.element.specs.Length.{length_form}
use Rattle.element.specs.Form.{form_of}
use Rattle.content.specs.Serial.{lead_ok, serial_ok}
use Rattle.answer.specs.Card.{all_zero, field_ok}
use Rattle.answer.specs.declared.Card.{Card}
use Rattle.rule_matching.specs.CertForm.{card_form}
use Rattle.request.specs.Request.{request_form, request_of, request_refusal}

-- A.1's hash of the issuer's name, hash of its key, and serial
abbrev name : List ℕ
name =
    0xc0 ∷ 0xfe ∷ 0x02 ∷ 0x78 ∷ 0xfc ∷ 0x99 ∷ 0x18 ∷ 0x88 ∷ 0x91 ∷ 0xb3 ∷ 0xf2 ∷ 0x12 ∷ 0xe9 ∷ 0xc7 ∷ 0xe1 ∷ 0xb2
    ∷ 0x1a ∷ 0xb7 ∷ 0xbf ∷ 0xc0 ∷ []

abbrev key : List ℕ
key =
    0x0d ∷ 0xfc ∷ 0x1d ∷ 0xf0 ∷ 0xa9 ∷ 0xe0 ∷ 0xf0 ∷ 0x1c ∷ 0xe7 ∷ 0xf2 ∷ 0xb2 ∷ 0x13 ∷ 0x17 ∷ 0x7e ∷ 0x6f ∷ 0x8d
    ∷ 0x15 ∷ 0x7c ∷ 0xd4 ∷ 0xf6 ∷ []

abbrev serial : List ℕ
serial = 0x09 ∷ 0x34 ∷ 0x23 ∷ 0x72 ∷ 0xe2 ∷ 0x3a ∷ 0xef ∷ 0x46 ∷ 0x7c ∷ 0x83 ∷ 0x2d ∷ 0x07 ∷ 0xf8 ∷ 0xdc ∷ 0x22 ∷ 0xba ∷ []

abbrev card : Card
card = record { name = name; key = key; serial = serial ++ replicate 4 0; size = 16 }

-- M12: 83 octets, which begin as it says
whole : request_of card
    ≡ 0x30 ∷ 0x51 ∷ 0x30 ∷ 0x4f ∷ 0x30 ∷ 0x4d ∷ 0x30 ∷ 0x4b ∷ 0x30 ∷ 0x49
    ∷ 0x30 ∷ 0x09 ∷ 0x06 ∷ 0x05 ∷ 0x2b ∷ 0x0e ∷ 0x03 ∷ 0x02 ∷ 0x1a ∷ 0x05 ∷ 0x00
    ∷ 0x04 ∷ 0x14 ∷ (name ++ (0x04 ∷ 0x14 ∷ (key ++ (0x02 ∷ 0x10 ∷ serial))))
unfolding request_form card_form form_of length_form
whole = refl

begins : take 10 (request_of card) ≡ 0x30 ∷ 0x51 ∷ 0x30 ∷ 0x4f ∷ 0x30 ∷ 0x4d ∷ 0x30 ∷ 0x4b ∷ 0x30 ∷ 0x49 ∷ []
unfolding request_form card_form form_of length_form
begins = refl

long : length (request_of card) ≡ 83
unfolding request_form card_form form_of length_form
long = refl

fits : request_refusal card ≡ 0
unfolding field_ok serial_ok lead_ok all_zero
fits = refl

-- a serial of one octet, and of twenty
shortest : length (request_of (record { name = name; key = key; serial = 5 ∷ replicate 19 0; size = 1 })) ≡ 68
unfolding request_form card_form form_of length_form
shortest = refl

longest : length (request_of (record { name = name; key = key; serial = replicate 20 1; size = 20 })) ≡ 87
unfolding request_form card_form form_of length_form
longest = refl

-- 00 7F is no serial
refused : request_refusal (record { name = name; key = key; serial = 0 ∷ 0x7f ∷ replicate 18 0; size = 2 }) ≡ 1
unfolding field_ok serial_ok lead_ok
refused = refl
