-- Slips by computing: the case of document 01's program, one of each kind, and what must be refused.
-- slip_computes; card, refusal, good, revoked.
-- Assumes nothing.
use Rattle.std.specs.Prelude.{ℕ, ◌≡◌, refl, false, length, replicate, None, Some}
use mathlib.Core.List.{List, [], ◌∷◌, ◌++◌, flatten}
use Rattle.octets.specs.Number.{value_of, octets_of, number_at}
use Rattle.octets.specs.Same.{same_of}
use Rattle.octets.specs.Buffer.{room_for}
use Rattle.content.specs.Serial.{lead_ok, serial_ok}
use Rattle.answer.specs.declared.Card.{Card}
use Rattle.answer.specs.declared.Verdict.{Verdict}
use Rattle.answer.specs.declared.Verdict.TheVariants.{Good, Revoked, Unknown}
use Rattle.answer.specs.declared.Answer.{Answer}
use Rattle.answer.specs.Card.{empty_card, all_zero, field_ok, same_hashes, same_card}
use Rattle.answer.specs.Verdict.{saying, refused}
use Rattle.fields.specs.Field.{field_at, value_at, card_in}
use Rattle.slip.specs.Numbers.{total, numbers_form, numbers_in}
use Rattle.slip.specs.Rules.{times_ok, reason_fits, error_ok, status_fits, number_ok, verdict_ok}
use Rattle.slip.specs.Table.{reason_from, row_in, row_of, body_size}
use Rattle.slip.specs.Slip.{card_octets, body_of, slip_of, card_fits, slip_ok, verdict_in, card_under, parsed_as, parsed, read_of}

-- what a slip computes with: a proof that says `unfolding slip_computes` opens it
unfoldable pub slip_computes : Unit {0}
unfolding value_of octets_of number_at same_of room_for lead_ok serial_ok empty_card all_zero field_ok same_hashes same_card refused field_at value_at card_in total numbers_form numbers_in times_ok reason_fits error_ok status_fits number_ok verdict_ok reason_from row_in row_of card_octets body_of slip_of card_fits slip_ok body_size verdict_in card_under parsed_as parsed read_of flatten
slip_computes = tt

-- ---- 04 04 06: refusal 4 with status 6

refusal_written : slip_of (refused 4 6) ≡ 4 ∷ 4 ∷ 6 ∷ []
unfolding slip_computes
refusal_written = refl

refusal_read : read_of 20 (4 ∷ 4 ∷ 6 ∷ []) ≡ refused 4 6
unfolding slip_computes
refusal_read = refl

-- number 4 with status 0, a status 6 with another number, number 17, an octet more
no_status : read_of 20 (4 ∷ 4 ∷ 0 ∷ []) ≡ refused 17 0
unfolding slip_computes
no_status = refl

other_number : read_of 20 (4 ∷ 5 ∷ 6 ∷ []) ≡ refused 17 0
unfolding slip_computes
other_number = refl

seventeen : read_of 20 (4 ∷ 17 ∷ 0 ∷ []) ≡ refused 17 0
unfolding slip_computes
seventeen = refl

longer : read_of 20 (4 ∷ 4 ∷ 6 ∷ 0 ∷ []) ≡ refused 17 0
unfolding slip_computes
longer = refl

-- ---- hashes all 11 and all 22, serial 05, from 1,114,909,200 to 1,115,082,000

abbrev card : Card
card = record { name = replicate 20 0x11; key = replicate 20 0x22; serial = 5 ∷ replicate 19 0; size = 1 }

abbrev card_text : List ℕ
card_text = replicate 20 0x11 ++ replicate 20 0x22 ++ (1 ∷ 5 ∷ replicate 19 0)

abbrev times : List ℕ
times = 0 ∷ 0 ∷ 0 ∷ 0 ∷ 0x42 ∷ 0x74 ∷ 0x2a ∷ 0x10 ∷ 0 ∷ 0 ∷ 0 ∷ 0 ∷ 0x42 ∷ 0x76 ∷ 0xcd ∷ 0x10 ∷ []

abbrev said : Verdict → Answer
said v = saying v card

good_written : slip_of (said (Good 1114909200 1115082000)) ≡ 1 ∷ (card_text ++ times)
unfolding slip_computes
good_written = refl

good_read : read_of 20 (1 ∷ (card_text ++ times)) ≡ said (Good 1114909200 1115082000)
unfolding slip_computes
good_read = refl

unknown_read : read_of 20 (3 ∷ (card_text ++ times)) ≡ said (Unknown 1114909200 1115082000)
unfolding slip_computes
unknown_read = refl

-- revoked at 1, without a reason (FF), for reason 10, and for 7, which is none
revoked_written : slip_of (said (Revoked 1114909200 1115082000 1 None)) ≡ 2 ∷ (card_text ++ times ++ (0 ∷ 0 ∷ 0 ∷ 0 ∷ 0 ∷ 0 ∷ 0 ∷ 1 ∷ 0xff ∷ []))
unfolding slip_computes
revoked_written = refl

revoked_read : read_of 20 (2 ∷ (card_text ++ times ++ (0 ∷ 0 ∷ 0 ∷ 0 ∷ 0 ∷ 0 ∷ 0 ∷ 1 ∷ 0x0a ∷ []))) ≡ said (Revoked 1114909200 1115082000 1 (Some 10))
unfolding slip_computes
revoked_read = refl

seven_read : read_of 20 (2 ∷ (card_text ++ times ++ (0 ∷ 0 ∷ 0 ∷ 0 ∷ 0 ∷ 0 ∷ 0 ∷ 1 ∷ 7 ∷ []))) ≡ refused 17 0
unfolding slip_computes
seven_read = refl

-- thisUpdate after nextUpdate, and a time one too large
reversed : slip_ok (said (Good 1115082000 1114909200)) ≡ false
unfolding slip_computes
reversed = refl

too_late : slip_ok (said (Good 1114909200 253402300800)) ≡ false
unfolding slip_computes
too_late = refl

-- another kind, and no octet at all
other_kind : read_of 20 (5 ∷ []) ≡ refused 17 0
unfolding slip_computes
other_kind = refl

none : read_of 20 [] ≡ refused 17 0
unfolding slip_computes
none = refl

-- 78 octets, 87 and 3
good_size : length (slip_of (said (Good 1114909200 1115082000))) ≡ 78
unfolding slip_computes
good_size = refl

revoked_size : length (slip_of (said (Revoked 1114909200 1115082000 1 None))) ≡ 87
unfolding slip_computes
revoked_size = refl

refusal_size : length (slip_of (refused 4 6)) ≡ 3
unfolding slip_computes
refusal_size = refl
