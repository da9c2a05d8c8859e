-- Serials and OIDs by computing: the cases of document 01, and what must be refused.
-- Assumes nothing.
use Rattle.std.specs.Prelude.{◌≡◌, refl, true, false, [], ◌∷◌, replicate}
use Rattle.std.specs.Int.Count.{count_leading_zeros}
use Rattle.octets.specs.Number.{value_of, octets_of}
use Rattle.content.specs.Oid.{oid_from, oid_ok}
use Rattle.content.specs.Serial.{lead_ok, serial_ok, serial_count, serial_form}

-- M9: 00 80 is a serial and stands for 128
m9_fits : serial_ok (0 ∷ 128 ∷ []) ≡ true
unfolding serial_ok lead_ok
m9_fits = refl

m9_number : value_of (0 ∷ 128 ∷ []) ≡ 128
unfolding value_of
m9_number = refl

m9_form : serial_form 128 ≡ 0 ∷ 128 ∷ []
unfolding serial_form serial_count octets_of count_leading_zeros
m9_form = refl

-- M9: 00 7F is refused
m9_refused : serial_ok (0 ∷ 127 ∷ []) ≡ false
unfolding serial_ok lead_ok
m9_refused = refl

-- 00 alone is 0
zero_fits : serial_ok (0 ∷ []) ≡ true
unfolding serial_ok lead_ok
zero_fits = refl

zero_form : serial_form 0 ≡ 0 ∷ []
unfolding serial_form serial_count octets_of count_leading_zeros
zero_form = refl

-- twenty octets are a serial, twenty_one are not, nor are none
twenty : serial_ok (1 ∷ replicate 19 255) ≡ true
unfolding serial_ok lead_ok
twenty = refl

twenty_one : serial_ok (1 ∷ replicate 20 255) ≡ false
unfolding serial_ok
twenty_one = refl

none : serial_ok [] ≡ false
unfolding serial_ok
none = refl

-- a first bit that is set
negative : serial_ok (128 ∷ []) ≡ false
unfolding serial_ok
negative = refl

-- the basic type
basic_type_lem : oid_ok (43 ∷ 6 ∷ 1 ∷ 5 ∷ 5 ∷ 7 ∷ 48 ∷ 1 ∷ 1 ∷ []) ≡ true
unfolding oid_ok oid_from
basic_type_lem = refl

-- 2B 80 01: a part begins with 80
begins_80 : oid_ok (43 ∷ 128 ∷ 1 ∷ []) ≡ false
unfolding oid_ok oid_from
begins_80 = refl

-- 2B 86: the last part does not end
no_end : oid_ok (43 ∷ 134 ∷ []) ≡ false
unfolding oid_ok oid_from
no_end = refl

-- 2B 86 80 01: an 80 inside a part
inside_80 : oid_ok (43 ∷ 134 ∷ 128 ∷ 1 ∷ []) ≡ true
unfolding oid_ok oid_from
inside_80 = refl

-- no content
empty : oid_ok [] ≡ false
unfolding oid_ok
empty = refl
