-- Laws of fields: a field that is there, and one that is not.
-- field_there, field_short, field_length; value_there; card_there.
-- The definitions are in Field. Assumes nothing.
use Rattle.std.specs.Prelude.{ℕ, ◌+◌, ◌≤◌, ◌<◌, ◌≡◌, Bool, cond, List, take, drop, replicate}
use Rattle.std.proofs.Common.{arith, ap}
use Rattle.std.proofs.Math.Path.{refl}
use Rattle.std.proofs.Math.Bool.{true, false}
use Rattle.std.proofs.Math.ListN.{length, length-drop, length-replicate}
use Rattle.std.proofs.Math.Seq.{length-take-le}
use Rattle.octets.specs.Buffer.{room_for}
use Rattle.octets.specs.BufferLaws.{room_le, room_lt, room_true}
use Rattle.octets.specs.Number.{value_of}
use Rattle.octets.specs.NumberLaws.{number_inside}
use Rattle.fields.specs.Field.{field_at, known, value_at, card_in}

module _ (n : ℕ) (s : List ℕ) (at : ℕ) where
  pub field_there : at + n ≤ length s → field_at n s at ≡ take n (drop at s)
  unfolding field_at
  field_there h = rw (room_le (length s) at n h)

  pub field_short : length s < at + n → field_at n s at ≡ replicate n 0
  unfolding field_at
  field_short h = rw (room_lt (length s) at n h)

  -- a field has its width
  pub field_length : length (field_at n s at) ≡ n
  unfolding field_at
  field_length = go (room_for (length s) at n) refl
    where
      go : (b : Bool) → room_for (length s) at n ≡ b → length (cond b (take n (drop at s)) (replicate n 0)) ≡ n
      go true e =
          let r = room_true (length s) at n e in
          length-take-le n (drop at s) (omega (arith, length-drop at s))
      go false e = length-replicate n 0

-- the number of a field that is there
pub value_there : (s : List ℕ) (at w : ℕ) → w ≤ 8 → at + w ≤ length s → value_at s at w ≡ value_of (take w (drop at s))
unfolding value_at
value_there s at w h l = ap known (number_inside s at w h l)

-- the card of a part that is long enough
pub card_there : (n : ℕ) (s : List ℕ) → n + n + 21 ≤ length s
    → card_in n s ≡ record { name = take n s; key = take n (drop n s); serial = take 20 (drop (n + n + 1) s); size = value_of (take 1 (drop (n + n) s)) }
unfolding card_in
card_there n s h =
    rw (
      field_there n s 0 (omega arith),
      field_there n s n (omega arith),
      field_there 20 s (n + n + 1) (omega arith),
      value_there s (n + n) 1 (omega arith) (omega arith),
    )
