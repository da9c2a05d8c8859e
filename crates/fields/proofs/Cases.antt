-- What the code knows at each return, and the contract there.
-- fields_whole; value_or; card_parts; room_refused, room_short, room_enough.
-- Assumes nothing.
use Prim.Native.Nat.{ℕ, ◌+◌, ◌-◌, ◌≤◌, ◌<◌}
use native.Mathlib.Nat.{zero-add}
use native.Mathlib.Omega.{arith}
use mathlib.Core.Path.{◌≡◌, refl, sym, ap, ◌∙◌}
use mathlib.Core.List.{List, ◌++◌, append-nil}
use lib.ListN.{length, take, drop, replicate, length-drop}
use lib.Seq.{length-take-le}
use Rattle.std.specs.Prelude.{Option, Some, None, unwrap_or}
use Rattle.octets.specs.Buffer.{put_in}
use Rattle.octets.specs.BufferLaws.{put_in_room}
use Rattle.octets.specs.Number.{number_at}
use Rattle.fields.specs.declared.Output.TheVariants.{Octets, Refused}
use Rattle.fields.specs.Field.{field_at, known, value_at, card_in}
use Rattle.fields.specs.FieldLaws.{field_there}
use Rattle.fields.specs.Output.{output_of}
use Rattle.fields.specs.OutputLaws.{output_refused, output_short, output_written}

-- ---- a hash

-- twenty octets put over twenty zeros
put_over : (x : List ℕ) → length x ≡ 20 → put_in (replicate 20 0) 0 x ≡ x
put_over x e =
    put_in_room (replicate 20 0) 0 x (omega arith)
    ∙ ap (λ (k : ℕ). x ++ drop k (replicate 20 0)) (zero-add (length x) ∙ e)
    ∙ append-nil x

pub fields_whole : (h : List ℕ) (s : List ℕ) (at : ℕ) → at ≤ length s → 20 ≤ length s - at
    → h ≡ put_in (replicate 20 0) 0 (take (at + 20 - at) (drop at s)) → h ≡ field_at 20 s at
fields_whole h s at l g e =
    let k : at + 20 - at ≡ 20 = omega arith in
    e
    ∙ ap (λ (n : ℕ). put_in (replicate 20 0) 0 (take n (drop at s))) k
    ∙ put_over (take 20 (drop at s)) (length-take-le 20 (drop at s) (omega (arith, length-drop at s)))
    ∙ sym (field_there 20 s at (omega arith))

-- ---- a number

pub value_or : (s : List ℕ) (at w : ℕ) → unwrap_or (number_at s at w) 0 ≡ value_at s at w
unfolding value_at
value_or s at w = go (number_at s at w)
  where
    go : (r : Option ℕ) → unwrap_or r 0 ≡ known r
    go (Some n) = refl
    go None = refl

-- ---- a card

pub card_parts : (s name key serial : List ℕ) (size : ℕ) → name ≡ field_at 20 s 0 → key ≡ field_at 20 s 20 → size ≡ value_at s 40 1
    → serial ≡ field_at 20 s 41 → record { name = name; key = key; serial = serial; size = size } ≡ card_in 20 s
unfolding card_in
card_parts s name key serial size a b c d = λ i. record { name = a i; key = b i; serial = d i; size = c i }

-- ---- a writer's answer

pub room_refused : (refusal size n : ℕ) → (refusal ≡ 0 → ⊥) → Refused refusal ≡ output_of refusal size n
room_refused refusal size n h = sym (output_refused refusal size n h)

pub room_short : (refusal size n : ℕ) → refusal ≡ 0 → size < n → Refused 18 ≡ output_of refusal size n
room_short refusal size n e h = sym (output_short size n h) ∙ ap (λ (k : ℕ). output_of k size n) (sym e)

pub room_enough : (refusal size n : ℕ) → refusal ≡ 0 → n ≤ size → Octets n ≡ output_of refusal size n
room_enough refusal size n e h = sym (output_written size n h) ∙ ap (λ (k : ℕ). output_of k size n) (sym e)
