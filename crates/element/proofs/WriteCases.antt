-- The cases of the header's writers: what each return has learned of the length, the room and the tag.
-- one_octet_lem, count_few, count_fits, more_octets; no_place, no_room, room, in room_cases; no_such_tag, such_tag, in
-- tag_cases with the first four. With _in they are about the buffer, without about the answer.
-- Assumes nothing.
use Prim.Native.Nat.{ℕ, ◌+◌, ◌-◌, ◌^◌, ◌≤◌, ◌<◌}
use mathlib.Core.Path.{◌≡◌, sym, ap, ◌∙◌}
use mathlib.Core.List.{List, [], ◌∷◌}
use mathlib.Core.Bool.{Bool, true, false}
use native.Mathlib.Omega.{arith}
use lib.Bits.{bit_or, or_shifted}
use lib.ListN.{length}
use Rattle.std.specs.Prelude.{Result, Ok, Err}
use mir.Syntax.{w8}
use mir.Val.{Fits}
use Rattle.octets.specs.Buffer.{splice, put_in}
use Rattle.octets.specs.BufferLaws.{room_le, room_lt, splice_length, splice_splice, put_in_room, put_in_short}
use Rattle.octets.specs.Number.{octets_of}
use Rattle.octets.specs.NumberLaws.{octets_length}
use Rattle.element.specs.Tag.{tag_ok}
use Rattle.element.specs.Length.{length_count, length_form}
use Rattle.element.specs.LengthLaws.{length_short, length_long, count_least}
use Rattle.element.specs.Form.{head_form, head_size, room_answer, header_in, header_answer}
use Rattle.element.specs.FormLaws.{head_length}
use Rattle.element.specs.declared.Unformed.{Unformed}
use Rattle.element.specs.declared.Unformed.TheVariants.{Short, NoTag}

-- the length octets, by the first of them
pub one_octet_lem : (n : ℕ) → n < 128 → length_form n ≡ n ∷ octets_of 0 n
unfolding octets_of
one_octet_lem n l = length_short n l

module _ (n : ℕ) (l : 128 ≤ n) (f : n < 2 ^ 64) (k : ℕ) (q : k ≡ length_count n) where
  pub count_few : k ≤ 8
  count_few = rw q (count_least n (omega arith) f).most

  pub count_fits : Fits w8 k
  count_fits = record { fits = omega (arith, count_few) }

  pub more_octets : length_form n ≡ bit_or 128 k ∷ octets_of k n
  more_octets = rw (or_shifted 1 7 k (omega (arith, count_few)), q) (length_long n l)

-- a header of 2 + k octets, by the room for it
module _ (out : List ℕ) (at n b k : ℕ) (e : length_form n ≡ b ∷ octets_of k n) where
  size_of : (t : ℕ) → length (head_form t n) ≡ 2 + k
  size_of t = rw (e, octets_length k n) (omega arith)

  size_is : head_size n ≡ 2 + k
  size_is = sym (head_length 0 n) ∙ size_of 0

  too_few : length out < at + (2 + k) → Err Short ≡ room_answer (length out) at n
  unfolding room_answer
  too_few h = rw (size_is, room_lt (length out) at (2 + k) h)

  too_few_in : (t : ℕ) → length out < at + (2 + k) → out ≡ put_in out at (head_form t n)
  too_few_in t h = sym (put_in_short out at (head_form t n) (rw (size_of t) h))

  pub no_place : length out < at → Err Short ≡ room_answer (length out) at n
  no_place h = too_few (omega arith)

  pub no_place_in : (t : ℕ) → length out < at → out ≡ put_in out at (head_form t n)
  no_place_in t h = too_few_in t (omega arith)

  module _ (i : at ≤ length out) where
    pub no_room : length out - at < 2 + k → Err Short ≡ room_answer (length out) at n
    no_room h = too_few (omega arith)

    pub no_room_in : (t : ℕ) → length out - at < 2 + k → out ≡ put_in out at (head_form t n)
    no_room_in t h = too_few_in t (omega arith)

    pub room : 2 + k ≤ length out - at → Ok (at + (2 + k)) ≡ room_answer (length out) at n
    unfolding room_answer
    room h = rw (size_is, room_le (length out) at (2 + k) (omega arith))

    pub room_in : (t : ℕ) → 2 + k ≤ length out - at → put_in (put_in out at (t ∷ b ∷ [])) (at + 2) (octets_of k n) ≡ put_in out at (head_form t n)
    room_in t h =
        let a = t ∷ b ∷ [] in
        let o = put_in out at a in
        let so : o ≡ splice out at a = put_in_room out at a (omega arith) in
        let lo : length o ≡ length out = ap length so ∙ splice_length out at a (omega arith) in
        let lk = octets_length k n in
        let sp : put_in o (at + 2) (octets_of k n) ≡ splice o (at + 2) (octets_of k n) = put_in_room o (at + 2) (octets_of k n) (omega arith) in
        let two : splice o (at + 2) (octets_of k n) ≡ splice out at (head_form t n) = rw (so, e) (splice_splice out at a (octets_of k n) (omega arith)) in
        sp ∙ two ∙ sym (put_in_room out at (head_form t n) (rw (size_of t) (omega arith)))

pub ruleset room_cases = (no_place, no_place_in, no_room, no_room_in, room, room_in)

-- by the tag
module _ (t : ℕ) (r : Bool) (q : r ≡ tag_ok t) (out : List ℕ) (at n : ℕ) where
  pub no_such_tag : r ≡ false → Err NoTag ≡ header_answer (length out) at t n
  unfolding header_answer
  no_such_tag f = rw (← q, f)

  pub no_such_tag_in : r ≡ false → out ≡ header_in out at t n
  unfolding header_in
  no_such_tag_in f = rw (← q, f)

  pub such_tag : r ≡ true → (x : Result ℕ Unformed) → x ≡ room_answer (length out) at n → x ≡ header_answer (length out) at t n
  unfolding header_answer
  such_tag f x a = rw (← q, f) a

  pub such_tag_in : r ≡ true → (p : List ℕ) → p ≡ put_in out at (head_form t n) → p ≡ header_in out at t n
  unfolding header_in
  such_tag_in f p b = rw (← q, f) b

pub ruleset tag_cases = (one_octet_lem, count_few, count_fits, more_octets, no_such_tag, no_such_tag_in, such_tag, such_tag_in)
