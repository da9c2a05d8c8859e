-- What the writers at a place of a lent buffer answer, by document 01's numbers, and what they leave: the octets at their
-- place and the rest as it was; or a number, 18 where the buffer is too short, and the buffer as it was.
-- put_numbers, number_numbers, header_numbers. Requests and slips are in Buffers.
-- `written_told` and `formed_told` are document 01's number and values of what is answered (Numbers); `put_answer` and `put_in` are
-- what octets::put and put_number do (octets: Buffer), `header_answer` and `header_in` what element::put_header does (element: Form).
-- Assumes nothing.
use Rattle.std.specs.Prelude.{ℕ, ◌+◌, ◌≤◌, ◌<◌, ◌↔◌, ◌≡◌, refl, Bool, true, false, List, [], ◌∷◌, ◌++◌, ltb, length, take, drop, Ok, Err}
use native.Mathlib.Omega.{arith}
use Rattle.std.proofs.Common.{sym, ap, ◌∙◌, ltb-true, ltb-false}
use Rattle.octets.specs.SameLaws.{impossible}
use Rattle.octets.specs.Buffer.{put_in, put_answer}
use Rattle.octets.specs.BufferLaws.{put_in_room, put_in_short, put_answer_room, put_answer_short, room_le, room_lt}
use Rattle.octets.specs.Number.{octets_of}
use Rattle.octets.specs.NumberLaws.{octets_length}
use Rattle.element.specs.Tag.{tag_ok}
use Rattle.element.specs.Form.{head_form, head_size, room_answer, header_in, header_answer}
use Rattle.element.specs.declared.Unformed.TheVariants as unformed
use Rattle.promises.specs.Numbers.{Told, written_told, formed_told}

-- ── octets, numbers and headers at a place of a buffer ──

-- octets::put gives 18 exactly where they would end behind the buffer's end, and the buffer is as it was; else 0 and the
-- place after them, they stand at their place, and the rest is unchanged
pub put_numbers : (out new left : List ℕ) (at : ℕ) (told : Told)
    → told ≡ written_told (put_answer (length out) at (length new))
    → left ≡ put_in out at new
    → (told.number ≡ 18 ↔ length out < at + length new)
    × (told.number ≡ 0 ↔ at + length new ≤ length out)
    × (told.number ≡ 0 → (told.values ≡ (at + length new) ∷ []) × (left ≡ take at out ++ (new ++ drop (at + length new) out)))
    × ((told.number ≡ 0 → ⊥) → (told.values ≡ []) × (left ≡ out))
put_numbers out new left at told i j = go (ltb (length out) (at + length new)) refl
  where
    go : (b : Bool) → ltb (length out) (at + length new) ≡ b
        → (told.number ≡ 18 ↔ length out < at + length new)
        × (told.number ≡ 0 ↔ at + length new ≤ length out)
        × (told.number ≡ 0 → (told.values ≡ (at + length new) ∷ []) × (left ≡ take at out ++ (new ++ drop (at + length new) out)))
        × ((told.number ≡ 0 → ⊥) → (told.values ≡ []) × (left ≡ out))
    go true k =
        let h = ltb-true (length out) (at + length new) k in
        rw (i, j, put_answer_short (length out) at (length new) h, put_in_short out at new h) (
          (λ e. h, λ e. refl),
          (λ e. absurd (omega arith), λ e. absurd (omega arith)),
          λ e. absurd (omega arith),
          λ e. (refl, refl),
        )
    go false k =
        let h = ltb-false (length out) (at + length new) k in
        rw (i, j, put_answer_room (length out) at (length new) h, put_in_room out at new h) (
          (λ e. absurd (omega arith), λ e. absurd (omega arith)),
          (λ e. h, λ e. refl),
          λ e. (refl, refl),
          λ e. absurd (e refl),
        )

-- octets::put_number does so with the octets of a number, high octet first
pub number_numbers : (out left : List ℕ) (at width n : ℕ) (told : Told)
    → told ≡ written_told (put_answer (length out) at width)
    → left ≡ put_in out at (octets_of width n)
    → (told.number ≡ 18 ↔ length out < at + width)
    × (told.number ≡ 0 ↔ at + width ≤ length out)
    × (told.number ≡ 0 → (told.values ≡ (at + width) ∷ []) × (left ≡ take at out ++ (octets_of width n ++ drop (at + width) out)))
    × ((told.number ≡ 0 → ⊥) → (told.values ≡ []) × (left ≡ out))
number_numbers out left at width n told i j =
    rw (octets_length width n) at (put_numbers out (octets_of width n) left at told (i ∙ ap (λ (k : ℕ). written_told (put_answer (length out) at k)) (sym (octets_length width n))) j)

-- what is answered for a header, by its tag and its room
module _ (out : List ℕ) (at tag len : ℕ) where
  head_size_lem : head_size len ≡ length (head_form tag len)
  unfolding head_size
  head_size_lem = omega arith

  header_none : tag_ok tag ≡ false → (header_answer (length out) at tag len ≡ Err unformed.NoTag) × (header_in out at tag len ≡ out)
  unfolding header_answer header_in
  header_none p = rw p (refl, refl)

  header_short : tag_ok tag ≡ true → length out < at + length (head_form tag len) → (header_answer (length out) at tag len ≡ Err unformed.Short) × (header_in out at tag len ≡ out)
  unfolding header_answer header_in room_answer
  header_short p h = rw (p, head_size_lem, room_lt (length out) at (length (head_form tag len)) h) (refl, put_in_short out at (head_form tag len) h)

  header_room : tag_ok tag ≡ true → at + length (head_form tag len) ≤ length out
      → (header_answer (length out) at tag len ≡ Ok (at + length (head_form tag len)))
      × (header_in out at tag len ≡ take at out ++ (head_form tag len ++ drop (at + length (head_form tag len)) out))
  unfolding header_answer header_in room_answer
  header_room p h = rw (p, head_size_lem, room_le (length out) at (length (head_form tag len)) h) (refl, put_in_room out at (head_form tag len) h)

-- element::put_header gives 3 exactly where no element has such a tag, 18 exactly where one has and the header would end
-- behind the buffer's end, else 0 and the place after it; with 3 and with 18 the buffer is as it was
pub header_numbers : (out left : List ℕ) (at tag len : ℕ) (told : Told)
    → told ≡ formed_told (header_answer (length out) at tag len)
    → left ≡ header_in out at tag len
    → (told.number ≡ 3 ↔ tag_ok tag ≡ false)
    × (told.number ≡ 18 ↔ (tag_ok tag ≡ true) × (length out < at + length (head_form tag len)))
    × (told.number ≡ 0 ↔ (tag_ok tag ≡ true) × (at + length (head_form tag len) ≤ length out))
    × (told.number ≡ 0
    → (told.values ≡ (at + length (head_form tag len)) ∷ [])
    × (left ≡ take at out ++ (head_form tag len ++ drop (at + length (head_form tag len)) out)))
    × ((told.number ≡ 0 → ⊥) → (told.values ≡ []) × (left ≡ out))
header_numbers out left at tag len told i j = go (tag_ok tag) (ltb (length out) (at + length (head_form tag len))) refl refl
  where
    go : (t b : Bool) → tag_ok tag ≡ t → ltb (length out) (at + length (head_form tag len)) ≡ b
        → (told.number ≡ 3 ↔ tag_ok tag ≡ false)
        × (told.number ≡ 18 ↔ (tag_ok tag ≡ true) × (length out < at + length (head_form tag len)))
        × (told.number ≡ 0 ↔ (tag_ok tag ≡ true) × (at + length (head_form tag len) ≤ length out))
        × (told.number ≡ 0
        → (told.values ≡ (at + length (head_form tag len)) ∷ [])
        × (left ≡ take at out ++ (head_form tag len ++ drop (at + length (head_form tag len)) out)))
        × ((told.number ≡ 0 → ⊥) → (told.values ≡ []) × (left ≡ out))
    go false b p k =
        let (x, y) = header_none out at tag len p in
        rw (i, j, x, y, p) (
          (λ e. refl, λ e. refl),
          (λ e. absurd (omega arith), λ (e, h). impossible e),
          (λ e. absurd (omega arith), λ (e, h). impossible e),
          λ e. absurd (omega arith),
          λ e. (refl, refl),
        )
    go true true p k =
        let h = ltb-true (length out) (at + length (head_form tag len)) k in
        let (x, y) = header_short out at tag len p h in
        rw (i, j, x, y, p) (
          (λ e. absurd (omega arith), λ e. impossible (sym e)),
          (λ e. (refl, h), λ e. refl),
          (λ e. absurd (omega arith), λ (e, l). absurd (omega arith)),
          λ e. absurd (omega arith),
          λ e. (refl, refl),
        )
    go true false p k =
        let h = ltb-false (length out) (at + length (head_form tag len)) k in
        let (x, y) = header_room out at tag len p h in
        rw (i, j, x, y, p) (
          (λ e. absurd (omega arith), λ e. impossible (sym e)),
          (λ e. absurd (omega arith), λ (e, l). absurd (omega arith)),
          (λ e. (refl, h), λ e. refl),
          λ e. (refl, refl),
          λ e. absurd (e refl),
        )
