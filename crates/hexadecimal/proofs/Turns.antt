-- What one turn of the loop does, on plain values: the digits of i octets are in place. Then what each return knows.
-- hexed, hexed_none, hexed_next, hexed_end; hex_none, hex_kept, hex_size; line_none, line_kept, line_size, line_end.
-- Assumes nothing.
use Prim.Native.Nat.{ℕ, ◌+◌, ◌*◌, ◌/◌, ◌%◌, ◌≤◌, ◌<◌}
use native.Mathlib.Nat.{zero-add, le_antisymm}
use native.Mathlib.Numerals.{add-one}
use native.Mathlib.Omega.{arith}
use mathlib.Core.Path.{◌≡◌, refl, sym, ap, ap₂, ◌∙◌}
use mathlib.Core.List.{List, [], ◌∷◌, ◌++◌}
use lib.ListN.{length, get_or, set, take, drop}
use lib.Seq.{set_split, sets-eq, take_at, drop_at, drop-drop, take-suc, take-length, length-take-le}
use borrow.Author.Tests.{lt-ltb, le-ltb}
use Rattle.octets.specs.Buffer.{splice, put_in, put_size}
use Rattle.octets.specs.BufferLaws.{splice_splice, put_in_room, put_in_short, put_in_length}
use Rattle.hexadecimal.specs.Hex.{digit_of, hex_of, hex_line}
use Rattle.hexadecimal.specs.HexLaws.{hex_length, hex_append, line_length}

module _ (src out : List ℕ) where
  -- the buffer with the digits of the first i octets in place
  unfoldable pub hexed : ℕ → List ℕ
  hexed i = hex_of (take i src) ++ drop (i * 2) out

  pub hexed_none : out ≡ hexed 0
  unfolding hexed hex_of
  hexed_none = refl

  -- two stores in a row, after a front of k octets
  stored : (p r : List ℕ) (k a b : ℕ) → length p ≡ k → k + 2 ≤ length (p ++ drop k r)
      → set (set (p ++ drop k r) k a) (k + 1) b ≡ p ++ (a ∷ b ∷ []) ++ drop (k + 2) r
  stored p r k a b e h =
      ap (λ (j : ℕ). set (set (p ++ drop k r) k a) j b) (add-one k)
      ∙ sets-eq (a ∷ b ∷ []) (p ++ drop k r) k h
      ∙ ap₂
      (λ (u v : List ℕ). u ++ (a ∷ b ∷ []) ++ v)
      (take_at p (drop k r) k e)
      (sym (drop-drop 2 k (p ++ drop k r)) ∙ ap (drop 2) (drop_at p (drop k r) k e) ∙ drop-drop 2 k r)

  module _ (room : length src * 2 ≤ length out) (o : List ℕ) (i : ℕ) (n : length o ≡ length out) (x : o ≡ hexed i) where
    front : i ≤ length src → length (hex_of (take i src)) ≡ i * 2
    front h = hex_length (take i src) ∙ ap (λ (k : ℕ). k * 2) (length-take-le i src h)

    more : i < length src → hex_of (take (i + 1) src) ≡ hex_of (take i src) ++ (digit_of (get_or src i 0 / 16) ∷ digit_of (get_or src i 0 % 16) ∷ [])
    unfolding hex_of
    more h = ap (λ (k : ℕ). hex_of (take k src)) (add-one i) ∙ ap hex_of (take-suc src i 0 h) ∙ hex_append (take i src) (get_or src i 0 ∷ [])

    pub hexed_next : i < length src → (a : ℕ) → a ≡ digit_of (get_or src i 0 / 16) → (b : ℕ) → b ≡ digit_of (get_or src i 0 % 16)
        → set (set o (i * 2) a) (i * 2 + 1) b ≡ hexed (i + 1)
    unfolding hexed
    hexed_next h a p b q =
        let f : i * 2 + 2 ≤ length (hex_of (take i src) ++ drop (i * 2) out) = omega (arith, ap length x) in
        let k : (i + 1) * 2 ≡ i * 2 + 2 = omega arith in
        rw (x, k, more h, p, q) (stored (hex_of (take i src)) out (i * 2) (digit_of (get_or src i 0 / 16)) (digit_of (get_or src i 0 % 16)) (front (omega arith)) f)

    pub hexed_end : i ≤ length src → length src ≤ i → o ≡ put_in out 0 (hex_of src)
    unfolding hexed
    hexed_end h g =
        let e : i ≡ length src = le_antisymm h g in
        let k : length src * 2 ≡ 0 + length (hex_of src) = omega (arith, hex_length src) in
        x
        ∙ ap (λ (j : ℕ). hex_of (take j src) ++ drop (j * 2) out) e
        ∙ ap₂ (λ (u : List ℕ) (j : ℕ). hex_of u ++ drop j out) (take-length src) k
        ∙ sym (put_in_room out 0 (hex_of src) (omega arith))

-- no room
module _ (src out : List ℕ) where
  pub hex_none : length out < length src * 2 → 0 ≡ put_size out (hex_of src)
  hex_none h = rw (hex_length src, lt-ltb (length out) (length src * 2) h)

  pub hex_kept : length out < length src * 2 → out ≡ put_in out 0 (hex_of src)
  hex_kept h = sym (put_in_short out 0 (hex_of src) (omega (arith, hex_length src)))

  -- room
  pub hex_size : length src * 2 ≤ length out → length src * 2 ≡ put_size out (hex_of src)
  hex_size h = rw (hex_length src, le-ltb (length out) (length src * 2) h)

-- ---- a line

module _ (src out : List ℕ) where
  pub line_none : length out ≤ length src * 2 → 0 ≡ put_size out (hex_line src)
  line_none h = rw (lt-ltb (length out) (length (hex_line src)) (omega (arith, line_length src)))

  pub line_kept : length out ≤ length src * 2 → out ≡ put_in out 0 (hex_line src)
  line_kept h = sym (put_in_short out 0 (hex_line src) (omega (arith, line_length src)))

  module _ (room : length src * 2 < length out) where
    pub line_size : length src * 2 + 1 ≡ put_size out (hex_line src)
    line_size = rw (le-ltb (length out) (length (hex_line src)) (omega (arith, line_length src))) (sym (line_length src))

    module _ (o : List ℕ) (e : o ≡ put_in out 0 (hex_of src)) where
      line_room : length src * 2 < length o
      line_room = omega (arith, ap length e, put_in_length out 0 (hex_of src))

      -- a store is an octet put in
      pub line_end : set o (length src * 2) 10 ≡ put_in out 0 (hex_line src)
      unfolding hex_line
      line_end =
          let k : length src * 2 ≡ length (hex_of src) = sym (hex_length src) in
          let f : o ≡ splice out 0 (hex_of src) = e ∙ put_in_room out 0 (hex_of src) (omega arith) in
          set_split o (length src * 2) 10 line_room
          ∙ ap₂ (λ (u v : ℕ). take u o ++ (10 ∷ drop v o)) (k ∙ sym (zero-add (length (hex_of src)))) (sym (add-one (length src * 2)) ∙ ap (λ (j : ℕ). j + 1) (k ∙ sym (zero-add (length (hex_of src)))))
          ∙ ap (λ (t : List ℕ). splice t (0 + length (hex_of src)) (10 ∷ [])) f
          ∙ splice_splice out 0 (hex_of src) (10 ∷ []) (omega arith)
          ∙ sym (put_in_room out 0 (hex_line src) (omega (arith, line_length src)))
