-- What one turn of each loop does, on plain values. Each law's premises are what the code knows there.
-- same_next, same_stop, same_end; put_next, put_end; number_room, number_less, number_next, number_end;
-- written, written_all, written_left, written_next, written_end.
-- Assumes nothing.
use Prim.Native.Nat.{ℕ, zero, suc, ◌+◌, ◌-◌, ◌*◌, ◌/◌, ◌%◌, ◌^◌, ◌≤◌, ◌<◌}
use native.Mathlib.Nat.{not-suc-le-zero, sub-zero, le_of_lt, le_antisymm, add-zero, sub_self, pow-le-pow_right, pow-suc, div-div-eq-div-mul}
use native.Mathlib.Numerals.{add-one}
use native.Mathlib.Omega.{arith}
use mathlib.Core.Path.{◌≡◌, sym, ap, subst, ◌∙◌}
use mathlib.Core.Bool.{true, false, cond}
use mathlib.Core.List.{List, ◌∷◌, ◌++◌, append_assoc}
use lib.Arith.{digits_lt}
use lib.Dec.{eqb, lit<}
use lib.ListN.{length, get_or, set, take, drop, drop_of_length-le, take-append-drop}
use lib.Seq.{drop-cons, take-suc, take_all, paste, paste-suc, take-length, append_snoc, set_at, length-take-le}
use borrow.Author.Tests.{eq-eqb, ne_eqb}
use Rattle.std.specs.Prelude.{Some}
use Rattle.octets.specs.LentLaws.{part_is}
use Rattle.octets.specs.Number.{value_of, octets_of, number_at}
use Rattle.octets.specs.NumberLaws.{value_snoc, octets_length, number_inside}
use Rattle.octets.specs.Same.{same_of}
use Rattle.octets.specs.Buffer.{put_in}
use Rattle.octets.specs.BufferLaws.{put_in_room}

-- ---- two lists are compared: the answer is that of the rest

module _ (a b : List ℕ) (q : length a ≡ length b) (i : ℕ) (p : same_of a b ≡ same_of (drop i a) (drop i b)) where
  step : i < length a → same_of a b ≡ cond (eqb (get_or a i 0) (get_or b i 0)) (same_of (drop (i + 1) a) (drop (i + 1) b)) false
  unfolding same_of
  step h =
      let g : i < length b = omega arith in
      p ∙ rw (add-one i, drop-cons a i 0 h, drop-cons b i 0 g)

  -- equal here
  pub same_next : i < length a → get_or a i 0 ≡ get_or b i 0 → same_of a b ≡ same_of (drop (i + 1) a) (drop (i + 1) b)
  same_next h e = step h ∙ rw (eq-eqb (get_or a i 0) (get_or b i 0) e)

  -- another here
  pub same_stop : i < length a → (get_or a i 0 ≡ get_or b i 0 → ⊥) → false ≡ same_of a b
  same_stop h e = sym (step h ∙ rw (ne_eqb (get_or a i 0) (get_or b i 0) e))

  -- at the end of both
  pub same_end : length a ≤ i → true ≡ same_of a b
  unfolding same_of
  same_end h =
      let g : length b ≤ i = omega arith in
      sym (p ∙ rw (drop_of_length-le a h, drop_of_length-le b g))

-- ---- octets are copied: i of them so far

module _ (out : List ℕ) (at : ℕ) (src : List ℕ) (l : at ≤ length out) (r : length src ≤ length out - at) (o : List ℕ) (i : ℕ) (p : o ≡ paste out at src i) where
  pub put_next : i < length src → set o (at + i) (get_or src i 0) ≡ paste out at src (i + 1)
  put_next h = rw (p, add-one i) (paste-suc out at src i 0 (omega arith) h)

  pub put_end : i ≤ length src → length src ≤ i → o ≡ put_in out at src
  put_end h g =
      p
      ∙ ap (λ (k : ℕ). paste out at src k) (le_antisymm h g)
      ∙ ap (λ (t : List ℕ). take at out ++ t ++ drop (at + length src) out) (take-length src)
      ∙ append_assoc (take at out) src (drop (at + length src) out)
      ∙ sym (put_in_room out at src (omega arith))

-- ---- a number is read: n is that of the first i octets

-- seven octets or fewer leave room for one more in 64 bits
pub number_room : (n i w : ℕ) → n < 256 ^ i → i < w → w ≤ 8 → n * 256 + 255 < 2 ^ 64
number_room n i w h l m =
    let k : i ≤ 7 = omega arith in
    let b : 256 ^ i ≤ 256 ^ 7 = pow-le-pow_right (lit< tt) k in
    omega arith

pub number_less : (n i x : ℕ) → n < 256 ^ i → x < 256 → n * 256 + x < 256 ^ (i + 1)
number_less n i x h l = subst (λ (b : ℕ). n * 256 + x < b) (sym (ap (λ (k : ℕ). 256 ^ k) (add-one i) ∙ pow-suc 256 i)) (digits_lt h l)

-- one more octet
pub number_next : (t : List ℕ) (n i : ℕ) → n ≡ value_of (take i t) → i < length t → n * 256 + get_or t i 0 ≡ value_of (take (i + 1) t)
number_next t n i p h =
    ap (λ (k : ℕ). k * 256 + get_or t i 0) p
    ∙ sym (ap (λ (k : ℕ). value_of (take k t)) (add-one i) ∙ ap value_of (take-suc t i 0 h) ∙ value_snoc (take i t) (get_or t i 0))

-- all of them
pub number_end : (s : List ℕ) (at w n i : ℕ) → w ≤ 8 → at ≤ length s → w ≤ length s - at
    → n ≡ value_of (take i (take (at + w - at) (drop at s))) → length (take (at + w - at) (drop at s)) ≤ i → Some n ≡ number_at s at w
number_end s at w n i m l r p h =
    ap Some (p ∙ ap value_of (take_all i (take (at + w - at) (drop at s)) h ∙ part_is at w s)) ∙ sym (number_inside s at w m (omega arith))

-- ---- a number is written, its last octet first: i octets are not written yet

-- a store at the last place of a front, before r
store : (out : List ℕ) (j v : ℕ) (r : List ℕ) → j < length out → set (take (suc j) out ++ r) j v ≡ take j out ++ (v ∷ r)
store out j v r h =
    ap (λ (t : List ℕ). set (t ++ r) j v) (take-suc out j 0 h)
    ∙ ap (λ (t : List ℕ). set t j v) (append_snoc (take j out) (get_or out j 0) r)
    ∙ set_at (take j out) (get_or out j 0) r v j (length-take-le j out (le_of_lt h))

module _ (out : List ℕ) (at w n : ℕ) where
  -- the buffer with all but the first i octets of n in place
  unfoldable pub written : ℕ → List ℕ
  written i = take (at + i) out ++ (octets_of (w - i) n ++ drop (at + w) out)

  -- at the start none is in place
  pub written_all : out ≡ written w
  unfolding octets_of written
  written_all = sym (rw (sub_self w) (take-append-drop (at + w) out))

  one_less : at + w ≤ length out → (i : ℕ) → 0 < i → i ≤ w → set (written i) (at + (i - 1)) (n / 256 ^ (w - i) % 256) ≡ written (i - 1)
  unfolding octets_of written
  one_less r zero h l = absurd (not-suc-le-zero h)
  one_less r (suc j) h l =
      let e : suc j - 1 ≡ j = omega arith in
      let f : at + suc j ≡ suc (at + j) = omega arith in
      let g : w - j ≡ suc (w - suc j) = omega arith in
      rw (e, f, g) (store out (at + j) (n / 256 ^ (w - suc j) % 256) (octets_of (w - suc j) n ++ drop (at + w) out) (omega arith))

  all_put : at + w ≤ length out → written 0 ≡ put_in out at (octets_of w n)
  unfolding written
  all_put r =
      let e : length (octets_of w n) ≡ w = octets_length w n in
      rw (add-zero at, sub-zero w) (sym (put_in_room out at (octets_of w n) (omega arith) ∙ rw e))

  module _ (l : at ≤ length out) (r : w ≤ length out - at) (o : List ℕ) (left i : ℕ) (m : i ≤ w) (q : left ≡ n / 256 ^ (w - i)) (p : o ≡ written i) where
    pub written_left : 0 < i → left / 256 ≡ n / 256 ^ (w - (i - 1))
    written_left h =
        let e : suc (w - i) ≡ w - (i - 1) = omega arith in
        ap (λ (k : ℕ). k / 256) q
        ∙ div-div-eq-div-mul n (256 ^ (w - i)) 256
        ∙ ap (λ (b : ℕ). n / b) (sym (pow-suc 256 (w - i)) ∙ ap (λ (k : ℕ). 256 ^ k) e)

    pub written_next : 0 < i → set o (at + (i - 1)) (left % 256) ≡ written (i - 1)
    written_next h = rw (p, q) (one_less (omega arith) i h m)

    pub written_end : i ≤ 0 → o ≡ put_in out at (octets_of w n)
    written_end h =
        let z : i ≡ 0 = omega arith in
        p ∙ rw z (all_put (omega arith))
