-- Laws of serials: they are the numbers below 2 to the 159th.
-- count_is, count_of; serial_some, serial_most; serial_sound, serial_same, serial_complete.
-- The definitions are in Serial. Assumes nothing.
use Prim.Native.Nat.{ℕ, zero, suc, ◌+◌, ◌-◌, ◌*◌, ◌/◌, ◌%◌, ◌^◌, ◌≤◌, ◌<◌, zero-le, suc-le-suc}
use Rattle.std.proofs.Common.{le_of_suc-le-suc, mul-le-mul_left, mul-le-mul_right, pos_of_ne-zero, le-add_right, le-add_left, zero-lt-suc, not-le_of_lt, lt_of_not-le, lt_of_lt_of_le, lt_of_le_of_lt, le_trans, mod-eq_of_lt, div-lt_iff_lt-mul, le-div_iff_mul-le, sym, subst, ◌∙◌, lit<, lit≤, pow_mono}
use Rattle.std.proofs.Math.Nat.{pow-succ', pow-le-pow_right, mod-le}
use native.Mathlib.Omega.{arith}
use Rattle.std.specs.Prelude.{◌≡◌, Bool, List, [], ◌∷◌, eqb, length}
use Rattle.std.proofs.Math.Path.{refl, ap}
use Rattle.std.proofs.Math.Bool.{true, false, cond}
use Rattle.std.proofs.Math.Arith.{digits_lt}
use Rattle.std.specs.Int.Count.{count_leading_zeros}
use Rattle.std.proofs.lemmas.Nat.{leading_length}
use Rattle.std.proofs.Math.Dec.{leb, ltb}
use borrow.Author.Tests.{leb-true, ltb-true, eqb-true, eqb-false, le-leb, lt-ltb}
use Rattle.octets.specs.Octets.{Octets}
use Rattle.octets.specs.Number.{value_of, octets_of}
use Rattle.octets.specs.NumberLaws.{pow256, pow256_pos, value_bound, value_low, value_octets, octets_length, octets_octets, octets_value}
use Rattle.octets.specs.SameLaws.{impossible}
use Rattle.content.specs.Serial.{lead_ok, serial_ok, serial_count, serial_form}

-- ---- how many octets. The powers are kept out of reach of `omega`, which stops at large numbers

-- of two powers of two the smaller has the smaller exponent
below : (i j : ℕ) → 2 ^ i < 2 ^ j → i < j
below i j h = lt_of_not-le (λ (g : j ≤ i). not-le_of_lt h (pow_mono g))

half_lt : (n p : ℕ) → 2 * n < p → n < p
half_lt n p h = omega arith

odd_lt : (n p : ℕ) → n < p → 2 * n + 1 < 2 * p
odd_lt n p h = omega arith

module _ (n m : ℕ) (z : count_leading_zeros 160 n + m ≡ 160) (u : n < 2 ^ m) (l : 2 ^ m ≤ 2 * n + 1) where
  -- a number of m bits
  count_bits : serial_count n ≡ m / 8 + 1
  unfolding serial_count
  count_bits =
      let e : 160 - count_leading_zeros 160 n ≡ m = omega arith in
      rw e

  bits_is : (k : ℕ) → 256 ^ k ≤ 2 * n + 1 → 2 * n < 256 ^ suc k → serial_count n ≡ suc k
  bits_is k lo hi =
      let p : 8 * k < suc m = below (8 * k) (suc m) (omega (arith, pow256 k, pow-succ' 2 m)) in
      let q : m < 8 * suc k = below m (8 * suc k) (omega (arith, pow256 (suc k), pow-succ' 256 k)) in
      count_bits ∙ omega arith

  bits_of : m < 160 → (k : ℕ) × (k ≤ 19) × (serial_count n ≡ suc k) × (256 ^ k ≤ 2 * n + 1) × (2 * n < 256 ^ suc k)
  bits_of h =
      let a : 8 * (m / 8) ≤ m = omega arith in
      let b : suc m ≤ 8 * suc (m / 8) = omega arith in
      let lo : 2 ^ (8 * (m / 8)) ≤ 2 ^ m = pow_mono a in
      let hi : 2 ^ suc m ≤ 2 ^ (8 * suc (m / 8)) = pow_mono b in (
        m / 8,
        omega arith,
        count_bits ∙ omega arith,
        omega (arith, pow256 (m / 8)),
        omega (arith, pow256 (suc (m / 8)), pow-succ' 2 m),
      )

-- k + 1 octets, where twice the number and one needs k + 1 octets and no fewer
pub count_is : (n k : ℕ) → k ≤ 19 → 256 ^ k ≤ 2 * n + 1 → 2 * n < 256 ^ suc k → serial_count n ≡ suc k
count_is n k h lo hi =
    let t = leading_length 160 n (lt_of_lt_of_le (half_lt n (256 ^ suc k) hi) (pow-le-pow_right (lit< tt) {i = suc k} {j = 20} (suc-le-suc h))) in
    bits_is n t.0 t.1 t.2 t.3 k lo hi

-- every number below 2 to the 159th has such a k
pub count_of : (n : ℕ) → n < 2 ^ 159 → (k : ℕ) × (k ≤ 19) × (serial_count n ≡ suc k) × (256 ^ k ≤ 2 * n + 1) × (2 * n < 256 ^ suc k)
count_of n h =
    let t = leading_length 160 n (lt_of_lt_of_le h (pow_mono {i = 159} {j = 160} (lit≤ tt))) in
    bits_of n t.0 t.1 t.2 t.3 (below t.0 160 (lt_of_le_of_lt t.3 (odd_lt n (2 ^ 159) h)))

-- ---- a serial

module _ (x : ℕ) (s : List ℕ) where
  -- what the rule says of a serial's first octet and of those after it
  parts : serial_ok (x ∷ s) ≡ true → (length s ≤ 19) × (x < 128) × (lead_ok x s ≡ true)
  unfolding serial_ok
  parts e = go (leb (suc (length s)) 20) (ltb x 128) refl refl e
    where
      go : (t u : Bool) → leb (suc (length s)) 20 ≡ t → ltb x 128 ≡ u → cond t (cond u (lead_ok x s) false) false ≡ true
          → (length s ≤ 19) × (x < 128) × (lead_ok x s ≡ true)
      go true true p q e = (le_of_suc-le-suc (leb-true (suc (length s)) 20 p), ltb-true x 128 q, e)
      go true false p q e = impossible e
      go false u p q e = impossible e

  -- the first bit is clear
  first_clear : Octets s → x < 128 → value_of (x ∷ s) < 128 * 256 ^ length s
  unfolding value_of
  first_clear p h = digits_lt h (value_bound s p)

high_second : (n p v q : ℕ) → 128 * p ≤ v → v ≤ n → q ≡ 256 * p → q ≤ 2 * n + 1
high_second n p v q h l e = omega arith

less_odd : (n q : ℕ) → q ≤ n → q ≤ 2 * n + 1
less_odd n q h = omega arith

-- no fewer octets would do
lead_low : (x : ℕ) (s : List ℕ) → lead_ok x s ≡ true → 256 ^ length s ≤ 2 * value_of (x ∷ s) + 1
unfolding lead_ok value_of
lead_low x [] e = omega arith
lead_low x (y ∷ s) e = go (eqb x 0) refl e
  where
    go : (u : Bool) → eqb x 0 ≡ u → cond u (leb 128 y) true ≡ true → 256 ^ suc (length s) ≤ 2 * value_of (x ∷ y ∷ s) + 1
    go true z e =
        high_second
        (value_of (x ∷ y ∷ s))
        (256 ^ length s)
        (y * 256 ^ length s)
        (256 ^ suc (length s))
        (mul-le-mul_right (256 ^ length s) (leb-true 128 y e))
        (le_trans (le-add_right (y * 256 ^ length s) (value_of s)) (le-add_left (y * 256 ^ length s + value_of s) (x * 256 ^ suc (length s))))
        (pow-succ' 256 (length s))
    go false z e = less_odd (value_of (x ∷ y ∷ s)) (256 ^ suc (length s)) (value_low x (y ∷ s) (pos_of_ne-zero (eqb-false x 0 z)))

-- it has content
pub serial_some : (s : List ℕ) → serial_ok s ≡ true → 0 < length s
unfolding serial_ok
serial_some [] e = impossible e
serial_some (x ∷ s) e = zero-lt-suc (length s)

-- of at most 20 octets
pub serial_most : (s : List ℕ) → serial_ok s ≡ true → length s ≤ 20
serial_most [] e = zero-le
serial_most (x ∷ s) e = suc-le-suc (parts x s e).0

eight_less : (n p q : ℕ) → n < 128 * p → q ≡ 256 * p → 2 * n < q
eight_less n p q h e = omega arith

-- a serial stands for a number below 2 to the 159th and is that number's serial
pub serial_sound : (s : List ℕ) → Octets s → serial_ok s ≡ true → (value_of s < 2 ^ 159) × (s ≡ serial_form (value_of s))
unfolding serial_form serial_ok
serial_sound [] p e = impossible e
serial_sound (x ∷ s) p e =
    let f = parts x s e in
    let clear : value_of (x ∷ s) < 128 * 256 ^ length s = first_clear x s p.1 f.1 in (
      lt_of_lt_of_le clear (mul-le-mul_left 128 (pow-le-pow_right (lit< tt) {i = length s} {j = 19} f.0)),
      sym (octets_value (x ∷ s) p)
          ∙ ap
          (λ (c : ℕ). octets_of c (value_of (x ∷ s)))
          (sym (count_is (value_of (x ∷ s)) (length s) f.0 (lead_low x s f.2) (eight_less (value_of (x ∷ s)) (256 ^ length s) (256 ^ suc (length s)) clear (pow-succ' 256 (length s))))),
    )

-- two serials of one number are one
pub serial_same : (s t : List ℕ) → Octets s → Octets t → serial_ok s ≡ true → serial_ok t ≡ true → value_of s ≡ value_of t → s ≡ t
serial_same s t p q a b e = (serial_sound s p a).1 ∙ ap serial_form e ∙ sym (serial_sound t q b).1

-- ---- a number

module _ (n k : ℕ) (lo : 256 ^ k ≤ 2 * n + 1) (hi : 2 * n < 256 ^ suc k) where
  top : n / 256 ^ k < 128
  top = (div-lt_iff_lt-mul (pow256_pos k)).1 (omega (arith, pow-succ' 256 k))

-- the first octet of a number's serial
lead_form : (n k : ℕ) → 256 ^ k ≤ 2 * n + 1 → 2 * n < 256 ^ suc k → lead_ok (n / 256 ^ k % 256) (octets_of k n) ≡ true
unfolding lead_ok octets_of
lead_form n zero lo hi = refl
lead_form n (suc j) lo hi = go (eqb (n / 256 ^ suc j % 256) 0) refl
  where
    go : (u : Bool) → eqb (n / 256 ^ suc j % 256) 0 ≡ u → cond u (leb 128 (n / 256 ^ j % 256)) true ≡ true
    go false z = refl
    go true z =
        let t : n / 256 ^ suc j < 128 = top n (suc j) lo hi in
        let m : n / 256 ^ suc j % 256 ≡ n / 256 ^ suc j = mod-eq_of_lt (omega arith) in
        let z' : n / 256 ^ suc j % 256 ≡ 0 = eqb-true (n / 256 ^ suc j % 256) 0 z in
        let l : n < 1 * 256 ^ suc j = (div-lt_iff_lt-mul (pow256_pos (suc j))).0 (omega arith) in
        let p : 256 ^ suc j ≡ 256 * 256 ^ j = pow-succ' 256 j in
        let y : n / 256 ^ j < 256 = (div-lt_iff_lt-mul (pow256_pos j)).1 (omega arith) in
        let w : 128 ≤ n / 256 ^ j = (le-div_iff_mul-le (pow256_pos j)).1 (omega arith) in
        le-leb 128 (n / 256 ^ j % 256) (subst (λ (v : ℕ). 128 ≤ v) (sym (mod-eq_of_lt y)) w)

form_fits : (n k : ℕ) → k ≤ 19 → 256 ^ k ≤ 2 * n + 1 → 2 * n < 256 ^ suc k → serial_ok (octets_of (suc k) n) ≡ true
unfolding serial_ok octets_of
form_fits n k h lo hi =
    let f : leb (suc (length (octets_of k n))) 20 ≡ true = le-leb (suc (length (octets_of k n))) 20 (omega (arith, octets_length k n)) in
    let x : n / 256 ^ k % 256 < 128 = lt_of_le_of_lt (mod-le (n / 256 ^ k) 256) (top n k lo hi) in
    rw (f, lt-ltb (n / 256 ^ k % 256) 128 x) (lead_form n k lo hi)

module _ (n k : ℕ) (h : k ≤ 19) (e : serial_count n ≡ suc k) (lo : 256 ^ k ≤ 2 * n + 1) (hi : 2 * n < 256 ^ suc k) where
  complete_at : (serial_ok (serial_form n) ≡ true) × (value_of (serial_form n) ≡ n) × Octets (serial_form n)
  unfolding serial_form
  complete_at = (
    ap (λ (c : ℕ). serial_ok (octets_of c n)) e ∙ form_fits n k h lo hi,
    ap (λ (c : ℕ). value_of (octets_of c n)) e ∙ value_octets (suc k) n (half_lt n (256 ^ suc k) hi),
    octets_octets (serial_count n) n,
  )

-- a number below 2 to the 159th has a serial, and that serial stands for it
pub serial_complete : (n : ℕ) → n < 2 ^ 159 → (serial_ok (serial_form n) ≡ true) × (value_of (serial_form n) ≡ n) × Octets (serial_form n)
serial_complete n h =
    let t = count_of n h in
    complete_at n t.0 t.1 t.2 t.3 t.4
