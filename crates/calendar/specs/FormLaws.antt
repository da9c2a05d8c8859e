-- The 15 octets of a moment, read and written.
-- Digits, pair_digits, pair_cases: two digits; ClockFits, clock_at_lem, clock_sound: seven pairs of them;
-- form_read: a real moment's octets read as its seconds; read_form: no other octets read as a number;
-- form_small: octets are below 256. Other crates need only TimeLaws.
-- Assumes nothing.
use Rattle.std.specs.Prelude.{ℕ, zero, suc, ◌+◌, ◌-◌, ◌*◌, ◌/◌, ◌%◌, ◌≤◌, ◌<◌, ◌≡◌, List, [], ◌∷◌, ◌++◌, Option, Some, None, ◌⊎◌, Bool, cond, ◌&&◌, eqb, length, get_or, drop}
use Rattle.std.proofs.Common.{arith, ap, ◌∙◌, ⊎_elim, drop_of_length-le, drop-cons}
use Rattle.std.proofs.Math.Path.{refl}
use Rattle.std.proofs.Math.Logic.{inl, inr}
use Rattle.std.proofs.Math.Bool.{true, false}
use Rattle.std.proofs.Math.Dec.{ltb}
use borrow.Author.Tests.{ltb-true, leb-true, eqb-true, lt-ltb, le-leb}
use Rattle.calendar.specs.DateLaws.{and_l, and_r, month_within}
use Rattle.calendar.specs.Time.{Moment, is_real, seconds_of, is_digit, pair_of, written, clock_of, pair_at, time_of, two_digits, moment_form}
use Rattle.calendar.specs.MomentLaws.{Real, real_facts, real_is}

-- two octets that are digits
abbrev pub Digits : ℕ → ℕ → Type 0
Digits a b = (48 ≤ a) × (a ≤ 57) × (48 ≤ b) × (b ≤ 57)

module _ (a b : ℕ) where
  -- digits write a number, and no others do
  pub pair_digits : Digits a b → pair_of a b ≡ (a - 48) * 10 + (b - 48)
  unfolding pair_of
  pair_digits (p, q, r, t) = simp (le-leb 48 a p, le-leb a 57 q, le-leb 48 b r, le-leb b 57 t)

  pub pair_cases : Digits a b ⊎ (pair_of a b ≡ 100)
  unfolding pair_of
  pair_cases = go (is_digit a && is_digit b) refl
    where
      go : (t : Bool) → is_digit a && is_digit b ≡ t → Digits a b ⊎ (cond t ((a - 48) * 10 + (b - 48)) 100 ≡ 100)
      go true e = inl (search (and_l, and_r, leb-true))
      go false e = inr refl

-- two digits of a number below 100 read as that number
pair_two : (n : ℕ) → n < 100 → pair_of (48 + n / 10 % 10) (48 + n % 10) ≡ n
pair_two n h = pair_digits (48 + n / 10 % 10) (48 + n % 10) (omega arith) ∙ omega arith

-- two octets that read as a number below 100 are its two digits
two_pair : (a b : ℕ) (r q : List ℕ) → pair_of a b < 100 → r ≡ q → a ∷ b ∷ r ≡ two_digits (pair_of a b) ++ q
two_pair a b r q h e =
    ⊎_elim
    (λ (d : Digits a b).
    let x : 48 + ((a - 48) * 10 + (b - 48)) / 10 % 10 ≡ a = omega arith in
    let y : 48 + ((a - 48) * 10 + (b - 48)) % 10 ≡ b = omega arith in
    rw (pair_digits a b d, x, y, e))
    (λ (n : pair_of a b ≡ 100). absurd (omega arith))
    (pair_cases a b)

-- what a list has at n places from place k on
abbrev spread : ℕ → ℕ → List ℕ → List ℕ
spread zero k s = []
spread (suc n) k s = get_or s k 0 ∷ spread n (suc k) s

spread_drop : (n k : ℕ) (s : List ℕ) → length s ≡ k + n → drop k s ≡ spread n k s
spread_drop zero k s e = drop_of_length-le s {i = k} (omega arith)
spread_drop (suc n) k s e = drop-cons s k 0 (omega arith) ∙ ap (λ (l : List ℕ). get_or s k 0 ∷ l) (spread_drop n (suc k) s (omega arith))

spread_all : (n : ℕ) (s : List ℕ) → length s ≡ n → s ≡ spread n 0 s
spread_all n s e = spread_drop n 0 s (omega arith)

-- a choice between a time and none that is a time
cond_at : (b : Bool) (t : Option ℕ) (n : ℕ) → cond b t None ≡ Some n → (b ≡ true) × (t ≡ Some n)
cond_at true t n e = (refl, e)
cond_at false t n e = (cc, cc)

module _ (c y mo d h mi se : ℕ) where
  -- the pairs of digits of a real moment
  abbrev pub ClockFits : Type 0
  ClockFits = (c < 100) × (y < 100) × Real (written c y mo d h mi se)

  -- they read as its seconds, and only they read as a number
  pub clock_at_lem : ClockFits → clock_of c y mo d h mi se ≡ Some (seconds_of (written c y mo d h mi se))
  unfolding clock_of
  clock_at_lem (p, q, r) = simp (lt-ltb c 100 p, lt-ltb y 100 q, real_is (written c y mo d h mi se) r)

  pub clock_sound : (n : ℕ) → clock_of c y mo d h mi se ≡ Some n → ClockFits × (seconds_of (written c y mo d h mi se) ≡ n)
  unfolding clock_of
  clock_sound n e =
      let f = cond_at (ltb c 100 && ltb y 100 && is_real (written c y mo d h mi se)) (Some (seconds_of (written c y mo d h mi se))) n e in
      let t = f.0 in
      ((ltb-true _ _ (search (and_l, and_r)), ltb-true _ _ (search (and_l, and_r)), real_facts _ (search (and_l, and_r))), cc)

-- the octets of a real moment read as its seconds
pub form_read : (m : Moment) → Real m → time_of (moment_form m) ≡ Some (seconds_of m)
unfolding time_of moment_form
form_read m r =
    let y : m.year / 100 * 100 + m.year % 100 ≡ m.year = omega arith in
    let long = month_within m.year (m.month - 1) (omega arith) in
    rw (
      pair_two (m.year / 100) (omega arith),
      pair_two (m.year % 100) (omega arith),
      pair_two m.month (omega arith),
      pair_two m.day (omega arith),
      pair_two m.hour (omega arith),
      pair_two m.minute (omega arith),
      pair_two m.second (omega arith),
    )
    (rw y at (clock_at_lem (m.year / 100) (m.year % 100) m.month m.day m.hour m.minute m.second (omega arith, omega arith, rw y r)))

-- octets whose pairs are those of a real moment are its octets
read_octets : (s : List ℕ) → length s ≡ 15 → get_or s 14 0 ≡ 90
    → ClockFits (pair_at s 0) (pair_at s 2) (pair_at s 4) (pair_at s 6) (pair_at s 8) (pair_at s 10) (pair_at s 12)
    → s ≡ moment_form (written (pair_at s 0) (pair_at s 2) (pair_at s 4) (pair_at s 6) (pair_at s 8) (pair_at s 10) (pair_at s 12))
unfolding moment_form
read_octets s len z (c, y, r) =
    let long = month_within (pair_at s 0 * 100 + pair_at s 2) (pair_at s 4 - 1) (omega arith) in
    let y₁ : (pair_at s 0 * 100 + pair_at s 2) / 100 ≡ pair_at s 0 = omega arith in
    let y₂ : (pair_at s 0 * 100 + pair_at s 2) % 100 ≡ pair_at s 2 = omega arith in
    rw (y₁, y₂)
    (spread_all 15 s len
    ∙ two_pair _ _ _ _ c
    (two_pair _ _ _ _ y
    (two_pair _ _ _ _ (omega arith)
    (two_pair _ _ _ _ (omega arith)
    (two_pair _ _ _ _ (omega arith)
    (two_pair _ _ _ _ (omega arith)
    (two_pair _ _ _ _ (omega arith) (rw z))))))))

-- octets that read as a number are those of a real moment with that many seconds
pub read_form : (s : List ℕ) (n : ℕ) → time_of s ≡ Some n → (m : Moment) × Real m × (s ≡ moment_form m) × (seconds_of m ≡ n)
unfolding time_of moment_form
read_form s n e =
    let f = cond_at (eqb (length s) 15 && eqb (get_or s 14 0) 90) _ n e in
    let t = f.0 in
    let len : length s ≡ 15 = eqb-true _ _ (search and_l) in
    let z : get_or s 14 0 ≡ 90 = eqb-true _ _ (search (and_l, and_r)) in
    let (p, d) = clock_sound _ _ _ _ _ _ _ n f.1 in
    (_, p.2, read_octets s len z p, d)

-- each element is below 256
abbrev pub Small : List ℕ → Type 0
Small [] = Unit {0}
Small (x ∷ s) = (x < 256) × Small s

pub small_at : (s : List ℕ) → Small s → (i : ℕ) → get_or s i 0 < 256
small_at [] o i = omega arith
small_at (x ∷ s) o zero = o.0
small_at (x ∷ s) o (suc i) = small_at s o.1 i

pub form_small : (m : Moment) → Small (moment_form m)
unfolding moment_form
form_small m = omega arith
