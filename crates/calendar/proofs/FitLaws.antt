-- What each test of the code leaves, as the contract asks it at that return.
-- pair_number, pair_none: two digits; none_fits, clock_fit: seven pairs of them; octets_unfit, octets_fit: the octets;
-- read_at, read_none: the octets, by whether they fit.
-- Assumes nothing.
use Prim.Native.Nat.{ℕ, ◌+◌, ◌-◌, ◌*◌, ◌≤◌, ◌<◌}
use native.Mathlib.Omega.{arith}
use mathlib.Core.Path.{◌≡◌, refl, sym, ap, ◌∙◌}
use mathlib.Core.Logic.{⊎_elim}
use mathlib.Core.List.{List}
use mathlib.Core.Bool.{Bool, true, false, cond, ◌&&◌}
use lib.Dec.{leb, eqb}
use lib.ListN.{length, get_or}
use borrow.Author.Tests.{leb-true, leb-false, eq-eqb, eqb-true}
use Rattle.std.specs.Prelude.{Option, Some, None}
use Rattle.calendar.specs.Date.{month_len}
use Rattle.calendar.specs.Time.{pair_of, clock_of, pair_at, time_of, is_time}
use Rattle.calendar.specs.FormLaws.{Digits, pair_digits, pair_cases, ClockFits, clock_at_lem, clock_sound}
use Rattle.calendar.specs.Plain.{plain_seconds}
use Rattle.calendar.specs.PlainLaws.{plain_time}

module _ (a b : ℕ) where
  pub pair_number : Digits a b → a * 10 + b - 528 ≡ pair_of a b
  pair_number d = omega (arith, pair_digits a b d)

  pub pair_none : (Digits a b → ⊥) → 100 ≡ pair_of a b
  pair_none h = ⊎_elim (λ (d : Digits a b). absurd (h d)) (λ (e : pair_of a b ≡ 100). sym e) (pair_cases a b)

module _ (c y mo d h mi se : ℕ) where
  pub none_fits : (ClockFits c y mo d h mi se → ⊥) → false ≡ is_time (clock_of c y mo d h mi se)
  unfolding is_time
  none_fits f = go (clock_of c y mo d h mi se) refl
    where
      go : (t : Option ℕ) → clock_of c y mo d h mi se ≡ t → false ≡ is_time t
      go (Some n) e = absurd (f (clock_sound c y mo d h mi se n e).0)
      go None e = refl

  -- where all but the day is tested, the day settles it
  pub clock_fit : c < 100 → y < 100 → 1970 ≤ c * 100 + y → (1 ≤ mo) × (mo ≤ 12) → 1 ≤ d → h < 24 → mi < 60 → se < 60
      → (b : Bool) → b ≡ leb d (month_len (c * 100 + y) (mo - 1)) → b ≡ is_time (clock_of c y mo d h mi se)
  unfolding is_time
  clock_fit hc hy past month day hour minute second true e =
      let w : d ≤ month_len (c * 100 + y) (mo - 1) = leb-true _ _ (sym e) in
      sym (ap is_time (clock_at_lem c y mo d h mi se (omega arith)))
  clock_fit hc hy past month day hour minute second false e =
      let w : month_len (c * 100 + y) (mo - 1) < d = leb-false _ _ (sym e) in
      none_fits (λ f. omega arith)

module _ (s : List ℕ) where
  -- another length, or another last octet
  pub octets_unfit : (length s ≡ 15 → get_or s 14 0 ≡ 90 → ⊥) → false ≡ is_time (time_of s)
  unfolding time_of is_time
  octets_unfit n = go (eqb (length s) 15) (eqb (get_or s 14 0) 90) _ refl refl
    where
      go : (a b : Bool) (t : Option ℕ) → eqb (length s) 15 ≡ a → eqb (get_or s 14 0) 90 ≡ b → false ≡ is_time (cond (a && b) t None)
      go true true t e f = absurd (n (eqb-true _ _ e) (eqb-true _ _ f))
      go true false t e f = refl
      go false b t e f = refl

  pub octets_fit : length s ≡ 15 → get_or s 14 0 ≡ 90 → (c y mo d h mi se : ℕ) (b : Bool) → b ≡ is_time (clock_of c y mo d h mi se)
      → c ≡ pair_at s 0 → y ≡ pair_at s 2 → mo ≡ pair_at s 4 → d ≡ pair_at s 6 → h ≡ pair_at s 8 → mi ≡ pair_at s 10 → se ≡ pair_at s 12
      → b ≡ is_time (time_of s)
  unfolding time_of
  octets_fit l z c y mo d h mi se b e e₁ e₂ e₃ e₄ e₅ e₆ e₇ =
      simp (eq-eqb (length s) 15 l, eq-eqb (get_or s 14 0) 90 z) (e ∙ rw (e₁, e₂, e₃, e₄, e₅, e₆, e₇))

  -- whether the octets fit settles what is read of them
  read_is : (t : Option ℕ) → time_of s ≡ t → (b : Bool) → b ≡ is_time t → cond b (Some (plain_seconds s)) None ≡ t
  unfolding is_time
  read_is (Some n) f b e = rw (e, plain_time s n f)
  read_is None f b e = rw e

  pub read_at : (b : Bool) → b ≡ is_time (time_of s) → b ≡ true → (n : ℕ) → n ≡ plain_seconds s → Some n ≡ time_of s
  read_at b e t n p = rw (p, ← read_is (time_of s) refl b e, t)

  pub read_none : (b : Bool) → b ≡ is_time (time_of s) → b ≡ false → None ≡ time_of s
  read_none b e t = rw (← read_is (time_of s) refl b e, t)
