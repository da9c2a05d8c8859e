-- What each test of the code for octets that are known to be a time leaves, as the contract asks it at that return.
-- pair_is; none_is, clock_is: seven pairs; plain_long, plain_is: the octets.
-- Assumes nothing.
use Prim.Native.Nat.{ℕ, ◌+◌, ◌-◌, ◌*◌, ◌≤◌, ◌<◌}
use native.Mathlib.Omega.{arith}
use mathlib.Core.Path.{◌≡◌, refl, ◌∙◌}
use mathlib.Core.List.{List}
use mathlib.Core.Bool.{Bool, true, false, cond}
use lib.Dec.{ltb}
use lib.ListN.{length}
use borrow.Author.Tests.{ltb-false, eq-eqb, ne_eqb}
use Rattle.calendar.specs.Split.{before}
use Rattle.calendar.specs.Date.{year_len, month_len}
use Rattle.calendar.specs.Plain.{raw_pair, raw_at, raw_day, plain_clock, plain_seconds}
use Rattle.calendar.specs.PlainLaws.{KnownPairs, clock_known}

pub pair_is : (a b : ℕ) → a < 256 → b < 256 → (a * 10 + b ≡ raw_pair a b) × (a * 10 + b ≤ 2805)
unfolding raw_pair
pair_is a b h k = (refl, omega arith)

-- a test that gives 0 is passed
past : (b : Bool) (n : ℕ) → (b ≡ false → 0 ≡ n) → 0 ≡ cond b 0 n
past true n h = refl
past false n h = h refl

module _ (c y mo d h mi se : ℕ) where
  pub none_is : (KnownPairs c y mo d h mi se → ⊥) → 0 ≡ plain_clock c y mo d h mi se
  unfolding plain_clock
  none_is n =
      past (ltb (c * 100 + y) 55298) _ (λ from.
      past (ltb 63327 (c * 100 + y)) _ (λ to.
      past (ltb mo 529) _ (λ first.
      past (ltb 540 mo) _ (λ last.
      past (ltb d 529) _ (λ begun.
      past (ltb (raw_day h mi se) 1933008) _ (λ time. absurd (n (omega (arith, ltb-false)))))))))

  pub clock_is : KnownPairs c y mo d h mi se → (p q : ℕ) → p ≡ before year_len (c * 100 + y - 53328 - 1970)
      → q ≡ before (month_len (c * 100 + y - 53328)) (mo - 528 - 1)
      → (p + q + (d - 529)) * 86400 + (raw_day h mi se - 1933008) ≡ plain_clock c y mo d h mi se
  clock_is k p q e f =
      let i : d - 528 - 1 ≡ d - 529 = omega arith in
      rw (clock_known c y mo d h mi se k, e, f, i)

module _ (s : List ℕ) where
  pub plain_long : (length s ≡ 15 → ⊥) → 0 ≡ plain_seconds s
  unfolding plain_seconds
  plain_long p = simp (ne_eqb (length s) 15 p)

  pub plain_is : length s ≡ 15 → (c y mo d h mi se r : ℕ) → r ≡ plain_clock c y mo d h mi se
      → c ≡ raw_at s 0 → y ≡ raw_at s 2 → mo ≡ raw_at s 4 → d ≡ raw_at s 6 → h ≡ raw_at s 8 → mi ≡ raw_at s 10 → se ≡ raw_at s 12
      → r ≡ plain_seconds s
  unfolding plain_seconds
  plain_is l c y mo d h mi se r e e₁ e₂ e₃ e₄ e₅ e₆ e₇ =
      simp (eq-eqb (length s) 15 l) (e ∙ rw (e₁, e₂, e₃, e₄, e₅, e₆, e₇))
