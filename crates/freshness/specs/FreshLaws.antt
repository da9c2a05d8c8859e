-- Laws of freshness: an answer counts exactly from thisUpdate to nextUpdate plus tolerance, and each refusal is
-- given exactly when its sentence applies and no earlier one does.
-- fresh_reversed, fresh_early, fresh_late, fresh_within; fresh_exactly; refusal_13, refusal_14, refusal_15,
-- refusal_16, refusal_fresh, refusal_range.
-- The definitions are in Fresh. Assumes nothing.
use Rattle.std.specs.Prelude.{ℕ, ◌+◌, ◌-◌, ◌≤◌, ◌<◌, ◌⊎◌, ◌↔◌, ◌≡◌, refl, Option, Some, None, Ok, Err, Bool, true, false, ltb}
use Rattle.std.proofs.Common.{arith, inl, inr, sym, ap}
use borrow.Author.Tests.{lt-ltb, le-ltb, ltb-true, ltb-false}
use Rattle.freshness.specs.declared.Missed.TheVariants.{Endless, Reversed, Early, Late}
use Rattle.freshness.specs.Fresh.{Freshness, fresh_of, fresh_refusal}

-- ---- each answer, where an entry has a nextUpdate

module _ (this next now tolerance : ℕ) where
  -- nextUpdate is before thisUpdate
  pub fresh_reversed : next < this → fresh_of this (Some next) now tolerance ≡ Err (Reversed (this - next))
  unfolding fresh_of
  fresh_reversed h = rw (lt-ltb next this h)

  -- thisUpdate is after now
  pub fresh_early : this ≤ next → now < this → fresh_of this (Some next) now tolerance ≡ Err (Early (this - now))
  unfolding fresh_of
  fresh_early a h = rw (le-ltb next this a, lt-ltb now this h)

  -- now is after nextUpdate plus tolerance
  pub fresh_late : this ≤ next → this ≤ now → next + tolerance < now → fresh_of this (Some next) now tolerance ≡ Err (Late (now - (next + tolerance)))
  unfolding fresh_of
  fresh_late a b h = rw (le-ltb next this a, le-ltb now this b, lt-ltb (next + tolerance) now h)

  -- none of the three
  pub fresh_within : this ≤ next → this ≤ now → now ≤ next + tolerance → fresh_of this (Some next) now tolerance ≡ Ok tt
  unfolding fresh_of
  fresh_within a b h = rw (le-ltb next this a, le-ltb now this b, le-ltb (next + tolerance) now h)

  -- ---- exactly when

  -- what a number r of an answer says
  abbrev Says : ℕ → Type 0
  Says r =
      (r ≡ 14 ↔ next < this)
      × (r ≡ 15 ↔ (this ≤ next) × (now < this))
      × (r ≡ 16 ↔ (this ≤ next) × (this ≤ now) × (next + tolerance < now))
      × (r ≡ 0 ↔ (this ≤ next) × (this ≤ now) × (now ≤ next + tolerance))
      × (r ≡ 13 → ⊥)

  says : (r : ℕ) → r ≡ fresh_refusal (fresh_of this (Some next) now tolerance) → Says r
  says r e = go (ltb next this) (ltb now this) (ltb (next + tolerance) now) refl refl refl
    where
      go : (t u v : Bool) → ltb next this ≡ t → ltb now this ≡ u → ltb (next + tolerance) now ≡ v → Says r
      go true u v p q w =
          let a = ltb-true next this p in
          omega (arith, ap fresh_refusal (fresh_reversed a))
      go false true v p q w =
          let a = ltb-false next this p in
          let b = ltb-true now this q in
          omega (arith, ap fresh_refusal (fresh_early a b))
      go false false true p q w =
          let a = ltb-false next this p in
          let b = ltb-false now this q in
          let d = ltb-true (next + tolerance) now w in
          omega (arith, ap fresh_refusal (fresh_late a b d))
      go false false false p q w =
          let a = ltb-false next this p in
          let b = ltb-false now this q in
          let d = ltb-false (next + tolerance) now w in
          omega (arith, ap fresh_refusal (fresh_within a b d))

  -- 14: nextUpdate is before thisUpdate
  pub refusal_14 : fresh_refusal (fresh_of this (Some next) now tolerance) ≡ 14 ↔ next < this
  refusal_14 = (says (fresh_refusal (fresh_of this (Some next) now tolerance)) refl).0

  -- 15: thisUpdate is after now, and not 14
  pub refusal_15 : fresh_refusal (fresh_of this (Some next) now tolerance) ≡ 15 ↔ (this ≤ next) × (now < this)
  refusal_15 = (says (fresh_refusal (fresh_of this (Some next) now tolerance)) refl).1

  -- 16: now is after nextUpdate plus tolerance, and neither 14 nor 15
  pub refusal_16 : fresh_refusal (fresh_of this (Some next) now tolerance) ≡ 16 ↔ (this ≤ next) × (this ≤ now) × (next + tolerance < now)
  refusal_16 = (says (fresh_refusal (fresh_of this (Some next) now tolerance)) refl).2

  -- none: it counts from thisUpdate to nextUpdate plus tolerance, both included
  pub fresh_exactly : fresh_of this (Some next) now tolerance ≡ Ok tt ↔ (this ≤ next) × (this ≤ now) × (now ≤ next + tolerance)
  fresh_exactly = (λ e. (says 0 (sym (ap fresh_refusal e))).3.0 refl, λ h. fresh_within h.0 h.1 h.2)

-- 13: there is no nextUpdate
pub refusal_13 : (this : ℕ) (n : Option ℕ) (now tolerance : ℕ) → fresh_refusal (fresh_of this n now tolerance) ≡ 13 ↔ n ≡ None
unfolding fresh_of
refusal_13 this None now tolerance = (λ e. refl, λ e. refl)
refusal_13 this (Some next) now tolerance = (
  λ e. absurd ((says this next now tolerance 13 (sym e)).4 refl),
  λ e. ap (λ (n : Option ℕ). fresh_refusal (fresh_of this n now tolerance)) e,
)

-- ---- the numbers

-- 0 is for what counts, and for nothing else
pub refusal_fresh : (f : Freshness) → fresh_refusal f ≡ 0 ↔ f ≡ Ok tt
refusal_fresh (Ok u) = (λ e. refl, λ e. refl)
refusal_fresh (Err Endless) = (λ e. absurd (omega arith), λ e. ap fresh_refusal e)
refusal_fresh (Err (Reversed n)) = (λ e. absurd (omega arith), λ e. ap fresh_refusal e)
refusal_fresh (Err (Early n)) = (λ e. absurd (omega arith), λ e. ap fresh_refusal e)
refusal_fresh (Err (Late n)) = (λ e. absurd (omega arith), λ e. ap fresh_refusal e)

-- the others are 13 to 16
pub refusal_range : (f : Freshness) → (fresh_refusal f ≡ 0) ⊎ ((13 ≤ fresh_refusal f) × (fresh_refusal f ≤ 16))
refusal_range (Ok u) = inl refl
refusal_range (Err Endless) = inr (omega arith)
refusal_range (Err (Reversed n)) = inr (omega arith)
refusal_range (Err (Early n)) = inr (omega arith)
refusal_range (Err (Late n)) = inr (omega arith)
