-- The times of an entry against document 01's sentences 13 to 16.
-- missed_none, times_exactly; missed_13, missed_14, missed_15, missed_16.
-- The definition, missed, is in Order; freshness itself is a crate of its own. Assumes nothing.
use Rattle.std.specs.Prelude.{ℕ, ◌+◌, ◌≤◌, ◌<◌, ◌↔◌, ◌≡◌, refl, false, eqb, None}
use Rattle.std.proofs.Common.{arith, ⊎_elim, sym, ap}
use Rattle.std.proofs.Math.Option.{Option, none, some}
use Rattle.std.proofs.lemmas.Bool.{eqb-false}
use Rattle.layout.specs.Reading.{Entry}
use Rattle.freshness.specs.Fresh.{fresh_of, fresh_refusal}
use Rattle.freshness.specs.FreshLaws.{fresh_exactly, refusal_fresh, refusal_range, refusal_13, refusal_14, refusal_15, refusal_16}
use Rattle.rules.specs.declared.Question.{Question}
use Rattle.rules.specs.Order.{next_in, missed}

-- a part is present or absent
some_none : {X : Type 0} {n : ℕ} → some n ≡ none → X
some_none e = let z : ◌≡◌ {A = ℕ} 0 1 = cc in absurd (omega arith)

-- none of 13 to 16: nothing is missed
pub missed_none : (q : Question) (e : Entry) → eqb (missed q e) 13 ≡ false → eqb (missed q e) 14 ≡ false → eqb (missed q e) 15 ≡ false
    → eqb (missed q e) 16 ≡ false → missed q e ≡ 0
missed_none q e a b c d =
    ⊎_elim
    (λ (z : missed q e ≡ 0). z)
    (λ (h : (13 ≤ missed q e) × (missed q e ≤ 16)). absurd (omega (arith, eqb-false (missed q e) 13 a, eqb-false (missed q e) 14 b, eqb-false (missed q e) 15 c, eqb-false (missed q e) 16 d)))
    (refusal_range (fresh_of e.this_update (next_in e.next_update) q.now q.tolerance))

module _ (this now tolerance : ℕ) where
  -- it counts: there is a nextUpdate, not before thisUpdate, and now lies from thisUpdate to nextUpdate plus tolerance
  abbrev Counts : Option ℕ → Type 0
  Counts n = (next : ℕ) × (n ≡ some next) × (this ≤ next) × (this ≤ now) × (now ≤ next + tolerance)

  counts_exactly : (n : Option ℕ) → fresh_refusal (fresh_of this (next_in n) now tolerance) ≡ 0 ↔ Counts n
  counts_exactly none = (λ e. absurd (omega (arith, (refusal_13 this None now tolerance).1 refl)), λ h. some_none (sym h.1))
  counts_exactly (some n) = (
    λ e. let f = (fresh_exactly this n now tolerance).0 ((refusal_fresh _).0 e) in (n, refl, f.0, f.1, f.2),
    λ (next, p, a, b, d).
        let i : n ≡ next = cc in
        (refusal_fresh _).1 ((fresh_exactly this n now tolerance).1 (omega arith)),
  )

-- nothing is missed exactly when the entry counts now
pub times_exactly : (q : Question) (e : Entry)
    → missed q e ≡ 0 ↔ (next : ℕ) × (e.next_update ≡ some next) × (e.this_update ≤ next) × (e.this_update ≤ q.now) × (q.now ≤ next + q.tolerance)
times_exactly q e = counts_exactly e.this_update q.now q.tolerance e.next_update

-- ---- each sentence, where the earlier ones do not apply

-- 13: that entry has no nextUpdate
pub missed_13 : (q : Question) (e : Entry) → missed q e ≡ 13 ↔ e.next_update ≡ none
missed_13 q e = (λ r. absent e.next_update ((refusal_13 e.this_update (next_in e.next_update) q.now q.tolerance).0 r), λ p. (refusal_13 e.this_update (next_in e.next_update) q.now q.tolerance).1 (ap next_in p))
  where
    absent : (n : Option ℕ) → next_in n ≡ None → n ≡ none
    absent none p = refl
    absent (some n) p = let z : ◌≡◌ {A = ℕ} 0 1 = cc in absurd (omega arith)

module _ (q : Question) (e : Entry) (next : ℕ) (p : e.next_update ≡ some next) where
  -- 14: nextUpdate is before thisUpdate
  pub missed_14 : missed q e ≡ 14 ↔ next < e.this_update
  missed_14 = rw p (refusal_14 e.this_update next q.now q.tolerance)

  -- 15: thisUpdate is after now
  pub missed_15 : e.this_update ≤ next → missed q e ≡ 15 ↔ q.now < e.this_update
  missed_15 h =
      let r : missed q e ≡ 15 ↔ (e.this_update ≤ next) × (q.now < e.this_update) = rw p (refusal_15 e.this_update next q.now q.tolerance) in
      (λ m. (r.0 m).1, λ l. r.1 (h, l))

  -- 16: now is after nextUpdate plus tolerance
  pub missed_16 : e.this_update ≤ next → e.this_update ≤ q.now → missed q e ≡ 16 ↔ next + q.tolerance < q.now
  missed_16 h k =
      let r : missed q e ≡ 16 ↔ (e.this_update ≤ next) × (e.this_update ≤ q.now) × (next + q.tolerance < q.now) = rw p (refusal_16 e.this_update next q.now q.tolerance) in
      (λ m. (r.0 m).2, λ l. r.1 (h, k, l))
