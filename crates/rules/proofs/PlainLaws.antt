-- The rows of the table in plain terms: the test of a row applies exactly when the row's condition holds, of what the
-- response reads as and of the only entry for the card.
-- apart; response_row, entry_row; unfit_row, failed_row, other_row, marks_missing, strange_found, none_row, more_row; times_13 to
-- times_16.
-- That no test applies exactly when a response is accepted is in ClearLaws. The definitions are in Order, Accepted and
-- OneCard.
-- Assumes nothing.
use Rattle.std.specs.Prelude.{ℕ, ◌+◌, ◌≤◌, ◌<◌, ◌↔◌, ◌≡◌, Bool, true, false, cond, ◌&&◌, not, eqb}
use Rattle.std.proofs.Common.{arith, sym, ap, ◌∙◌, eqb-true, eq-eqb}
use Rattle.std.proofs.Math.Path.{refl}
use mathlib.Core.List.{List, [], ◌∷◌, Memᴰ}
use Rattle.std.proofs.Math.Option.{Option, none, some}
use Rattle.octets.specs.SameLaws.{impossible}
use Rattle.layout.specs.Reading.{Extension, Entry, Basic, failed, basic}
use Rattle.layout.specs.Read.{Outcome, reads, other_type, unfit}
use Rattle.layout.proofs.Read.{reading}
use Rattle.freshness.specs.FreshLaws.{refusal_15, refusal_16}
use Rattle.rules.specs.declared.Question.{Question}
use Rattle.rules.specs.Signer.{strange, strange_in}
use Rattle.rules.specs.Order.{is_unfit, is_failed, is_other, in_basic, entries_for, of_only, is_none, are_more, lacks_mark, missed, of_response, of_entry}
use Rattle.rules.specs.Ruling.{case_of}
use Rattle.rules.specs.Accepted.{NotUnderstood}
use Rattle.rules.proofs.AcceptedLaws.{both, marks_exactly, strange_exactly}
use Rattle.rules.specs.OneCard.{OnlyEntry}
use Rattle.rules.proofs.EntriesLaws.{only_exactly}
use Rattle.rules.proofs.TimesLaws.{missed_13, missed_14}

-- ---- tests and conditions

-- where a test says a condition, its contrary says that the condition does not hold
pub apart : {P : Type 0} (t : Bool) → (t ≡ true ↔ P) → not t ≡ true ↔ (P → ⊥)
apart true x = (λ e. impossible e, λ n. absurd (n (x.0 refl)))
apart false x = (λ e p. impossible (x.1 p), λ n. refl)

-- a test of a basic response applies where the response is one, and it holds of that
basic_test : (o : Outcome) (f : Basic → Bool) → in_basic o f ≡ true ↔ (b : Basic) × (o ≡ reads (basic b)) × (f b ≡ true)
basic_test (unfit p) f = (λ e. impossible e, λ (b, i, e). let z : ◌≡◌ {A = ℕ} 0 1 = cc i in absurd (omega arith))
basic_test other_type f = (λ e. impossible e, λ (b, i, e). let z : ◌≡◌ {A = ℕ} 0 1 = cc i in absurd (omega arith))
basic_test (reads (failed n)) f = (λ e. impossible e, λ (b, i, e). let z : ◌≡◌ {A = ℕ} 0 1 = cc i in absurd (omega arith))
basic_test (reads (basic c)) f = (λ e. (c, refl, e), λ (b, i, e). let j : b ≡ c = cc i in rw j at e)

-- a test of the only one of some entries applies where there is one, and it holds of that
only_test : (l : List Entry) (f : Entry → Bool) → of_only l f ≡ true ↔ (e : Entry) × (l ≡ e ∷ []) × (f e ≡ true)
only_test [] f = (λ e. impossible e, λ (x, i, e). let z : ◌≡◌ {A = ℕ} 0 1 = cc i in absurd (omega arith))
only_test (y ∷ []) f = (λ e. (y, refl, e), λ (x, i, e). let j : x ≡ y = cc i in rw j at e)
only_test (y ∷ z ∷ l) f = (λ e. impossible e, λ (x, i, e). let w : ◌≡◌ {A = ℕ} 0 1 = cc i in absurd (omega arith))

module _ (q : Question) (name s : List ℕ) where
  -- a row that speaks of the basic response
  pub response_row : (f : Basic → Bool) (P : Basic → Type 0) → ((b : Basic) → f b ≡ true ↔ P b)
      → of_response (case_of q name s) f ≡ true ↔ (b : Basic) × (reading s ≡ reads (basic b)) × P b
  response_row f P x = (
    λ e. let (b, i, t) = (basic_test (reading s) f).0 e in (b, i, (x b).0 t),
    λ (b, i, p). (basic_test (reading s) f).1 (b, i, (x b).1 p),
  )

  -- a row that speaks of the only entry for the card
  pub entry_row : (f : Entry → Bool) (P : Entry → Type 0) → ((e : Entry) → f e ≡ true ↔ P e)
      → of_entry (case_of q name s) f ≡ true
      ↔ (b : Basic) × (e : Entry) × (reading s ≡ reads (basic b)) × OnlyEntry q.card b.signed.entries e × P e
  entry_row f P x = (
    λ h.
        let (b, i, t) = (basic_test (reading s) _).0 h in
        let (e, l, u) = (only_test (entries_for q.card b.signed.entries) f).0 t in
        (b, e, i, (only_exactly q.card b.signed.entries e).0 l, (x e).0 u),
    λ (b, e, i, o, p).
        (basic_test (reading s) _).1 (b, i, (only_test (entries_for q.card b.signed.entries) f).1 (e, (only_exactly q.card b.signed.entries e).1 o, (x e).1 p)),
  )

-- ---- 3 to 5

pub unfit_row : (o : Outcome) → is_unfit o ≡ true ↔ (p : ℕ) × (o ≡ unfit p)
unfit_row (unfit p) = (λ e. (p, refl), λ i. refl)
unfit_row other_type = (λ e. impossible e, λ (p, i). let z : ◌≡◌ {A = ℕ} 0 1 = cc i in absurd (omega arith))
unfit_row (reads r) = (λ e. impossible e, λ (p, i). let z : ◌≡◌ {A = ℕ} 0 1 = cc i in absurd (omega arith))

pub failed_row : (o : Outcome) → is_failed o ≡ true ↔ (n : ℕ) × (o ≡ reads (failed n))
failed_row (unfit p) = (λ e. impossible e, λ (n, i). let z : ◌≡◌ {A = ℕ} 0 1 = cc i in absurd (omega arith))
failed_row other_type = (λ e. impossible e, λ (n, i). let z : ◌≡◌ {A = ℕ} 0 1 = cc i in absurd (omega arith))
failed_row (reads (failed n)) = (λ e. (n, refl), λ i. refl)
failed_row (reads (basic b)) = (λ e. impossible e, λ (n, i). let z : ◌≡◌ {A = ℕ} 0 1 = cc i in absurd (omega arith))

pub other_row : (o : Outcome) → is_other o ≡ true ↔ o ≡ other_type
other_row (unfit p) = (λ e. impossible e, λ i. let z : ◌≡◌ {A = ℕ} 0 1 = cc i in absurd (omega arith))
other_row other_type = (λ e. refl, λ i. refl)
other_row (reads r) = (λ e. impossible e, λ i. let z : ◌≡◌ {A = ℕ} 0 1 = cc i in absurd (omega arith))

-- ---- 8, 9 to 12

-- 8: a delegate lacks a mark
pub marks_missing : (role marks : ℕ) → marks ≤ 7 → eqb role 2 && lacks_mark marks ≡ true ↔ (role ≡ 2) × (marks ≡ 7 → ⊥)
marks_missing role marks h = (
  λ e.
      let (r, n) = both (eqb role 2) (lacks_mark marks) e in
      (eqb-true role 2 r, λ m. impossible (sym (ap (λ (k : ℕ). lacks_mark k) m) ∙ n)),
  λ (r, n). go (eqb role 2 && lacks_mark marks) refl r n,
)
  where
    go : (t : Bool) → (eqb role 2 && lacks_mark marks) ≡ t → role ≡ 2 → (marks ≡ 7 → ⊥) → (eqb role 2 && lacks_mark marks) ≡ true
    go true i r n = i
    go false i r n = absurd (n ((marks_exactly role marks h).0 i r))

-- 9 and 12: a critical extension is not understood
module _ (known : List ℕ → Bool) (Known : List ℕ → Type 0) (exactly : (o : List ℕ) → known o ≡ true ↔ Known o) where
  -- one of a list
  abbrev Found : List Extension → Type 0
  Found l = (x : Extension) × Memᴰ x l × (x.critical ≡ true) × (Known x.oid → ⊥)

  -- the one that is found first
  strange_some : (l : List Extension) → strange known l ≡ true → Found l
  unfolding strange
  strange_some [] e = impossible e
  strange_some (y ∷ l) e = go y.critical (known y.oid) refl refl e (strange_some l)
    where
      later : Found l → Found (y ∷ l)
      later (x, m, c, n) = (x, Memᴰ.tail m, c, n)

      go : (t u : Bool) → y.critical ≡ t → known y.oid ≡ u → cond (t && not u) true (strange known l) ≡ true → (strange known l ≡ true → Found l) → Found (y ∷ l)
      go true true p k e r = later (r e)
      go true false p k e r = (y, Memᴰ.head refl, p, λ f. impossible (sym k ∙ (exactly y.oid).1 f))
      go false u p k e r = later (r e)

  pub strange_found : (o : Option (List Extension)) → strange_in known o ≡ true ↔ NotUnderstood Known o
  strange_found none = (λ e. impossible e, λ (l, x, i, m, c, n). let z : ◌≡◌ {A = ℕ} 0 1 = cc i in absurd (omega arith))
  strange_found (some k) = (
    λ e. let (x, m, c, n) = strange_some k e in (k, x, refl, m, c, n),
    λ (l, x, i, m, c, n). let j : l ≡ k = cc i in go (strange_in known (some k)) refl x (rw j at m) c n,
  )
    where
      go : (t : Bool) → strange_in known (some k) ≡ t → (x : Extension) → Memᴰ x k → x.critical ≡ true → (Known x.oid → ⊥) → strange_in known (some k) ≡ true
      go true i x m c n = i
      go false i x m c n = absurd (n ((strange_exactly known Known exactly (some k)).0 i x m c))

-- 10 and 11: none of some entries, and two or more
pub none_row : (l : List Entry) → is_none l ≡ true ↔ l ≡ []
none_row [] = (λ e. refl, λ i. refl)
none_row (x ∷ l) = (λ e. impossible e, λ i. let z : ◌≡◌ {A = ℕ} 0 1 = cc i in absurd (omega arith))

pub more_row : (l : List Entry) → are_more l ≡ true ↔ (x y : Entry) × (r : List Entry) × (l ≡ x ∷ y ∷ r)
more_row [] = (λ e. impossible e, λ (x, y, r, i). let z : ◌≡◌ {A = ℕ} 0 1 = cc i in absurd (omega arith))
more_row (x ∷ []) = (λ e. impossible e, λ (y, z, r, i). let w : ◌≡◌ {A = ℕ} 0 1 = cc i in absurd (omega arith))
more_row (x ∷ y ∷ l) = (λ e. (x, y, l, refl), λ i. refl)

-- ---- 13 to 16

module _ (q : Question) (e : Entry) where
  -- a number that is missed
  number_row : {P : Type 0} (n : ℕ) → (missed q e ≡ n ↔ P) → eqb (missed q e) n ≡ true ↔ P
  number_row n x = (λ t. x.0 (eqb-true (missed q e) n t), λ p. eq-eqb (missed q e) n (x.1 p))

  -- an entry that misses another number than 13 has a nextUpdate
  has_next : (n : ℕ) → missed q e ≡ n → (n ≡ 13 → ⊥) → (next : ℕ) × (e.next_update ≡ some next)
  has_next n i k = go e.next_update refl
    where
      go : (o : Option ℕ) → e.next_update ≡ o → (next : ℕ) × (e.next_update ≡ some next)
      go none p = absurd (k (sym i ∙ (missed_13 q e).1 p))
      go (some next) p = (next, p)

  -- a number by the times of an entry that has a nextUpdate
  next_row : (n : ℕ) (P : ℕ → Type 0) → (n ≡ 13 → ⊥) → ((next : ℕ) → e.next_update ≡ some next → missed q e ≡ n ↔ P next)
      → eqb (missed q e) n ≡ true ↔ (next : ℕ) × (e.next_update ≡ some next) × P next
  next_row n P k x = number_row n (
    λ i. let (next, p) = has_next n i k in (next, p, (x next p).0 i),
    λ (next, p, h). (x next p).1 h,
  )

  -- 13: there is no nextUpdate
  pub times_13 : eqb (missed q e) 13 ≡ true ↔ e.next_update ≡ none
  times_13 = number_row 13 (missed_13 q e)

  -- 14: nextUpdate is before thisUpdate
  pub times_14 : eqb (missed q e) 14 ≡ true ↔ (next : ℕ) × (e.next_update ≡ some next) × (next < e.this_update)
  times_14 = next_row 14 (λ next. next < e.this_update) (λ i. omega arith) (λ next p. missed_14 q e next p)

  -- 15: thisUpdate is after now, and not 14
  pub times_15 : eqb (missed q e) 15 ≡ true ↔ (next : ℕ) × (e.next_update ≡ some next) × ((e.this_update ≤ next) × (q.now < e.this_update))
  times_15 =
      next_row 15 (λ next. (e.this_update ≤ next) × (q.now < e.this_update)) (λ i. omega arith)
      (λ next p. rw p (refusal_15 e.this_update next q.now q.tolerance))

  -- 16: now is after nextUpdate plus tolerance, and neither 14 nor 15
  pub times_16 : eqb (missed q e) 16 ≡ true
      ↔ (next : ℕ) × (e.next_update ≡ some next) × ((e.this_update ≤ next) × (e.this_update ≤ q.now) × (next + q.tolerance < q.now))
  times_16 =
      next_row 16 (λ next. (e.this_update ≤ next) × (e.this_update ≤ q.now) × (next + q.tolerance < q.now)) (λ i. omega arith)
      (λ next p. rw p (refusal_16 e.this_update next q.now q.tolerance))
