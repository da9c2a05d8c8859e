-- Refusals: the check refuses with a number exactly when that row of the table is the first that applies, the answer is
-- then that number with an empty card, and it is never good, revoked or unknown.
-- refusal_number, refusal_whole, refusal_placeless, refusal_exactly, refusal_not_revoked, answer_either; refusal_status, out_of_range.
-- The definitions are in Ruling, Rows and Accepted. Assumes nothing.
use Rattle.std.specs.Prelude.{ℕ, ◌<◌, ◌⊎◌, ◌↔◌, ◌≡◌, refl, Bool, true, false, List, eqb, Some, Option}
use Rattle.std.proofs.Common.{arith, inl, inr, sym, ap, ◌∙◌, eqb-true, eq-eqb, ne_eqb}
use Rattle.std.proofs.lemmas.Bool.{eqb-false}
use Rattle.octets.specs.Octets.{Octets}
use Rattle.octets.specs.SameLaws.{impossible}
use Rattle.layout.specs.Reading.{Entry, Basic, failed, basic}
use Rattle.layout.specs.Read.{Outcome, reads, other_type, unfit}
use Rattle.layout.proofs.Read.{reading}
use Rattle.layout.specs.Limits.{FailureOk}
use Rattle.layout.proofs.Theorem.{sound}
use Rattle.answer.specs.Verdict.{without_place, refused_at, refused}
use Rattle.answer.specs.declared.Verdict.TheVariants.{Good, Revoked, Unknown, Refused}
use Rattle.answer.specs.declared.Answer.{Answer}
use Rattle.rules.specs.declared.Question.{Question}
use Rattle.rules.specs.Question.{in_range}
use Rattle.rules.specs.Order.{is_unfit, is_failed, status_in, misfit_in, tests, first_of}
use Rattle.rules.specs.Ruling.{status_with, place_with, case_of, answer_of}
use Rattle.rules.specs.Rows.{test_of}
use Rattle.rules.proofs.OrderLaws.{row_low, tests_numbered, tests_first, tests_most}
use Rattle.rules.specs.Accepted.{Accepted, IsRefusal}
use Rattle.rules.proofs.ClearLaws.{clear_exactly}
use Rattle.rules.proofs.RulingLaws.{said_no_refusal, refused_answer, accepted_verdict}

-- the status of an error response
failed_status : (o : Outcome) → is_failed o ≡ true → o ≡ reads (failed (status_in o))
failed_status (unfit p) e = impossible e
failed_status other_type e = impossible e
failed_status (reads (failed n)) e = refl
failed_status (reads (basic b)) e = impossible e

-- the place of a response that does not fit
unfit_place : (o : Outcome) → is_unfit o ≡ true → (p : ℕ) × (o ≡ unfit p) × (misfit_in o ≡ Some p)
unfit_place (unfit p) e = (p, refl, refl)
unfit_place other_type e = impossible e
unfit_place (reads r) e = impossible e

module _ (q : Question) (name s : List ℕ) where
  -- where row 3 applies the response does not fit
  row_three : (n : ℕ) → n ≡ 3 → test_of n (tests (case_of q name s)) ≡ true → (p : ℕ) × (reading s ≡ unfit p) × (misfit_in (reading s) ≡ Some p)
  unfolding test_of tests
  row_three n i e = unfit_place (reading s) (rw i at e)

  -- where row 4 applies the response has failed
  row_four : (n : ℕ) → n ≡ 4 → test_of n (tests (case_of q name s)) ≡ true → reading s ≡ reads (failed (status_in (reading s)))
  unfolding test_of tests
  row_four n i e = failed_status (reading s) (rw i at e)

  -- where a row is the first that applies, the answer is its refusal
  refusal_is : (n : ℕ) → (n ≡ 0 → ⊥) → first_of (tests (case_of q name s)) ≡ n
      → IsRefusal s (answer_of q name s) n (status_with n (reading s))
  refusal_is n z f =
      let a : answer_of q name s ≡ refused_at n (status_with n (reading s)) (place_with n (reading s)) =
      rw f at (refused_answer q name s (λ e. z (sym f ∙ e))) in
      let p : (answer_of q name s).place ≡ place_with n (reading s) = ap (λ (x : Answer). x.place) a in
      let t = ((tests_first (case_of q name s) n z).0 f).0 in
      record {
        verdict = ap (λ (x : Answer). x.verdict) a;
        card = ap (λ (x : Answer). x.card) a;
        least = omega arith;
        most = rw f at (tests_most (case_of q name s));
        four = λ i. rw (eq-eqb n 4 i) (row_four n i t);
        other = λ i. rw (ne_eqb n 4 i);
        three = λ i. let (k, r, m) = row_three n i t in (k, r, p ∙ rw (eq-eqb n 3 i) m);
        placeless = λ i. p ∙ rw (ne_eqb n 3 i);
      }

  -- a refusal has the number of the first row that applies
  pub refusal_number : (n status : ℕ) → (answer_of q name s).verdict ≡ Refused n status → (first_of (tests (case_of q name s)) ≡ n) × (n ≡ 0 → ⊥)
  refusal_number n status v = go (eqb (first_of (tests (case_of q name s))) 0) refl
    where
      go : (t : Bool) → eqb (first_of (tests (case_of q name s))) 0 ≡ t → (first_of (tests (case_of q name s)) ≡ n) × (n ≡ 0 → ⊥)
      go true p =
          let (b, e, next, a) = (clear_exactly q name s).0 (eqb-true _ 0 p) in
          absurd (said_no_refusal e.status e.this_update next n status (sym (accepted_verdict q name s b e next a) ∙ v))
      go false p =
          let z = eqb-false (first_of (tests (case_of q name s))) 0 p in
          let w = sym (ap (λ (x : Answer). x.verdict) (refused_answer q name s z)) ∙ v in
          let i : first_of (tests (case_of q name s)) ≡ n = cc w in
          (i, λ j. z (i ∙ j))

  -- and is one by every rule of refusals
  pub refusal_whole : (n status : ℕ) → (answer_of q name s).verdict ≡ Refused n status → IsRefusal s (answer_of q name s) n status
  refusal_whole n status v =
      let (f, z) = refusal_number n status v in
      let r = refusal_is n z f in
      let w = sym r.verdict ∙ v in
      let i : status_with n (reading s) ≡ status = cc w in
      rw i at r

  -- one with another number than 3 has no place
  pub refusal_placeless : (n status : ℕ) → (answer_of q name s).verdict ≡ Refused n status → (n ≡ 3 → ⊥)
      → answer_of q name s ≡ without_place (answer_of q name s)
  refusal_placeless n status v z =
      let p = (refusal_whole n status v).placeless z in
      λ i. record { verdict = (answer_of q name s).verdict; card = (answer_of q name s).card; place = p i }

  -- the answer is refusal n exactly when row n of the table applies and no earlier one does
  pub refusal_exactly : (n : ℕ)
      → ((status : ℕ) × IsRefusal s (answer_of q name s) n status)
      ↔ (test_of n (tests (case_of q name s)) ≡ true) × ((m : ℕ) → m < n → test_of m (tests (case_of q name s)) ≡ false)
  refusal_exactly n = (
    λ (status, r). let (f, z) = refusal_number n status r.verdict in (tests_first (case_of q name s) n z).0 f,
    λ (a, b).
        let z : n ≡ 0 → ⊥ = λ i. impossible (sym (row_low 1 (tests (case_of q name s)) (tests_numbered (case_of q name s)) n (omega arith)) ∙ a) in
        (_, refusal_is n z ((tests_first (case_of q name s) n z).1 (a, b))),
  )

  -- where a row applies first the answer is its refusal, and so it is never good, revoked or unknown
  pub refusal_not_revoked : (n : ℕ) → (n ≡ 0 → ⊥) → first_of (tests (case_of q name s)) ≡ n
      → ((status : ℕ) × IsRefusal s (answer_of q name s) n status)
      × ((this next : ℕ) → (answer_of q name s).verdict ≡ Good this next → ⊥)
      × ((this next at : ℕ) (reason : Option ℕ) → (answer_of q name s).verdict ≡ Revoked this next at reason → ⊥)
      × ((this next : ℕ) → (answer_of q name s).verdict ≡ Unknown this next → ⊥)
  refusal_not_revoked n z f =
      let r = refusal_is n z f in
      let w = r.verdict in (
        (_, r),
        λ this next e. let x : ◌≡◌ {A = ℕ} 0 1 = cc (w, e) in omega arith,
        λ this next at reason e. let x : ◌≡◌ {A = ℕ} 0 1 = cc (w, e) in omega arith,
        λ this next e. let x : ◌≡◌ {A = ℕ} 0 1 = cc (w, e) in omega arith,
      )

  -- every response is accepted or refused
  pub answer_either : ((b : Basic) × (e : Entry) × (next : ℕ) × Accepted q name s b e next) ⊎ ((n status : ℕ) × IsRefusal s (answer_of q name s) n status)
  answer_either = go (eqb (first_of (tests (case_of q name s))) 0) refl
    where
      go : (t : Bool) → eqb (first_of (tests (case_of q name s))) 0 ≡ t
          → ((b : Basic) × (e : Entry) × (next : ℕ) × Accepted q name s b e next) ⊎ ((n status : ℕ) × IsRefusal s (answer_of q name s) n status)
      go true p = inl ((clear_exactly q name s).0 (eqb-true _ 0 p))
      go false p = inr (_, _, refusal_is _ (eqb-false (first_of (tests (case_of q name s))) 0 p) refl)

  -- the status that goes with 4 is 1, 2, 3, 5 or 6
  pub refusal_status : Octets s → (status : ℕ) → IsRefusal s (answer_of q name s) 4 status → FailureOk status
  refusal_status o status r = (sound s (failed status) o (r.four refl)).0

  -- a question out of range gives 1, whatever the response is
  pub out_of_range : in_range q name ≡ false → answer_of q name s ≡ refused 1 0
  unfolding answer_of first_of tests refused
  out_of_range e = rw e
