-- What the check answers where it does not refuse: good, revoked or unknown, exactly when the response is accepted and
-- its entry says so; and no answer that is old.
-- said_no_refusal; accepted_answer, refused_answer, accepted_exactly, accepted_verdict, accepted_placeless; good_exactly, unknown_exactly,
-- revoked_exactly; never_old. Refusals are in RefusalLaws; that no answer is about another card is in OneCardLaws.
-- The definitions are in Ruling and Accepted. Assumes nothing.
use Rattle.std.specs.Prelude.{ℕ, ◌+◌, ◌≤◌, ◌↔◌, ◌≡◌, refl, Bool, true, false, List, eqb, Option}
use Rattle.std.proofs.Common.{arith, sym, ap, ◌∙◌, eqb-true, ne_eqb}
use Rattle.std.proofs.Math.Option as maybe
use Rattle.std.proofs.lemmas.Bool.{eqb-false}
use Rattle.layout.specs.Reading.{Status, good, revoked, unknown, Entry, Basic}
use Rattle.layout.proofs.Read.{reading}
use Rattle.answer.specs.Verdict.{saying, without_place, refused_at}
use Rattle.answer.specs.declared.Verdict.{Verdict}
use Rattle.answer.specs.declared.Verdict.TheVariants.{Good, Revoked, Unknown}
use Rattle.answer.specs.declared.Answer.{Answer}
use Rattle.rules.specs.declared.Question.{Question}
use Rattle.rules.specs.Order.{tests, first_of}
use Rattle.rules.specs.Ruling.{reason_in, said, status_with, place_with, case_of, answer_of}
use Rattle.rules.specs.Accepted.{Accepted, NoRefusal, HasTimes}
use Rattle.rules.proofs.ClearLaws.{clear_exactly}

-- ---- what a status says is no refusal, and tells the status

pub said_no_refusal : (x : Status) (t n : ℕ) → NoRefusal (said x t n)
said_no_refusal good t n a b e = let z : ◌≡◌ {A = ℕ} 0 1 = cc in omega arith
said_no_refusal unknown t n a b e = let z : ◌≡◌ {A = ℕ} 0 1 = cc in omega arith
said_no_refusal (revoked d r) t n a b e = let z : ◌≡◌ {A = ℕ} 0 1 = cc in omega arith

said_good : (x : Status) (t n this next : ℕ) → said x t n ≡ Good this next → (x ≡ good) × (t ≡ this) × (n ≡ next)
said_good good t n this next e = (refl, cc, cc)
said_good unknown t n this next e = let z : ◌≡◌ {A = ℕ} 0 1 = cc in absurd (omega arith)
said_good (revoked d r) t n this next e = let z : ◌≡◌ {A = ℕ} 0 1 = cc in absurd (omega arith)

said_unknown : (x : Status) (t n this next : ℕ) → said x t n ≡ Unknown this next → (x ≡ unknown) × (t ≡ this) × (n ≡ next)
said_unknown good t n this next e = let z : ◌≡◌ {A = ℕ} 0 1 = cc in absurd (omega arith)
said_unknown unknown t n this next e = (refl, cc, cc)
said_unknown (revoked d r) t n this next e = let z : ◌≡◌ {A = ℕ} 0 1 = cc in absurd (omega arith)

said_revoked : (x : Status) (t n this next at : ℕ) (reason : Option ℕ) → said x t n ≡ Revoked this next at reason
    → (r : maybe.Option ℕ) × (x ≡ revoked at r) × (reason_in r ≡ reason) × (t ≡ this) × (n ≡ next)
said_revoked good t n this next at reason e = let z : ◌≡◌ {A = ℕ} 0 1 = cc in absurd (omega arith)
said_revoked unknown t n this next at reason e = let z : ◌≡◌ {A = ℕ} 0 1 = cc in absurd (omega arith)
said_revoked (revoked d r) t n this next at reason e = let i : d ≡ at = cc in (r, ap (λ (k : ℕ). revoked k r) i, cc, cc, cc)

said_times : (x : Status) (t n this next : ℕ) → HasTimes (said x t n) this next → (t ≡ this) × (n ≡ next)
said_times good t n this next h = h
said_times unknown t n this next h = h
said_times (revoked d r) t n this next h = h

times_no_refusal : (v : Verdict) (this next : ℕ) → HasTimes v this next → NoRefusal v
times_no_refusal v this next h a b e = rw e at h

-- ---- the answer

module _ (q : Question) (name s : List ℕ) where
  -- an accepted response is answered with what its entry says, and the question's card
  pub accepted_answer : (b : Basic) (e : Entry) (next : ℕ) → Accepted q name s b e next
      → answer_of q name s ≡ saying (said e.status e.this_update next) q.card
  unfolding answer_of
  accepted_answer b e next a = rw ((clear_exactly q name s).1 (b, e, next, a), a.reads_as, a.only, a.ends)

  -- where a test applies, with the first one's number
  pub refused_answer : (first_of (tests (case_of q name s)) ≡ 0 → ⊥)
      → answer_of q name s
      ≡ refused_at (first_of (tests (case_of q name s))) (status_with (first_of (tests (case_of q name s))) (reading s))
      (place_with (first_of (tests (case_of q name s))) (reading s))
  unfolding answer_of
  refused_answer z = rw (ne_eqb (first_of (tests (case_of q name s))) 0 z)

  -- the answer is no refusal exactly when the response is accepted
  pub accepted_exactly : NoRefusal (answer_of q name s).verdict ↔ (b : Basic) × (e : Entry) × (next : ℕ) × Accepted q name s b e next
  accepted_exactly = (
    λ h. go h (eqb (first_of (tests (case_of q name s))) 0) refl,
    λ (b, e, next, a). rw (accepted_answer b e next a) (said_no_refusal e.status e.this_update next),
  )
    where
      go : NoRefusal (answer_of q name s).verdict → (t : Bool) → eqb (first_of (tests (case_of q name s))) 0 ≡ t
          → (b : Basic) × (e : Entry) × (next : ℕ) × Accepted q name s b e next
      go h true p = (clear_exactly q name s).0 (eqb-true _ 0 p)
      go h false p = absurd (h _ _ (ap (λ (a : Answer). a.verdict) (refused_answer (eqb-false _ 0 p))))

  -- what an accepted response's verdict is
  pub accepted_verdict : (b : Basic) (e : Entry) (next : ℕ) → Accepted q name s b e next → (answer_of q name s).verdict ≡ said e.status e.this_update next
  accepted_verdict b e next a = ap (λ (x : Answer). x.verdict) (accepted_answer b e next a)

  -- an answer that is no refusal has no place
  pub accepted_placeless : NoRefusal (answer_of q name s).verdict → without_place (answer_of q name s) ≡ answer_of q name s
  accepted_placeless n = let (b, e, next, a) = accepted_exactly.0 n in rw (accepted_answer b e next a)

  -- good exactly when the response is accepted and its entry's status is good
  pub good_exactly : (this next : ℕ)
      → (answer_of q name s).verdict ≡ Good this next
      ↔ (b : Basic) × (e : Entry) × Accepted q name s b e next × (e.status ≡ good) × (e.this_update ≡ this)
  good_exactly this next = (
    λ v.
        let (b, e, n, a) = accepted_exactly.0 (times_no_refusal _ this next (rw v (refl, refl))) in
        let (i, j, k) = said_good e.status e.this_update n this next (sym (accepted_verdict b e n a) ∙ v) in
        (b, e, rw k at a, i, j),
    λ (b, e, a, i, j). accepted_verdict b e next a ∙ rw (i, j),
  )

  -- unknown exactly when it is accepted and the status is unknown
  pub unknown_exactly : (this next : ℕ)
      → (answer_of q name s).verdict ≡ Unknown this next
      ↔ (b : Basic) × (e : Entry) × Accepted q name s b e next × (e.status ≡ unknown) × (e.this_update ≡ this)
  unknown_exactly this next = (
    λ v.
        let (b, e, n, a) = accepted_exactly.0 (times_no_refusal _ this next (rw v (refl, refl))) in
        let (i, j, k) = said_unknown e.status e.this_update n this next (sym (accepted_verdict b e n a) ∙ v) in
        (b, e, rw k at a, i, j),
    λ (b, e, a, i, j). accepted_verdict b e next a ∙ rw (i, j),
  )

  -- revoked, at a time and for a reason or none, exactly when it is accepted and the status is that
  pub revoked_exactly : (this next at : ℕ) (reason : Option ℕ)
      → (answer_of q name s).verdict ≡ Revoked this next at reason
      ↔ (b : Basic) × (e : Entry) × (r : maybe.Option ℕ) × Accepted q name s b e next × (e.status ≡ revoked at r) × (reason_in r ≡ reason) × (e.this_update ≡ this)
  revoked_exactly this next at reason = (
    λ v.
        let (b, e, n, a) = accepted_exactly.0 (times_no_refusal _ this next (rw v (refl, refl))) in
        let (r, i, m, j, k) = said_revoked e.status e.this_update n this next at reason (sym (accepted_verdict b e n a) ∙ v) in
        (b, e, r, rw k at a, i, m, j),
    λ (b, e, r, a, i, m, j). accepted_verdict b e next a ∙ rw (i, m, j),
  )

  -- no answer that is old: it holds from its own thisUpdate to its own nextUpdate plus a tolerance of at most an hour
  pub never_old : (this next : ℕ) → HasTimes (answer_of q name s).verdict this next
      → (this ≤ next) × (this ≤ q.now) × (q.now ≤ next + q.tolerance) × (q.tolerance ≤ 3600)
  never_old this next h =
      let (b, e, n, a) = accepted_exactly.0 (times_no_refusal _ this next h) in
      let (i, j) = said_times e.status e.this_update n this next (rw (accepted_verdict b e n a) at h) in
      omega (arith, a.ordered, a.begun, a.current, a.range.tolerance)
