-- Refusals 2 to 5 by what the response reads as, for a question in range: each is given exactly where that row's own
-- condition holds, since no earlier row can apply beside it.
-- two_exactly, three_exactly, four_exactly, five_exactly. For any question: place_exactly, which answers have a place.
-- The answer where a row is the first that applies is in RowLaws; the definitions are in Order and Ruling.
-- Assumes nothing.
use Rattle.std.specs.Prelude.{ℕ, ◌≤◌, ◌<◌, ◌↔◌, ◌≡◌, Bool, List, eqb, length, Some}
use Rattle.std.proofs.Common.{arith, ⊎_elim, sym, ◌∙◌}
use Rattle.std.proofs.Math.Path.{refl, ap}
use Rattle.std.proofs.Math.Bool.{true, false, not}
use borrow.Author.Tests.{ltb-true, ltb-false, eqb-true, eqb-false, lt-ltb, le-ltb}
use Rattle.octets.specs.SameLaws.{impossible}
use Rattle.layout.specs.Reading.{failed}
use Rattle.layout.specs.Read.{reads, other_type, unfit}
use Rattle.layout.proofs.Read.{reading}
use Rattle.answer.specs.Verdict.{refused_at, refused}
use Rattle.answer.specs.declared.Verdict.TheVariants.{Refused}
use Rattle.answer.specs.declared.Answer.{Answer}
use Rattle.rules.specs.declared.Question.{Question}
use Rattle.rules.specs.Question.{in_range}
use Rattle.rules.specs.Order.{tests}
use Rattle.rules.specs.Rows.{test_of}
use Rattle.rules.specs.Ruling.{case_of, answer_of}
use Rattle.rules.proofs.RowLaws.{row_2, row_3, row_4, row_5}
use Rattle.rules.proofs.OrderLaws.{tests_first}
use Rattle.rules.specs.Accepted.{IsRefusal}
use Rattle.rules.proofs.RulingLaws.{accepted_answer}
use Rattle.rules.proofs.RefusalLaws.{refusal_number, answer_either}
use Rattle.rules.proofs.PlainLaws.{unfit_row, failed_row, other_row}

module _ (q : Question) (name s : List ℕ) where
  -- a refusal's own row applies, and no earlier one does
  rows_of : (n status : ℕ) → (answer_of q name s).verdict ≡ Refused n status
      → (test_of n (tests (case_of q name s)) ≡ true) × ((m : ℕ) → m < n → test_of m (tests (case_of q name s)) ≡ false)
  rows_of n status e =
      let (f, z) = refusal_number q name s n status e in
      (tests_first (case_of q name s) n z).0 f

  -- the size, where row 2 applies and where it does not
  size_over : test_of 2 (tests (case_of q name s)) ≡ true → 16384 < length s
  unfolding test_of tests
  size_over e = ltb-true 16384 (length s) e

  size_under : test_of 2 (tests (case_of q name s)) ≡ false → length s ≤ 16384
  unfolding test_of tests
  size_under e = ltb-false 16384 (length s) e

  -- the rows that speak of the whole response
  row_unfit : test_of 3 (tests (case_of q name s)) ≡ true → (p : ℕ) × (reading s ≡ unfit p)
  unfolding test_of tests
  row_unfit e = (unfit_row (reading s)).0 e

  row_failed : test_of 4 (tests (case_of q name s)) ≡ true → (n : ℕ) × (reading s ≡ reads (failed n))
  unfolding test_of tests
  row_failed e = (failed_row (reading s)).0 e

  row_other : test_of 5 (tests (case_of q name s)) ≡ true → reading s ≡ other_type
  unfolding test_of tests
  row_other e = (other_row (reading s)).0 e

  module _ (range : in_range q name ≡ true) where
    -- 2: the response is longer than 16,384 octets
    pub two_exactly : answer_of q name s ≡ refused 2 0 ↔ 16384 < length s
    unfolding refused
    two_exactly = (λ e. size_over (rows_of 2 0 (ap (λ (a : Answer). a.verdict) e)).0, λ h. row_2 q name s range (lt-ltb 16384 (length s) h))

    -- 3, with a place: it has at most that many and does not fit there
    pub three_exactly : (p : ℕ) → answer_of q name s ≡ refused_at 3 0 (Some p) ↔ (length s ≤ 16384) × (reading s ≡ unfit p)
    three_exactly p = (
      λ e.
          let (t, f) = rows_of 3 0 (ap (λ (a : Answer). a.verdict) e) in
          let le = size_under (f 2 (omega arith)) in
          let (n, r) = row_unfit t in
          let same = ap (λ (a : Answer). a.place) (sym (row_3 q name s range (le-ltb 16384 (length s) le) n r) ∙ e) in
          let i : n ≡ p = cc same in
          (le, r ∙ ap unfit i),
      λ (le, r). row_3 q name s range (le-ltb 16384 (length s) le) p r,
    )

    -- 4, with a status: it reads as an error response with that status
    pub four_exactly : (status : ℕ) → answer_of q name s ≡ refused 4 status ↔ (length s ≤ 16384) × (reading s ≡ reads (failed status))
    unfolding refused
    four_exactly status = (
      λ e.
          let (t, f) = rows_of 4 status (ap (λ (a : Answer). a.verdict) e) in
          let le = size_under (f 2 (omega arith)) in
          let (n, r) = row_failed t in
          let same = ap (λ (a : Answer). a.verdict) (sym (row_4 q name s range (le-ltb 16384 (length s) le) n r) ∙ e) in
          let i : n ≡ status = cc same in
          (le, r ∙ ap (λ (k : ℕ). reads (failed k)) i),
      λ (le, r). row_4 q name s range (le-ltb 16384 (length s) le) status r,
    )

    -- 5: it is of another type
    pub five_exactly : answer_of q name s ≡ refused 5 0 ↔ (length s ≤ 16384) × (reading s ≡ other_type)
    unfolding refused
    five_exactly = (
      λ e. let (t, f) = rows_of 5 0 (ap (λ (a : Answer). a.verdict) e) in (size_under (f 2 (omega arith)), row_other t),
      λ (le, r). row_5 q name s range (le-ltb 16384 (length s) le) r,
    )

  -- ---- the place

  row_range : test_of 1 (tests (case_of q name s)) ≡ false → in_range q name ≡ true
  unfolding test_of tests
  row_range e = go (in_range q name) e
    where
      go : (t : Bool) → not t ≡ false → t ≡ true
      go true e = refl
      go false e = impossible (sym e)

  -- a refusal with a place is 3: no earlier row applies, and the response does not fit there
  refusal_placed : (p n status : ℕ) → IsRefusal s (answer_of q name s) n status → (answer_of q name s).place ≡ Some p
      → (in_range q name ≡ true) × (length s ≤ 16384) × (reading s ≡ unfit p)
  refusal_placed p n status r e = go (eqb n 3) refl
    where
      go : (t : Bool) → eqb n 3 ≡ t → (in_range q name ≡ true) × (length s ≤ 16384) × (reading s ≡ unfit p)
      go true i =
          let z = eqb-true n 3 i in
          let f = (rows_of n status r.verdict).1 in
          let (k, w, v) = r.three z in
          let h = sym v ∙ e in
          let j : k ≡ p = cc h in
          (row_range (f 1 (omega arith)), size_under (f 2 (omega arith)), w ∙ ap unfit j)
      go false i =
          let h = sym (r.placeless (eqb-false n 3 i)) ∙ e in
          let z : ◌≡◌ {A = ℕ} 0 1 = cc h in
          absurd (omega arith)

  -- an answer has a place exactly if the question is in range, the response has at most 16,384 octets, and does not fit there
  pub place_exactly : (p : ℕ) → (answer_of q name s).place ≡ Some p ↔ (in_range q name ≡ true) × (length s ≤ 16384) × (reading s ≡ unfit p)
  place_exactly p = (
    λ e.
        ⊎_elim
        (λ (b, x, next, a).
        let h = sym (ap (λ (y : Answer). y.place) (accepted_answer q name s b x next a)) ∙ e in
        let z : ◌≡◌ {A = ℕ} 0 1 = cc h in
        absurd (omega arith))
        (λ (n, status, r). refusal_placed p n status r e)
        (answer_either q name s),
    λ (range, le, r). ap (λ (a : Answer). a.place) (row_3 q name s range (le-ltb 16384 (length s) le) p r),
  )
