-- Which answers pass 1 to 5, of the check and of the desk's octets.
-- passes_exactly; asked_passes_exactly.
-- `answer_of` is what rule_check::check answers for a question, the signer's Name and a response (rules: Ruling), `asked` the answer
-- to a question's octets and a response (desk_question: Asked).
-- Passes stands in specs/Passes.
-- Assumes nothing.
use Prim.Native.Nat.{ℕ, zero, suc, ◌≤◌, ◌<◌}
use native.Mathlib.Omega.{arith}
use Rattle.std.specs.Prelude.{◌↔◌, ◌≡◌, Bool, List, length}
use Rattle.std.proofs.Math.Path.{refl}
use Rattle.std.proofs.Common.{sym, ap, ◌∙◌, ltb-false, le-ltb}
use Rattle.std.proofs.Math.Bool.{true, false}
use Rattle.std.proofs.Math.Dec.{ltb}
use Rattle.octets.specs.SameLaws.{impossible}
use Rattle.layout.specs.Reading.{Basic, failed, basic}
use Rattle.layout.specs.Read.{Outcome, reads, other_type, unfit}
use Rattle.layout.proofs.Read.{reading}
use Rattle.answer.specs.Verdict.{refused}
use Rattle.answer.specs.declared.Answer.{Answer}
use Rattle.rules.specs.declared.Question.{Question}
use Rattle.rules.specs.Question.{in_range}
use Rattle.rules.specs.Accepted.{InRange}
use Rattle.rules.proofs.AcceptedLaws.{range_exactly}
use Rattle.rules.specs.Order.{tests}
use Rattle.rules.specs.Rows.{test_of}
use Rattle.rules.specs.Ruling.{case_of, answer_of}
use Rattle.rules.proofs.RowLaws.{row_2, row_3, row_4, row_5}
use Rattle.rules.proofs.RefusalLaws.{refusal_whole, refusal_exactly, out_of_range}
use Rattle.desk_question.specs.Asked.{question_in, name_in, question_ok, asked}
use Rattle.desk_question.proofs.AskedLaws.{asked_broken, asked_kept}
use Rattle.promises.specs.Passes.{Passes}

-- ── the check ──

module _ (q : Question) (name s : List ℕ) where
  -- where a question is in range, and a basic response not too long, rows 1 to 5 do not apply
  low_rows : (b : Basic) → in_range q name ≡ true → length s ≤ 16384 → reading s ≡ reads (basic b)
      → (n : ℕ) → test_of n (tests (case_of q name s)) ≡ true → 5 < n
  unfolding test_of tests
  low_rows b range l r zero e = impossible e
  low_rows b range l r (suc zero) e = impossible (rw range at e)
  low_rows b range l r (suc (suc zero)) e = impossible (rw (le-ltb 16384 (length s) l) at e)
  low_rows b range l r (suc (suc (suc zero))) e = impossible (rw r at e)
  low_rows b range l r (suc (suc (suc (suc zero)))) e = impossible (rw r at e)
  low_rows b range l r (suc (suc (suc (suc (suc zero))))) e = impossible (rw r at e)
  low_rows b range l r (suc (suc (suc (suc (suc (suc n)))))) e = omega arith

  module _ (h : Passes (answer_of q name s)) where
    in_range_lem : in_range q name ≡ true
    unfolding refused
    in_range_lem = go (in_range q name) refl
      where
        go : (t : Bool) → in_range q name ≡ t → in_range q name ≡ true
        go true e = e
        go false e = let z = h 1 0 (ap (λ (a : Answer). a.verdict) (out_of_range q name s e)) in absurd (omega arith)

    small : ltb 16384 (length s) ≡ false
    unfolding refused
    small = go (ltb 16384 (length s)) refl
      where
        go : (t : Bool) → ltb 16384 (length s) ≡ t → ltb 16384 (length s) ≡ false
        go true e = let z = h 2 0 (ap (λ (a : Answer). a.verdict) (row_2 q name s in_range_lem e)) in absurd (omega arith)
        go false e = e

    is_basic : (b : Basic) × (reading s ≡ reads (basic b))
    unfolding refused
    is_basic = go (reading s) refl
      where
        go : (o : Outcome) → reading s ≡ o → (b : Basic) × (reading s ≡ reads (basic b))
        go (unfit p) e = let z = h 3 0 (ap (λ (a : Answer). a.verdict) (row_3 q name s in_range_lem small p e)) in absurd (omega arith)
        go other_type e = let z = h 5 0 (ap (λ (a : Answer). a.verdict) (row_5 q name s in_range_lem small e)) in absurd (omega arith)
        go (reads (failed n)) e = let z = h 4 n (ap (λ (a : Answer). a.verdict) (row_4 q name s in_range_lem small n e)) in absurd (omega arith)
        go (reads (basic b)) e = (b, e)

  -- the check's answer passes exactly if the question is in range, and the response has at most 16,384 octets and reads as a
  -- basic one
  pub passes_exactly : Passes (answer_of q name s) ↔ InRange q name × (length s ≤ 16384) × (b : Basic) × (reading s ≡ reads (basic b))
  passes_exactly = (
    λ h. let (b, r) = is_basic h in ((range_exactly q name).0 (in_range_lem h), ltb-false 16384 (length s) (small h), b, r),
    λ (range, le, b, r) n status e.
        low_rows b ((range_exactly q name).1 range) le r n ((refusal_exactly q name s n).0 (status, refusal_whole q name s n status e)).0,
  )

-- ── the desk's octets ──

-- the answer to octets passes exactly if those of the question keep the form, the question is in range, and the response has at
-- most 16,384 octets and reads as a basic one
pub asked_passes_exactly : (q s : List ℕ) → Passes (asked q s)
    ↔ (question_ok 20 q ≡ true)
    × InRange (question_in 20 q) (name_in 20 q)
    × (length s ≤ 16384)
    × (b : Basic) × (reading s ≡ reads (basic b))
unfolding refused
asked_passes_exactly q s = go (question_ok 20 q) refl
  where
    go : (t : Bool) → question_ok 20 q ≡ t
        → Passes (asked q s) ↔ (question_ok 20 q ≡ true) × InRange (question_in 20 q) (name_in 20 q) × (length s ≤ 16384) × (b : Basic) × (reading s ≡ reads (basic b))
    go true e =
        let x = passes_exactly (question_in 20 q) (name_in 20 q) s in (
          λ h. let (range, l, b, r) = x.0 (rw (asked_kept q s e) at h) in (e, range, l, b, r),
          λ (_, range, l, b, r). rw (asked_kept q s e) (x.1 (range, l, b, r)),
        )
    go false e = (
      λ h. let z = h 1 0 (ap (λ (a : Answer). a.verdict) (asked_broken q s e)) in absurd (omega arith),
      λ (k, range, l, b, r). impossible (sym e ∙ k),
    )
