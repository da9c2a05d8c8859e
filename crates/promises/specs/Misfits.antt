-- Where a response breaks (document 02, C-16): every place of it that does not fit, and that the first of them is the place that
-- goes with refusal 3, in every answer of the check and in no other.
-- header_place; place_first, no_misfit, place_inside; three_at, place_carried, three_placed, others_placeless.
-- What is shown, the walk, the desk's octets and desk_misfit: MisfitsTold. Slips have no place: Slips, read_back.
-- `misfits s` is every place of a response whose element itself does not fit (misfits: Misfits), by the layout as data (misfits:
-- Described) and the places of each kind of element and row (faults: Description, Faults); none of these names a reader.
-- `Least p l` says that p is one of l and none of l is before it (faults: Order).
-- That a response without one is of one of three kinds is in proofs/Misfits.
-- Assumes nothing.
use Rattle.std.specs.Prelude.{ℕ, ◌≤◌, ◌↔◌, ◌≡◌, refl, cond, List, [], length, Option, Some, None, Err}
use Rattle.std.proofs.Common.{ap}
use Rattle.element.specs.Places.{misfit}
use Rattle.element.specs.Header.{header_of}
use Rattle.layout.specs.Read.{unfit}
use Rattle.layout.proofs.Read.{reading}
use Rattle.layout.proofs.Theorem.{place_within_lem}
use Rattle.faults.specs.Head.{cut_off}
use Rattle.faults.proofs.HeadLaws.{head_place}
use Rattle.faults.specs.Order.{Least}
use Rattle.misfits.specs.Misfits.{misfits}
use Rattle.misfits.proofs.Theorem.{place_least, fits_none}
use Rattle.answer.specs.Verdict.{refused_at}
use Rattle.answer.specs.declared.Verdict.TheVariants.{Refused}
use Rattle.answer.specs.declared.Answer.{Answer}
use Rattle.rules.specs.declared.Question.{Question}
use Rattle.rules.specs.Accepted.{InRange}
use Rattle.rules.proofs.AcceptedLaws.{range_exactly}
use Rattle.rules.specs.Ruling.{answer_of}
use Rattle.rules.proofs.RefusalLaws.{refusal_whole}
use Rattle.rules.proofs.EarlyLaws.{three_exactly, place_exactly}

-- ── a response's misfits ──

-- a header that is refused is at fault at the end of what holds it where it is cut off, else at its tag
pub header_place : (s : List ℕ) (p : ℕ) → header_of s ≡ Err (misfit p) → p ≡ cond (cut_off s) (length s) 0
header_place = head_place

module _ (s : List ℕ) where
  -- the place that the reading gives is the first of them
  pub place_first : (p : ℕ) → reading s ≡ unfit p ↔ Least p (misfits s)
  place_first = place_least s

  -- and it gives none exactly if there are none
  pub no_misfit : ((p : ℕ) → reading s ≡ unfit p → ⊥) ↔ misfits s ≡ []
  no_misfit = fits_none s

  -- the first of them lies in the response, or at its end
  pub place_inside : (p : ℕ) → Least p (misfits s) → p ≤ length s
  place_inside p m = place_within_lem s p ((place_least s p).1 m)

-- ── the check ──
module _ (q : Question) (name s : List ℕ) where
  -- for a question in range: refusal 3 with a place exactly if that is the first place that does not fit
  pub three_at : InRange q name → (p : ℕ) → answer_of q name s ≡ refused_at 3 0 (Some p) ↔ (length s ≤ 16384) × Least p (misfits s)
  three_at range p =
      let (to, from) = three_exactly q name s ((range_exactly q name).1 range) p in (
        λ e. let (le, r) = to e in (le, (place_least s p).0 r),
        λ (le, m). from (le, (place_least s p).1 m),
      )

  -- for any question: an answer carries a place exactly so
  pub place_carried : (p : ℕ) → (answer_of q name s).place ≡ Some p ↔ InRange q name × (length s ≤ 16384) × Least p (misfits s)
  place_carried p = (
    λ e. let (range, le, r) = (place_exactly q name s p).0 e in ((range_exactly q name).0 range, le, (place_least s p).0 r),
    λ (range, le, m). (place_exactly q name s p).1 ((range_exactly q name).1 range, le, (place_least s p).1 m),
  )

  -- refusal 3 carries a place, and an answer with a place is refusal 3
  pub three_placed : ((p : ℕ) × ((answer_of q name s).place ≡ Some p)) ↔ (answer_of q name s).verdict ≡ Refused 3 0
  three_placed = (
    λ (p, e).
        let (range, le, r) = (place_exactly q name s p).0 e in
        ap (λ (a : Answer). a.verdict) ((three_exactly q name s range p).1 (le, r)),
    λ v. let (p, r, e) = (refusal_whole q name s 3 0 v).three refl in (p, e),
  )

  -- every other answer carries none
  pub others_placeless : ((answer_of q name s).verdict ≡ Refused 3 0 → ⊥) → (answer_of q name s).place ≡ None
  others_placeless h = go (answer_of q name s).place refl
    where
      go : (x : Option ℕ) → (answer_of q name s).place ≡ x → x ≡ None
      go None e = refl
      go (Some p) e = absurd (h (three_placed.0 (p, e)))
