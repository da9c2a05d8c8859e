-- When 5 is given and when 3, in octets: which responses are of another type, and which don't fit.
-- unfit_exactly; two_given, three_given, four_given, five_given. The kinds of responses, and which are of another type, are in
-- specs/Envelopes.
-- `form_of` is an element, its tag, its length and its content (element: Form); `judged_of` is what read_response::judge answers
-- (response: Parts), `answer_of` what the check does (rules: Ruling), `der` the DER form of a reading (layout: Read).
-- Which responses are basic, and which are errors, is in OneReading.
-- Assumes nothing.
use Rattle.std.specs.Prelude.{ℕ, ◌≤◌, ◌<◌, ◌↔◌, ◌≡◌, refl, List, [], ◌∷◌, length, Some, Ok, Err}
use Rattle.std.proofs.Common.{arith}
use Rattle.octets.specs.Octets.{Octets}
use Rattle.element.specs.Places.{misfit}
use Rattle.layout.specs.Limits.{FailureOk}
use Rattle.read_content.specs.ExpectLaws.{never}
use Rattle.read_response.specs.Parts.{judged_of}
use Rattle.read_response.proofs.OutcomeLaws as kinds
use Rattle.read_response.specs.Judged.{Judged}
use Rattle.read_response.specs.declared.Unread.TheVariants as unread
use Rattle.answer.specs.Verdict.{refused_at, refused}
use Rattle.rules.specs.declared.Question.{Question}
use Rattle.rules.specs.Accepted.{InRange}
use Rattle.rules.proofs.AcceptedLaws.{range_exactly}
use Rattle.rules.specs.Ruling.{answer_of}
use Rattle.rules.proofs.EarlyLaws as ruling
use Rattle.promises.specs.OneReading.{basic_exactly, error_exactly}
use Rattle.promises.specs.Envelopes.{IsError, IsOtherType, IsBasic, other_type_exactly}

-- it is judged not to fit, at some place, exactly if it has at most 16,384 octets and is none of the three
pub unfit_exactly : (s : List ℕ) → Octets s
    → ((place : ℕ) × (judged_of s ≡ Err (unread.Unfit (misfit place))))
    ↔ (length s ≤ 16384) × (IsError s → ⊥) × (IsOtherType s → ⊥) × (IsBasic s → ⊥)
unfit_exactly s o = (
  λ (p, e).
      let le = ((kinds.unfit_judged s p).0 e).0 in (
        le,
        λ (n, w, i). let f = (error_exactly s n o).1 (w, i) in never (cc (e, f)),
        λ t. let f = (other_type_exactly s o).1 (le, t) in never (cc (e, f)),
        λ (b, w, i). let (t, f) = (basic_exactly s o).1 (b, w, rw (← i) le, i) in never (cc (e, f)),
      ),
  λ (le, a, b, c). go le a b c (judged_of s) refl,
)
  where
    go : length s ≤ 16384 → (IsError s → ⊥) → (IsOtherType s → ⊥) → (IsBasic s → ⊥) → (j : Judged) → judged_of s ≡ j → (place : ℕ) × (judged_of s ≡ Err (unread.Unfit (misfit place)))
    go le a b c (Ok p) i = let (x, w, z, e) = (basic_exactly s o).0 (p, i) in absurd (c (x, w, e))
    go le a b c (Err unread.TooLong) i = absurd (omega (arith, (kinds.long_judged s).0 i))
    go le a b c (Err (unread.Unfit p)) i = (p.place, i)
    go le a b c (Err (unread.Failed n)) i = let (w, e) = (error_exactly s n o).0 i in absurd (a (n, w, e))
    go le a b c (Err unread.OtherType) i = absurd (b ((other_type_exactly s o).0 i).1)

-- ── what the check answers, for a question in range ──
module _ (q : Question) (name s : List ℕ) (range : InRange q name) where
  -- 2 exactly if the response has more than 16,384 octets
  pub two_given : answer_of q name s ≡ refused 2 0 ↔ 16384 < length s
  two_given = ruling.two_exactly q name s ((range_exactly q name).1 range)

  module _ (o : Octets s) where
    -- 3, with a place, exactly if it has at most that many and is no error response, of no other type, and not basic; which
    -- place is in Misfits
    pub three_given : ((p : ℕ) × (answer_of q name s ≡ refused_at 3 0 (Some p))) ↔ (length s ≤ 16384) × (IsError s → ⊥) × (IsOtherType s → ⊥) × (IsBasic s → ⊥)
    three_given = (
      λ (p, e).
          let (le, r) = (ruling.three_exactly q name s ((range_exactly q name).1 range) p).0 e in
          (unfit_exactly s o).0 (p, (kinds.unfit_judged s p).1 (le, r)),
      λ h.
          let (p, e) = (unfit_exactly s o).1 h in
          let (le, r) = (kinds.unfit_judged s p).0 e in
          (p, (ruling.three_exactly q name s ((range_exactly q name).1 range) p).1 (le, r)),
    )

    -- 5 exactly if it has at most that many and is of another type
    pub five_given : answer_of q name s ≡ refused 5 0 ↔ (length s ≤ 16384) × IsOtherType s
    five_given = (
      λ e. (other_type_exactly s o).0 ((kinds.other_judged s).1 ((ruling.five_exactly q name s ((range_exactly q name).1 range)).0 e)),
      λ h. (ruling.five_exactly q name s ((range_exactly q name).1 range)).1 ((kinds.other_judged s).0 ((other_type_exactly s o).1 h)),
    )

    -- 4, with a status, exactly if it is the error response with that status
    pub four_given : (status : ℕ) → answer_of q name s ≡ refused 4 status ↔ FailureOk status × (s ≡ 0x30 ∷ 0x03 ∷ 0x0a ∷ 0x01 ∷ status ∷ [])
    four_given status = (
      λ e.
          let (le, r) = (ruling.four_exactly q name s ((range_exactly q name).1 range) status).0 e in
          (error_exactly s status o).0 ((kinds.failed_judged s status).1 (le, r)),
      λ h. (ruling.four_exactly q name s ((range_exactly q name).1 range) status).1 ((kinds.failed_judged s status).0 ((error_exactly s status o).1 h)),
    )
