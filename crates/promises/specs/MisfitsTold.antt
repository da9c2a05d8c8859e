-- Where a response breaks, as the functions beside the check tell it (document 02, C-16): the refusal of a response, its entries one
-- by one, the walk, the desk's answer to octets, and desk_misfit.
-- refusal_at, entry_at, step_at; asked_at_lem, misfit_answers. The check is in Misfits, and so is what `misfits` and `Least` are.
-- `entry_of` is what show::entry_at answers (show: Shown), `say_of` what a step of a walk says (walk_rules: Walked), `asked` the
-- answer to octets (desk_question: Asked). A premise of the form `n ≡ ..` says what desk_misfit returns, and `after` what it
-- leaves, as its contract tells (contracts: CFunctions).
-- Assumes nothing.
use Rattle.std.specs.Prelude.{ℕ, ◌≤◌, ◌↔◌, ◌≡◌, refl, Bool, true, false, List, [], length, Some, Ok, Err}
use Rattle.std.proofs.Common.{arith, ◌∙◌}
use Rattle.std.proofs.Math.Path.{sym, ap}
use Rattle.std.specs.Borrow.{Bor}
use Rattle.octets.specs.SameLaws.{impossible}
use Rattle.element.specs.Places.{misfit}
use Rattle.faults.specs.Order.{Least}
use Rattle.misfits.specs.Misfits.{misfits}
use Rattle.misfits.proofs.Theorem.{place_least}
use Rattle.answer.specs.Verdict.{refused}
use Rattle.read_content.specs.ExpectLaws.{never}
use Rattle.read_response.specs.Parts.{judged_of}
use Rattle.read_response.specs.Refusals.{refusal_of}
use Rattle.read_response.proofs.OutcomeLaws.{unfit_judged}
use Rattle.read_response.specs.Judged.{Judged}
use Rattle.read_response.specs.declared.Unread.TheVariants as unread
use Rattle.show.specs.Shown.{entry_of}
use Rattle.show.proofs.EntryLaws.{entry_refused}
use Rattle.show.specs.declared.Entry.TheVariants as entry
use Rattle.rules.specs.Accepted.{InRange}
use Rattle.walk_rules.specs.Walked.{say_of}
use Rattle.walk_rules.specs.Handed.{at}
use Rattle.desk_question.specs.Asked.{question_in, name_in, question_ok, asked}
use Rattle.desk_question.proofs.AskedLaws.{asked_kept, asked_broken}
use Rattle.desk_c.specs.Places.{entry_number, place_over}
use Rattle.desk_c.specs.EntryLaws.{entry_number_lem}
use Rattle.promises.specs.Misfits.{no_misfit, place_carried}

-- ── what is shown, and the walk ──
-- it does not fit, at this place
abbrev unfit_at : ℕ → Judged
unfit_at p = Err (unread.Unfit (misfit p))

-- a place goes with what does not fit, and with nothing else
unfit_place : (j : Judged) (p : ℕ) → (refusal_of j).place ≡ Some p ↔ j ≡ unfit_at p
unfolding refusal_of
unfit_place (Ok t) p = (λ e. never (cc e), λ e. never (cc e))
unfit_place (Err unread.TooLong) p = (λ e. never (cc e), λ e. never (cc e))
unfit_place (Err (unread.Unfit k)) p = (λ e. let i : k.place ≡ p = cc e in ap unfit_at i, λ e. let i : k.place ≡ p = cc e in ap Some i)
unfit_place (Err (unread.Failed n)) p = (λ e. never (cc e), λ e. never (cc e))
unfit_place (Err unread.OtherType) p = (λ e. never (cc e), λ e. never (cc e))

-- as has 3
unfit_number : (j : Judged) → (refusal_of j).number ≡ 3 → (p : ℕ) × (j ≡ unfit_at p)
unfolding refusal_of
unfit_number (Ok t) e = absurd (omega arith)
unfit_number (Err unread.TooLong) e = absurd (omega arith)
unfit_number (Err (unread.Unfit p)) e = (p.place, refl)
unfit_number (Err (unread.Failed n)) e = absurd (omega arith)
unfit_number (Err unread.OtherType) e = absurd (omega arith)

module _ (s : List ℕ) (p : ℕ) where
  judged_at : judged_of s ≡ unfit_at p ↔ (length s ≤ 16384) × Least p (misfits s)
  judged_at =
      let (to, from) = unfit_judged s p in (
        λ e. let (le, r) = to e in (le, (place_least s p).0 r),
        λ (le, m). from (le, (place_least s p).1 m),
      )

  -- read_response::refuse
  pub refusal_at : (refusal_of (judged_of s)).place ≡ Some p ↔ (length s ≤ 16384) × Least p (misfits s)
  refusal_at = (λ e. judged_at.0 ((unfit_place (judged_of s) p).0 e), λ h. (unfit_place (judged_of s) p).1 (judged_at.1 h))

  -- show::entry_at, at every ordinal
  pub entry_at : (k : ℕ) → entry_of s k ≡ entry.Refused 3 0 (Some p) ↔ (length s ≤ 16384) × Least p (misfits s)
  unfolding refusal_of entry_number
  entry_at k = (
    λ e.
        let (n, i) = unfit_number (judged_of s) (sym (entry_number_lem s k) ∙ ap entry_number e) in
        let h = sym (entry_refused s k (unfit_at n) i (λ t x. never (cc x))) ∙ e in
        let j : n ≡ p = cc h in
        judged_at.0 (i ∙ ap unfit_at j),
    λ h. entry_refused s k (unfit_at p) (judged_at.1 h) (λ t x. never (cc x)),
  )

-- walk::next, from every place of a walk
pub step_at : (r : Bor (List ℕ)) (k p : ℕ) → say_of (at r k) ≡ entry.Refused 3 0 (Some p) ↔ (length r.now ≤ 16384) × Least p (misfits r.now)
step_at r k p = entry_at r.now p k

-- ── octets ──
-- the desk's answer to the octets of a question and of a response
pub asked_at_lem : (q r : List ℕ) (p : ℕ) → (asked q r).place ≡ Some p
    ↔ (question_ok 20 q ≡ true) × InRange (question_in 20 q) (name_in 20 q) × (length r ≤ 16384) × Least p (misfits r)
unfolding refused
asked_at_lem q r p = go (question_ok 20 q) refl
  where
    go : (t : Bool) → question_ok 20 q ≡ t → (asked q r).place ≡ Some p
        ↔ (t ≡ true) × InRange (question_in 20 q) (name_in 20 q) × (length r ≤ 16384) × Least p (misfits r)
    go true e =
        let (to, from) = place_carried (question_in 20 q) (name_in 20 q) r p in
        rw (asked_kept q r e) (λ h. let (range, le, m) = to h in (refl, range, le, m), λ h. from (h.1, h.2, h.3))
    go false e = rw (asked_broken q r e) (λ h. never (cc h), λ h. impossible h.0)

-- desk_misfit: with 3 the place that it leaves is the first that does not fit, and with any other number what stood there
-- stays; 3 is returned exactly if there is a misfit and the response has at most 16,384 octets
pub misfit_answers : (s : List ℕ) (n before after : ℕ) → n ≡ (refusal_of (judged_of s)).number
    → after ≡ place_over (refusal_of (judged_of s)).place before
    → (n ≡ 3 ↔ (length s ≤ 16384) × (misfits s ≡ [] → ⊥)) × (n ≡ 3 → Least after (misfits s)) × ((n ≡ 3 → ⊥) → after ≡ before)
unfolding refusal_of
misfit_answers s n before after i j =
    rw (i, j) (
      (
        λ e.
            let (p, u) = unfit_number (judged_of s) e in
            let (le, r) = (unfit_judged s p).0 u in
            (le, λ z. (no_misfit s).1 z p r),
        λ (le, h). given le h (judged_of s) refl,
      ),
      λ e.
          let (p, u) = unfit_number (judged_of s) e in
          rw u ((judged_at s p).0 u).1,
      λ h. kept (judged_of s) h,
    )
  where
    none : length s ≤ 16384 → ((p : ℕ) → judged_of s ≡ unfit_at p → ⊥) → misfits s ≡ []
    none le f = (no_misfit s).0 (λ p r. f p ((unfit_judged s p).1 (le, r)))

    given : length s ≤ 16384 → (misfits s ≡ [] → ⊥) → (j : Judged) → judged_of s ≡ j → (refusal_of j).number ≡ 3
    given le h (Err (unread.Unfit p)) e = refl
    given le h (Ok t) e = absurd (h (none le (λ p f. never (cc (e, f)))))
    given le h (Err unread.TooLong) e = absurd (h (none le (λ p f. never (cc (e, f)))))
    given le h (Err (unread.Failed m)) e = absurd (h (none le (λ p f. never (cc (e, f)))))
    given le h (Err unread.OtherType) e = absurd (h (none le (λ p f. never (cc (e, f)))))

    kept : (j : Judged) → ((refusal_of j).number ≡ 3 → ⊥) → place_over (refusal_of j).place before ≡ before
    kept (Ok t) h = refl
    kept (Err unread.TooLong) h = refl
    kept (Err (unread.Unfit p)) h = absurd (h refl)
    kept (Err (unread.Failed m)) h = refl
    kept (Err unread.OtherType) h = refl
