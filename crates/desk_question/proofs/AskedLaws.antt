-- Laws of the question's octets: when they keep the form, what is answered then, and what the question's fields are.
-- octet_there; question_exactly; asked_broken, asked_kept; desk_short.
-- The definitions are in Asked. That every answer can be written as a slip is in FitsLaws. Assumes nothing.
use Rattle.std.specs.Prelude.{ℕ, ◌+◌, ◌≤◌, ◌<◌, ◌↔◌, ◌≡◌, refl, Bool, true, false, cond, List, eqb, leb, length, get_or, drop}
use Rattle.std.proofs.Common.{arith, ◌∙◌, drop-cons, take_all}
use borrow.Author.Tests.{eqb-true, leb-true, eq-eqb, ne_eqb, le-leb}
use Rattle.octets.specs.Number.{value_of}
use Rattle.octets.specs.SameLaws.{impossible}
use Rattle.answer.specs.Card.{all_zero}
use Rattle.answer.specs.Verdict.{refused}
use Rattle.fields.specs.Field.{value_at}
use Rattle.fields.specs.FieldLaws.{value_there}
use Rattle.rules.specs.Ruling.{answer_of}
use Rattle.desk_question.specs.Asked.{name_size, question_in, name_in, fill_in, question_ok, asked, desk_of}

-- the number of one octet is that octet
pub octet_there : (s : List ℕ) (i : ℕ) → i < length s → value_at s i 1 ≡ get_or s i 0
unfolding value_of
octet_there s i h = value_there s i 1 (omega arith) (omega arith) ∙ rw (drop-cons s i 0 h) (omega arith)

-- ---- the form

module _ (n : ℕ) (q : List ℕ) where
  -- two tests that both hold
  both : (t u : Bool) → cond t u false ≡ true → (t ≡ true) × (u ≡ true)
  both true u e = (refl, e)
  both false u e = impossible e

  -- exact length, kind 51 hex, a Name of at most 256 octets, and zeros after the Name
  pub question_exactly : question_ok n q ≡ true
      ↔ (length q ≡ n + n + 313) × (value_at q 0 1 ≡ 0x51) × (name_size n q ≤ 256) × (all_zero (fill_in n q) ≡ true)
  unfolding question_ok
  question_exactly = (
    λ e.
        let a = both (eqb (length q) (n + n + 313)) (cond (eqb (value_at q 0 1) 0x51) (cond (leb (name_size n q) 256) (all_zero (fill_in n q)) false) false) e in
        let b = both (eqb (value_at q 0 1) 0x51) (cond (leb (name_size n q) 256) (all_zero (fill_in n q)) false) a.1 in
        let c = both (leb (name_size n q) 256) (all_zero (fill_in n q)) b.1 in
        (eqb-true _ _ a.0, eqb-true _ _ b.0, leb-true _ _ c.0, c.1),
    λ h. rw (eq-eqb _ _ h.0, eq-eqb _ _ h.1, le-leb _ _ h.2) h.3,
  )

-- ---- the answer

module _ (q r : List ℕ) where
  -- octets that break the form give 1, whatever the response is
  pub asked_broken : question_ok 20 q ≡ false → asked q r ≡ refused 1 0
  unfolding asked
  asked_broken e = rw e

  -- octets that keep it are a question, and the check answers it
  pub asked_kept : question_ok 20 q ≡ true → asked q r ≡ answer_of (question_in 20 q) (name_in 20 q) r
  unfolding asked
  asked_kept e = rw e

-- an input short of 353 octets gives 1
pub desk_short : (s : List ℕ) → length s < 353 → desk_of s ≡ refused 1 0
unfolding desk_of question_ok
desk_short s h =
    rw (take_all 353 s (omega arith))
    (asked_broken s (drop 353 s) (rw (ne_eqb (length s) 353 (λ e. omega arith))))
