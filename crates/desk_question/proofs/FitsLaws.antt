-- Every answer of the check can be written as a slip: accepted answers keep the slip rules by the layout's limits and by their times,
-- refusals by their numbers.
-- only_limits; said_fits, refusal_fits; answer_fits, fits_slip.
-- The slip rules are in crate slip, the limits in crate layout. Assumes nothing.
-- The laws stand here, and what is made of them; the definitions in specs/FitsLaws.
use Rattle.std.specs.Prelude.{ℕ, ◌≤◌, ◌≡◌, refl, Bool, true, false, cond, List, [], ◌∷◌, eqb}
use Rattle.std.proofs.Common.{arith, ⊎_elim, ap, ◌∙◌, eqb-true, eq-eqb, ne_eqb, le-leb}
use Rattle.std.proofs.Math.Option.{Option, none, some}
use Rattle.std.proofs.lemmas.Bool.{eqb-false}
use Rattle.calendar.specs.Time.{last_second}
use Rattle.octets.specs.Octets.{Octets}
use Rattle.codec.specs.Option.{OptionOk}
use Rattle.codec.specs.Many.{All}
use Rattle.layout.specs.Reading.{Status, good, revoked, unknown, Entry, Basic, failed, basic}
use Rattle.layout.specs.Limits.{TimeOk, ReasonOk, StatusOk, EntryOk, FailureOk}
use Rattle.layout.proofs.Theorem.{sound}
use Rattle.rule_matching.specs.Match.{is_for}
use Rattle.answer.specs.declared.Card.{Card}
use Rattle.answer.specs.declared.Verdict.TheVariants.{Refused}
use Rattle.answer.specs.declared.Answer.{Answer}
use Rattle.answer.specs.Card.{empty_card, card_ok}
use Rattle.answer.specs.CardLaws.{same_card_refl}
use Rattle.answer.specs.Verdict.{kind_of, saying, refused}
use Rattle.rules.specs.declared.Question.{Question}
use Rattle.rules.specs.Order.{entries_for}
use Rattle.rules.specs.Ruling.{reason_in, said, answer_of}
use Rattle.rules.specs.Accepted.{Accepted, IsRefusal}
use Rattle.rules.proofs.RulingLaws.{accepted_answer}
use Rattle.rules.proofs.RefusalLaws.{answer_either}
use Rattle.slip.specs.Rules.{reason_fits, error_ok, status_fits, number_ok, verdict_ok}
use Rattle.slip.specs.Table.{row_in, row_of}
use Rattle.slip.specs.Slip.{card_fits, slip_ok}
use Rattle.desk_question.specs.Asked.{question_in, name_in, question_ok, asked}
use Rattle.desk_question.specs.FitsLaws.{times_fit_lem}
use Rattle.desk_question.proofs.AskedLaws.{asked_broken, asked_kept}

-- ---- the limits of the only entry for a card

all_for : (P : Entry → Type 0) (card : Card) (l : List Entry) → All P l → All P (entries_for card l)
unfolding entries_for
all_for P card [] h = tt
all_for P card (e ∷ l) h = go (is_for card e.cert) (all_for P card l h.1)
  where
    go : (t : Bool) → All P (entries_for card l) → All P (cond t (e ∷ entries_for card l) (entries_for card l))
    go true r = (h.0, r)
    go false r = r

-- an accepted response's entry is within the limits
pub only_limits : (q : Question) (name s : List ℕ) (b : Basic) (e : Entry) (next : ℕ) → Octets s → Accepted q name s b e next → EntryOk e
only_limits q name s b e next o a =
    let h : All EntryOk b.signed.entries = (sound s (basic b) o a.reads_as).0.signed.entries in
    let k : All EntryOk (e ∷ []) = rw a.only at (all_for EntryOk q.card b.signed.entries h) in
    k.0

-- ---- what an entry says keeps the rules of a verdict

reason_fits_lem : (r : Option ℕ) → OptionOk ReasonOk r → reason_fits (reason_in r) ≡ true
unfolding reason_fits
reason_fits_lem none h = refl
reason_fits_lem (some n) h = rw (ne_eqb n 7 h.not7) (le-leb n 10 h.most)

pub said_fits : (x : Status) (this next : ℕ) → StatusOk x → this ≤ next → TimeOk next → verdict_ok (said x this next) ≡ true
unfolding verdict_ok
said_fits good this next s h k = times_fit_lem this next h k
said_fits unknown this next s h k = times_fit_lem this next h k
said_fits (revoked t r) this next s h k = rw (times_fit_lem this next h k, le-leb t last_second s.time) (reason_fits_lem r s.reason)

-- ---- a refusal keeps them

error_fits : (status : ℕ) → FailureOk status → error_ok status ≡ true
unfolding error_ok
error_fits status h = rw (ne_eqb status 4 h.not4, le-leb 1 status h.least) (le-leb status 6 h.most)

number_fits : (n : ℕ) → 1 ≤ n → n ≤ 16 → number_ok n ≡ true
unfolding number_ok
number_fits n l m = rw (le-leb 1 n l) (le-leb n 16 m)

pub refusal_fits : (n status : ℕ) → 1 ≤ n → n ≤ 16 → (n ≡ 4 → FailureOk status) → ((n ≡ 4 → ⊥) → status ≡ 0) → verdict_ok (Refused n status) ≡ true
unfolding verdict_ok status_fits
refusal_fits n status l m f z = rw (number_fits n l m) (go (eqb n 4) refl)
  where
    go : (t : Bool) → eqb n 4 ≡ t → cond t (error_ok status) (eqb status 0) ≡ true
    go true e = error_fits status (f (eqb-true n 4 e))
    go false e = eq-eqb status 0 (z (eqb-false n 4 e))

-- ---- the card

-- good, revoked and unknown have a card
said_carded : (x : Status) (this next : ℕ) → (row_of (kind_of (said x this next))).carded ≡ true
unfolding row_of row_in
said_carded good this next = refl
said_carded unknown this next = refl
said_carded (revoked t r) this next = refl

-- a refusal has none
refused_carded : (n status : ℕ) → (row_of (kind_of (Refused n status))).carded ≡ false
unfolding row_of row_in
refused_carded n status = refl

-- ---- an answer

said_slip : (x : Status) (this next : ℕ) (card : Card) → verdict_ok (said x this next) ≡ true → card_ok card ≡ true
    → slip_ok (saying (said x this next) card) ≡ true
unfolding slip_ok card_fits
said_slip x this next card v c = rw (v, said_carded x this next) c

refused_slip : (a : Answer) (n status : ℕ) → a.verdict ≡ Refused n status → a.card ≡ empty_card → verdict_ok (Refused n status) ≡ true → slip_ok a ≡ true
unfolding slip_ok card_fits
refused_slip a n status i j v = rw (i, j, v, refused_carded n status) (same_card_refl empty_card)

-- what the check answers can be written as a slip
module _ (q : Question) (name s : List ℕ) (o : Octets s) where
  pub answer_fits : slip_ok (answer_of q name s) ≡ true
  answer_fits = ⊎_elim of_accepted of_refusal (answer_either q name s)
    where
      of_accepted : (b : Basic) × (e : Entry) × (next : ℕ) × Accepted q name s b e next → slip_ok (answer_of q name s) ≡ true
      of_accepted (b, e, next, a) =
          let h : EntryOk e = only_limits q name s b e next o a in
          let k : TimeOk next = rw a.ends at h.next_update in
          ap slip_ok (accepted_answer q name s b e next a)
          ∙ said_slip e.status e.this_update next q.card (said_fits e.status e.this_update next h.status a.ordered k) a.range.serial

      of_refusal : (n status : ℕ) × IsRefusal s (answer_of q name s) n status → slip_ok (answer_of q name s) ≡ true
      of_refusal (n, status, r) =
          refused_slip (answer_of q name s) n status r.verdict r.card
          (refusal_fits n status r.least r.most (λ i. (sound s (failed status) o (r.four i)).0) r.other)

-- refusal 1 can
one_fits : slip_ok (refused 1 0) ≡ true
unfolding refused
one_fits = refused_slip (refused 1 0) 1 0 refl refl (refusal_fits 1 0 (omega arith) (omega arith) (λ i. absurd (omega arith)) (λ i. refl))

-- whatever the question's octets and the response are, the answer can be written as a slip
pub fits_slip : (q r : List ℕ) → Octets r → slip_ok (asked q r) ≡ true
fits_slip q r o = go (question_ok 20 q) refl
  where
    go : (t : Bool) → question_ok 20 q ≡ t → slip_ok (asked q r) ≡ true
    go true e = ap slip_ok (asked_kept q r e) ∙ answer_fits (question_in 20 q) (name_in 20 q) r o
    go false e = ap slip_ok (asked_broken q r e) ∙ one_fits
