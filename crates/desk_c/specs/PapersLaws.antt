-- Laws of what the C functions on slips and requests answer.
-- read_sized; slip_is, slip_none; request_long, request_broken, request_short, request_written.
-- The definitions are in Papers; those of slips and requests are in crates slip and request.
-- Assumes nothing.
use Rattle.std.specs.Prelude.{ℕ, ◌≤◌, ◌<◌, ◌⊎◌, ◌↔◌, ◌≡◌, refl, Bool, true, false, cond, List, [], ◌∷◌, ◌++◌, eqb, length, drop}
use Rattle.std.proofs.Common.{arith, inl, inr, ⊎_elim, sym, ap, ◌∙◌, eqb-true, eq-eqb, ne_eqb}
use Rattle.octets.specs.Octets.{Octets}
use Rattle.octets.specs.SameLaws.{impossible}
use Rattle.answer.specs.Card.{empty_card, card_ok}
use Rattle.answer.specs.Verdict.{saying, without_place, refused}
use Rattle.answer.specs.declared.Answer.{Answer}
use Rattle.answer.specs.declared.Verdict.{Verdict}
use Rattle.answer.specs.declared.Verdict.TheVariants.{Good, Revoked, Unknown, Refused}
use Rattle.fields.specs.Field.{card_in}
use Rattle.fields.specs.OutputLaws.{output_refused, output_short, output_written, kept_refused, kept_short, first_written}
use Rattle.request.specs.Request.{request_of}
use Rattle.slip.specs.Table.{Row, row_of, body_size}
use Rattle.slip.specs.Rules.{verdict_ok}
use Rattle.slip.specs.RulesLaws.{refused_broken}
use Rattle.slip.specs.Slip.{slip_of, slip_ok, verdict_in, card_under, parsed_as, parsed, read_of, Hashed, Sized}
use Rattle.slip.specs.SlipLaws.{slip_parts, written_read, read_written}
use Rattle.desk_question.proofs.SizeLaws.{card_sized}
use Rattle.desk_c.specs.Papers.{slip_number, size_or0, request_size, request_in}

-- ── slips ──

-- the card of an answer that is read has twenty octets in each field
empty_sized : Sized 20 empty_card
unfolding empty_card
empty_sized = record { name = refl; key = refl; serial = refl }

under_sized : (r : Row) (s : List ℕ) → Sized 20 (card_under 20 r s)
unfolding card_under
under_sized r s = go r.carded
  where
    go : (t : Bool) → Sized 20 (cond t (card_in 20 s) empty_card)
    go true = card_sized 20 s
    go false = empty_sized

as_sized : (r : Row) (s : List ℕ) → Sized 20 (parsed_as 20 r s).card
unfolding parsed_as refused
as_sized r s = go (eqb (length s) (body_size 20 r))
  where
    go : (t : Bool) → Sized 20 (cond t (saying (verdict_in 20 r s) (card_under 20 r s)) (refused 17 0)).card
    go true = under_sized r s
    go false = empty_sized

parsed_sized : (s : List ℕ) → Sized 20 (parsed 20 s).card
unfolding parsed refused
parsed_sized [] = empty_sized
parsed_sized (kind ∷ s) = as_sized (row_of kind) s

pub read_sized : (s : List ℕ) → Sized 20 (read_of 20 s).card
unfolding read_of refused
read_sized s = go (slip_ok (parsed 20 s))
  where
    go : (t : Bool) → Sized 20 (cond t (parsed 20 s) (refused 17 0)).card
    go true = parsed_sized s
    go false = empty_sized

-- 0 or 17; 0 of a verdict that keeps the slip rules
number_either : (v : Verdict) → (slip_number v ≡ 0) ⊎ (slip_number v ≡ 17)
unfolding slip_number
number_either (Good this next) = inl refl
number_either (Revoked this next at reason) = inl refl
number_either (Unknown this next) = inl refl
number_either (Refused number status) = go (eqb number 17)
  where
    go : (t : Bool) → (◌≡◌ {A = ℕ} (cond t 17 0) 0) ⊎ (◌≡◌ {A = ℕ} (cond t 17 0) 17)
    go true = inr refl
    go false = inl refl

number_kept : (v : Verdict) → verdict_ok v ≡ true → slip_number v ≡ 0
unfolding slip_number
number_kept (Good this next) ok = refl
number_kept (Revoked this next at reason) ok = refl
number_kept (Unknown this next) ok = refl
number_kept (Refused number status) ok = go (eqb number 17) refl
  where
    go : (t : Bool) → eqb number 17 ≡ t → ◌≡◌ {A = ℕ} (cond t 17 0) 0
    go true e = impossible (sym (refused_broken status) ∙ ap (λ (k : ℕ). verdict_ok (Refused k status)) (sym (eqb-true number 17 e)) ∙ ok)
    go false e = refl

number_refused : slip_number (refused 17 0).verdict ≡ 17
unfolding slip_number refused
number_refused = refl

module _ (s : List ℕ) (o : Octets s) where
  -- 0 exactly where an answer that keeps the slip rules has these octets as its slip
  pub slip_is : slip_number (read_of 20 s).verdict ≡ 0 ↔ (a : Answer) × (slip_ok a ≡ true) × Hashed 20 a × (slip_of a ≡ s)
  slip_is = (
    λ e.
        let w = written_read 20 s o (λ (z : read_of 20 s ≡ refused 17 0). absurd (omega (arith, ap (λ (a : Answer). slip_number a.verdict) z, number_refused))) in
        (read_of 20 s, w.0, λ c. read_sized s, w.1),
    λ (a, ok, h, i).
        let r : read_of 20 s ≡ without_place a = ap (read_of 20) (sym i) ∙ read_written a ok 20 h in
        ap (λ (x : Answer). slip_number x.verdict) r ∙ number_kept a.verdict (slip_parts a ok).0,
  )

  -- 17 exactly where none has
  pub slip_none : slip_number (read_of 20 s).verdict ≡ 17 ↔ ((a : Answer) → slip_ok a ≡ true → Hashed 20 a → slip_of a ≡ s → ⊥)
  slip_none = (
    λ e a ok h i. omega (arith, slip_is.1 (a, ok, h, i)),
    λ f.
        ⊎_elim
        (λ (z : slip_number (read_of 20 s).verdict ≡ 0). let (a, ok, h, i) = slip_is.0 z in absurd (f a ok h i))
        (λ (z : slip_number (read_of 20 s).verdict ≡ 17). z)
        (number_either (read_of 20 s).verdict),
  )

-- ── requests ──
module _ (card out : List ℕ) where
  -- octets that are no card, a card whose serial breaks the rule, a buffer that is too short: 0, and the buffer as it was
  pub request_long : (length card ≡ 61 → ⊥) → (request_size card (length out) ≡ 0) × (request_in card out ≡ out)
  unfolding request_size request_in
  request_long h = rw (ne_eqb (length card) 61 h) (refl, refl)

  module _ (h : length card ≡ 61) where
    pub request_broken : card_ok (card_in 20 card) ≡ false → (request_size card (length out) ≡ 0) × (request_in card out ≡ out)
    unfolding request_size request_in size_or0
    request_broken e =
        rw (eq-eqb (length card) 61 h, e, output_refused 1 (length out) (length (request_of (card_in 20 card))) (λ i. omega arith))
        (refl, kept_refused 1 out (request_of (card_in 20 card)) (λ i. omega arith))

    pub request_short : card_ok (card_in 20 card) ≡ true → length out < length (request_of (card_in 20 card))
        → (request_size card (length out) ≡ 0) × (request_in card out ≡ out)
    unfolding request_size request_in size_or0
    request_short e l =
        rw (eq-eqb (length card) 61 h, e, output_short (length out) (length (request_of (card_in 20 card))) l)
        (refl, kept_short out (request_of (card_in 20 card)) l)

    -- else the request's length, and the request first
    pub request_written : card_ok (card_in 20 card) ≡ true → length (request_of (card_in 20 card)) ≤ length out
        → (request_size card (length out) ≡ length (request_of (card_in 20 card)))
        × (request_in card out ≡ request_of (card_in 20 card) ++ drop (length (request_of (card_in 20 card))) out)
    unfolding request_size request_in size_or0
    request_written e l =
        rw (eq-eqb (length card) 61 h, e, output_written (length out) (length (request_of (card_in 20 card))) l)
        (refl, first_written out (request_of (card_in 20 card)) l)
