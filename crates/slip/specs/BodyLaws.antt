-- Laws of bodies: a body that was written is read, and one that is read is written as the same octets, whatever its row.
-- answer_same; body_length, body_read, body_written.
-- The definitions are in Slip. A hash has n octets. Assumes nothing.
use Rattle.std.specs.Prelude.{ℕ, ◌+◌, ◌<◌, ◌≡◌, Bool, drop}
use Rattle.std.proofs.Common.{arith, ◌∙◌, length-drop, drop_at, eq-eqb}
use Rattle.std.proofs.Math.Path.{refl, sym, ap, ap₂}
use Rattle.std.proofs.Math.Bool.{true, false, cond}
use mathlib.Core.List.{List, [], ◌++◌, append-nil}
use Rattle.std.proofs.Math.ListN.{length, take, length-append, take-append-drop}
use Rattle.octets.specs.Octets.{Octets}
use Rattle.octets.specs.OctetsLaws.{octets_drop}
use Rattle.answer.specs.declared.Card.{Card}
use Rattle.answer.specs.declared.Verdict.{Verdict}
use Rattle.answer.specs.Card.{empty_card}
use Rattle.answer.specs.Verdict.{saying}
use Rattle.fields.specs.Field.{card_in}
use Rattle.slip.specs.Numbers.{total, numbers_form, numbers_in}
use Rattle.slip.specs.NumbersLaws.{Fitting, fitting_count, numbers_length, numbers_read, numbers_written}
use Rattle.slip.specs.Table.{Row, card_size, body_size}
use Rattle.slip.specs.Slip.{card_octets, body_of, verdict_in, card_under, parsed_as, Sized}
use Rattle.slip.specs.CardOctetsLaws.{card_length, card_read, card_written}

-- an answer without a place by its two parts
pub answer_same : {v w : Verdict} {c d : Card} → v ≡ w → c ≡ d → saying v c ≡ saying w d
answer_same p q = λ i. saying (p i) (q i)

module _ (n : ℕ) (r : Row) where
  -- the card's part of a body
  abbrev front : Card → List ℕ
  front card = cond r.carded (card_octets card) []

  module _ (card : Card) (vs : List ℕ) (h : r.carded ≡ true → Sized n card) where
    front_length : length (front card) ≡ card_size n r
    front_length = go r.carded h
      where
        go : (t : Bool) → (t ≡ true → Sized n card) → length (cond t (card_octets card) []) ≡ cond t (n + n + 21) 0
        go true h = card_length card n (h refl)
        go false h = refl

    -- a body has its size
    pub body_length : length vs ≡ length r.widths → length (body_of r card vs) ≡ body_size n r
    unfolding body_of body_size
    body_length e =
        length-append (front card) (numbers_form r.widths vs) ∙ ap₂ (λ (a b : ℕ). a + b) front_length (numbers_length r.widths vs e)

    numbers_back : Fitting r.widths vs → numbers_in r.widths (drop (card_size n r) (body_of r card vs)) ≡ vs
    unfolding body_of
    numbers_back f =
        ap
        (numbers_in r.widths)
        (drop_at (front card) (numbers_form r.widths vs) (card_size n r) front_length ∙ sym (append-nil (numbers_form r.widths vs)))
        ∙ numbers_read r.widths vs [] f

    card_back : (r.carded ≡ true → card.size < 256) → card_under n r (body_of r card vs) ≡ cond r.carded card empty_card
    unfolding body_of card_under
    card_back l = go r.carded h l
      where
        go : (t : Bool) → (t ≡ true → Sized n card) → (t ≡ true → card.size < 256)
            → cond t (card_in n (cond t (card_octets card) [] ++ numbers_form r.widths vs)) empty_card ≡ cond t card empty_card
        go true h l = card_read card (numbers_form r.widths vs) n (h refl) (l refl)
        go false h l = refl

    -- a body that was written is read
    pub body_read : (r.carded ≡ true → card.size < 256) → Fitting r.widths vs
        → parsed_as n r (body_of r card vs) ≡ saying (r.says vs) (cond r.carded card empty_card)
    unfolding parsed_as verdict_in
    body_read l f =
        rw (eq-eqb (length (body_of r card vs)) (body_size n r) (body_length (fitting_count r.widths vs f)))
        (answer_same (ap r.says (numbers_back f)) (card_back l))

  -- a body that was read is written as it stood
  module _ (s : List ℕ) (p : Octets s) (e : length s ≡ body_size n r) where
    front_same : front (card_under n r s) ≡ take (card_size n r) s
    unfolding body_size card_under
    front_same = go r.carded e
      where
        go : (t : Bool) → length s ≡ cond t (n + n + 21) 0 + total r.widths
            → cond t (card_octets (cond t (card_in n s) empty_card)) [] ≡ take (cond t (n + n + 21) 0) s
        go true e = card_written n s p (omega arith)
        go false e = refl

    pub body_written : body_of r (card_under n r s) (numbers_in r.widths (drop (card_size n r) s)) ≡ s
    unfolding body_of body_size
    body_written =
        ap₂
        (λ (a b : List ℕ). a ++ b)
        front_same
        (numbers_written r.widths (drop (card_size n r) s) (octets_drop (card_size n r) s p) (length-drop (card_size n r) s ∙ omega arith))
        ∙ take-append-drop (card_size n r) s
