-- What the writers of requests and slips answer, by document 01's numbers, and what they leave in the lent buffer: the octets
-- first and the rest as it was; or a number, 18 where the buffer is too short, and the buffer as it was.
-- request_numbers, slip_numbers. The writers at a place of a buffer are in BuffersAt.
-- `output_told` is document 01's number and values of what is answered (Numbers); `output_of` and `output_in` are what write_request
-- and write_slip answer and leave (fields: Output).
-- Assumes nothing.
use Rattle.std.specs.Prelude.{ℕ, ◌≤◌, ◌<◌, ◌↔◌, ◌≡◌, refl, Bool, true, false, cond, List, [], ◌∷◌, ◌++◌, ltb, length, drop}
use Rattle.std.proofs.Common.{arith, sym, ltb-true, ltb-false}
use Rattle.octets.specs.SameLaws.{impossible}
use Rattle.answer.specs.Card.{card_ok}
use Rattle.answer.specs.declared.Card.{Card}
use Rattle.answer.specs.declared.Answer.{Answer}
use Rattle.fields.specs.Output.{output_of, output_in}
use Rattle.fields.specs.OutputLaws.{output_refused, output_short, output_written, kept_refused, kept_short, first_written}
use Rattle.request.specs.Request.{request_of, request_refusal}
use Rattle.slip.specs.Slip.{slip_of, slip_ok, slip_refusal}
use Rattle.promises.specs.Numbers.{Told, output_told}

-- ── requests and slips ──

-- what is told where there is a refusal, where the buffer is too short, and where the octets are written
module _ (n : ℕ) (out new : List ℕ) where
  abbrev Writes : Bool → Told → List ℕ → Type 0
  Writes fits told left =
      (told.number ≡ n ↔ fits ≡ false)
      × (told.number ≡ 18 ↔ (fits ≡ true) × (length out < length new))
      × (told.number ≡ 0 ↔ (fits ≡ true) × (length new ≤ length out))
      × (told.number ≡ 0 → (told.values ≡ length new ∷ []) × (left ≡ new ++ drop (length new) out))
      × ((told.number ≡ 0 → ⊥) → (told.values ≡ []) × (left ≡ out))

  module _ (not0 : n ≡ 0 → ⊥) (not18 : n ≡ 18 → ⊥) where
    -- one law for both writers, over the number of their refusal
    writes : (fits : Bool) → Writes fits (output_told (output_of (cond fits 0 n) (length out) (length new))) (output_in (cond fits 0 n) out new)
    writes false =
        rw (output_refused n (length out) (length new) not0, kept_refused n out new not0) (
          (λ e. refl, λ e. refl),
          (λ e. absurd (not18 e), λ (e, h). impossible e),
          (λ e. absurd (not0 e), λ (e, h). impossible e),
          λ e. absurd (not0 e),
          λ e. (refl, refl),
        )
    writes true = go (ltb (length out) (length new)) refl
      where
        go : (b : Bool) → ltb (length out) (length new) ≡ b → Writes true (output_told (output_of 0 (length out) (length new))) (output_in 0 out new)
        go true i =
            let h = ltb-true (length out) (length new) i in
            rw (output_short (length out) (length new) h, kept_short out new h) (
              (λ e. absurd (not18 (sym e)), λ e. impossible (sym e)),
              (λ e. (refl, h), λ e. refl),
              (λ e. absurd (omega arith), λ (e, k). absurd (omega arith)),
              λ e. absurd (omega arith),
              λ e. (refl, refl),
            )
        go false i =
            let h = ltb-false (length out) (length new) i in
            rw (output_written (length out) (length new) h, first_written out new h) (
              (λ e. absurd (not0 (sym e)), λ e. impossible (sym e)),
              (λ e. absurd (omega arith), λ (e, k). absurd (omega arith)),
              (λ e. (refl, h), λ e. refl),
              λ e. (refl, refl),
              λ e. absurd (e refl),
            )

-- the request writer gives 1 exactly where the card's serial breaks the rule, 18 exactly where it does not and the buffer is
-- too short, else 0 and n, the number of octets; these are then the first of the buffer, and the rest is unchanged; with 1
-- and with 18 the buffer is as it was
pub request_numbers : (card : Card) (out left : List ℕ) (told : Told)
    → told ≡ output_told (output_of (request_refusal card) (length out) (length (request_of card)))
    → left ≡ output_in (request_refusal card) out (request_of card)
    → (told.number ≡ 1 ↔ card_ok card ≡ false)
    × (told.number ≡ 18 ↔ (card_ok card ≡ true) × (length out < length (request_of card)))
    × (told.number ≡ 0 ↔ (card_ok card ≡ true) × (length (request_of card) ≤ length out))
    × (told.number ≡ 0 → (told.values ≡ length (request_of card) ∷ []) × (left ≡ request_of card ++ drop (length (request_of card)) out))
    × ((told.number ≡ 0 → ⊥) → (told.values ≡ []) × (left ≡ out))
request_numbers card out left told i j = rw (i, j) (writes 1 out (request_of card) (λ e. omega arith) (λ e. omega arith) (card_ok card))

-- the slip writer gives 17 exactly where the answer breaks the slip rules, and is the same in all else
pub slip_numbers : (a : Answer) (out left : List ℕ) (told : Told)
    → told ≡ output_told (output_of (slip_refusal a) (length out) (length (slip_of a)))
    → left ≡ output_in (slip_refusal a) out (slip_of a)
    → (told.number ≡ 17 ↔ slip_ok a ≡ false)
    × (told.number ≡ 18 ↔ (slip_ok a ≡ true) × (length out < length (slip_of a)))
    × (told.number ≡ 0 ↔ (slip_ok a ≡ true) × (length (slip_of a) ≤ length out))
    × (told.number ≡ 0 → (told.values ≡ length (slip_of a) ∷ []) × (left ≡ slip_of a ++ drop (length (slip_of a)) out))
    × ((told.number ≡ 0 → ⊥) → (told.values ≡ []) × (left ≡ out))
unfolding slip_refusal
slip_numbers a out left told i j = rw (i, j) (writes 17 out (slip_of a) (λ e. omega arith) (λ e. omega arith) (slip_ok a))
