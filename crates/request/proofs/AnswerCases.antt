-- The cases of the function that writes the request for a card: what each return has learned.
-- size_inside, size_taken, taken_few, taken_room; unfit_answer, unfit_kept; few, size_fits; short_answer, short_kept;
-- written_answer, written_in; all in request_cases.
-- Assumes nothing.
use Prim.Native.Nat.{ℕ, ◌+◌, ◌≤◌, ◌<◌}
use native.Mathlib.Omega.{arith}
use mathlib.Core.Path.{◌≡◌, sym, ◌∙◌}
use mathlib.Core.Bool.{Bool, true, false, not}
use mathlib.Core.List.{List}
use lib.ListN.{length, take}
use lib.Seq.{length-take-le}
use borrow.Author.Tests.{not-true, not-false}
use mir.Syntax.{w64}
use mir.Val.{Fits}
use Rattle.octets.specs.Buffer.{put_in}
use Rattle.answer.specs.Card.{card_ok}
use Rattle.answer.specs.CardLaws.{field_exactly}
use Rattle.answer.specs.declared.Card.{Card}
use Rattle.fields.specs.declared.Output.TheVariants.{Octets, Refused}
use Rattle.fields.specs.Output.{output_of, output_in}
use Rattle.fields.specs.OutputLaws.{output_refused, output_short, output_written, kept_refused, kept_short}
use Rattle.request.specs.Request.{request_of, request_refusal}
use Rattle.request.proofs.RequestLaws.{request_length}

-- ---- the serial in its field of twenty octets

module _ (field : List ℕ) (l : length field ≡ 20) (m : ℕ) (h : m ≤ 20) where
  pub size_inside : m ≤ length field
  size_inside = omega arith

  pub size_taken : m ≡ length (take m field)
  size_taken = sym (length-take-le m field size_inside)

  pub taken_few : length (take m field) ≤ 20
  taken_few = omega (arith, size_taken)

  pub taken_room : (out : List ℕ) → 67 + m ≤ length out → 67 + length (take m field) ≤ length out
  taken_room out z = omega (arith, size_taken)

-- ---- the answers

module _ (card : Card) (out : List ℕ) (r : Bool) (q : r ≡ card_ok card) where
  -- the card does not fit
  pub unfit_answer : not r ≡ true → Refused 1 ≡ output_of (request_refusal card) (length out) (length (request_of card))
  unfit_answer t = rw (← q, not-true r t) (sym (output_refused 1 (length out) (length (request_of card)) (λ e. omega arith)))

  pub unfit_kept : not r ≡ true → out ≡ output_in (request_refusal card) out (request_of card)
  unfit_kept t = rw (← q, not-true r t) (sym (kept_refused 1 out (request_of card) (λ e. omega arith)))

  module _ (t : not r ≡ false) where
    fits : card_ok card ≡ true
    fits = sym q ∙ not-false r t

    -- the card fits: its serial has few octets
    pub few : card.size ≤ 20
    few = ((field_exactly card.size card.serial).0 fits).0

    pub size_fits : (m : ℕ) → m ≤ 1024 → Fits w64 (m + card.size)
    size_fits m h = record { fits = omega (arith, few) }

    module _ (n : length card.name ≡ 20) (k : length card.key ≡ 20) (s : length card.serial ≡ 20) where
      long : length (request_of card) ≡ 67 + card.size
      long = request_length card n k s fits

      -- there is no room
      module _ (l : length out < 67 + card.size) where
        pub short_answer : Refused 18 ≡ output_of (request_refusal card) (length out) (length (request_of card))
        short_answer = rw (fits, long) (sym (output_short (length out) (67 + card.size) l))

        pub short_kept : out ≡ output_in (request_refusal card) out (request_of card)
        short_kept = rw fits (sym (kept_short out (request_of card) (rw long l)))

      -- there is room
      pub written_answer : 67 + card.size ≤ length out → Octets (67 + card.size) ≡ output_of (request_refusal card) (length out) (length (request_of card))
      written_answer l = rw (fits, long) (sym (output_written (length out) (67 + card.size) l))

    pub written_in : (p : List ℕ) → p ≡ put_in out 0 (request_of card) → p ≡ output_in (request_refusal card) out (request_of card)
    unfolding output_in
    written_in p e = e ∙ rw fits

pub ruleset request_cases = (size_inside, size_taken, taken_few, taken_room, unfit_answer, unfit_kept, few, size_fits, short_answer, short_kept, written_answer, written_in)
