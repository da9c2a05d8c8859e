-- What the functions of include/desk.h that check, ask and read slips answer, in document 01's terms.
-- check_asks, check_answers, check_read; request_answers; slip_answers. Those that show a response are in ForC.
-- A premise of the form `n ≡ ..` says what a function returns or leaves, as its contract tells (contracts: CFunctions); the claims
-- behind it are of the n returned and the buffer `left` as it is left. `Octets s` is what the type of a lent slice says of it. The
-- definitions under those premises are in desk_c: Papers, and in desk_question: Asked.
-- Assumes nothing.
use Rattle.std.specs.Prelude.{ℕ, ◌≤◌, ◌<◌, ◌↔◌, ◌≡◌, true, false, List, ◌++◌, length, drop}
use Rattle.std.proofs.Common.{arith, ◌∙◌, lt-ltb, le-ltb}
use Rattle.octets.specs.Octets.{Octets}
use Rattle.octets.specs.Buffer.{put_in, put_size}
use Rattle.octets.specs.BufferLaws.{put_in_short}
use Rattle.answer.specs.Card.{card_ok}
use Rattle.answer.specs.Verdict.{without_place, refused}
use Rattle.answer.specs.declared.Answer.{Answer}
use Rattle.fields.specs.Field.{card_in}
use Rattle.fields.specs.OutputLaws.{first_written}
use Rattle.fields.specs.Output.{output_in}
use Rattle.slip.specs.Slip.{slip_of, slip_ok, read_of, Hashed}
use Rattle.slip.specs.SlipLaws.{read_written}
use Rattle.request.specs.Request.{request_of}
use Rattle.rules.specs.Ruling.{answer_of}
use Rattle.desk_question.specs.Asked.{question_in, name_in, question_ok, asked}
use Rattle.desk_question.proofs.AskedLaws.{asked_kept, asked_broken}
use Rattle.desk_question.proofs.FitsLaws.{fits_slip}
use Rattle.desk_question.proofs.SizeLaws.{asked_sized, asked_most}
use Rattle.desk_c.specs.Papers.{slip_number, request_size, request_in}
use Rattle.desk_c.specs.PapersLaws as papers

-- ── desk_check ──

-- octets put at the start of a buffer with room
first_put : (out new : List ℕ) → length new ≤ length out → put_in out 0 new ≡ new ++ drop (length new) out
unfolding output_in
first_put out new h = first_written out new h

module _ (question response slip left : List ℕ) (n : ℕ) (a : Answer) (answer : a ≡ asked question response)
    (count : n ≡ put_size slip (slip_of (asked question response)))
    (buffer : left ≡ put_in slip 0 (slip_of (asked question response))) where
  -- the answer is the check's, to the question that the octets have for fields; 1 where they break the form
  pub check_asks : (question_ok 20 question ≡ true → a ≡ answer_of (question_in 20 question) (name_in 20 question) response)
      × (question_ok 20 question ≡ false → a ≡ refused 1 0)
  check_asks = (λ k. answer ∙ asked_kept question response k, λ k. answer ∙ asked_broken question response k)

  -- its slip has at most 87 octets; where the buffer has room n is their number, they come first, and the rest is unchanged;
  -- where it has not, n is 0 and the buffer as it was
  pub check_answers : (length (slip_of a) ≤ 87)
      × (length (slip_of a) ≤ length slip → (n ≡ length (slip_of a)) × (left ≡ slip_of a ++ drop (length (slip_of a)) slip))
      × (length slip < length (slip_of a) → (n ≡ 0) × (left ≡ slip))
  check_answers = rw (answer, count, buffer) (
    asked_most question response,
    λ h. (rw (le-ltb (length slip) (length (slip_of (asked question response))) h), first_put slip (slip_of (asked question response)) h),
    λ h. (rw (lt-ltb (length slip) (length (slip_of (asked question response))) h), put_in_short slip 0 (slip_of (asked question response)) (omega arith)),
  )

  -- and the slip is read back as the answer without its place
  pub check_read : Octets response → (slip_ok a ≡ true) × (read_of 20 (slip_of a) ≡ without_place a)
  check_read o =
      rw answer (
        fits_slip question response o,
        read_written (asked question response) (fits_slip question response o) 20 (λ c. asked_sized question response),
      )

-- ── desk_request ──

-- for a card of 61 octets whose serial keeps the rule, and a buffer with room: the request's length, the request first, and the
-- rest unchanged; else 0, and the buffer as it was
pub request_answers : (card out left : List ℕ) (n : ℕ) → n ≡ request_size card (length out) → left ≡ request_in card out
    → ((length card ≡ 61 → ⊥) → (n ≡ 0) × (left ≡ out))
    × (length card ≡ 61 → card_ok (card_in 20 card) ≡ false → (n ≡ 0) × (left ≡ out))
    × (length card ≡ 61 → card_ok (card_in 20 card) ≡ true → length out < length (request_of (card_in 20 card)) → (n ≡ 0) × (left ≡ out))
    × (length card ≡ 61 → card_ok (card_in 20 card) ≡ true → length (request_of (card_in 20 card)) ≤ length out
    → (n ≡ length (request_of (card_in 20 card))) × (left ≡ request_of (card_in 20 card) ++ drop (length (request_of (card_in 20 card))) out))
request_answers card out left n i j =
    rw (i, j) (papers.request_long card out, papers.request_broken card out, papers.request_short card out, papers.request_written card out)

-- ── desk_slip ──

-- 17 exactly where no answer that keeps the slip rules has these octets as its slip, else 0
pub slip_answers : (s : List ℕ) → Octets s → (n : ℕ) → n ≡ slip_number (read_of 20 s).verdict
    → (n ≡ 17 ↔ ((a : Answer) → slip_ok a ≡ true → Hashed 20 a → slip_of a ≡ s → ⊥))
    × (n ≡ 0 ↔ (a : Answer) × (slip_ok a ≡ true) × Hashed 20 a × (slip_of a ≡ s))
slip_answers s o n i = rw i (papers.slip_none s o, papers.slip_is s o)
