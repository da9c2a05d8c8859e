-- The request for a card: the listed octets, how many they are, what they ask, and what the writer leaves.
-- request_octets; request_size_lem, request_asks, request_matches, one_request; request_written, request_refused, request_short.
-- `request_of` is what request::write_request writes (request: Request), `output_of` and `output_in` what it answers and
-- leaves in the lent buffer (fields: Output), `Typed` what is known of a card by its type (request: Request).
-- Assumes nothing.
use Rattle.std.specs.Prelude.{ℕ, ◌+◌, ◌≤◌, ◌<◌, ◌≡◌, refl, true, false, List, [], ◌∷◌, ◌++◌, length, drop}
use Rattle.std.proofs.Common.{arith}
use Rattle.element.specs.Form.{form_of}
use Rattle.codec.specs.Codec.{read}
use Rattle.layout.specs.Reading.{CertId}
use Rattle.answer.specs.Card.{serial_in, card_ok}
use Rattle.answer.specs.declared.Card.{Card}
use Rattle.rule_matching.specs.Match.{is_for}
use Rattle.rule_matching.specs.CertForm.{card_form}
use Rattle.fields.specs.Output.{output_of, output_in}
use Rattle.fields.specs.OutputLaws.{output_refused, output_short, output_written, kept_refused, kept_short, first_written}
use Rattle.fields.specs.declared.Output.TheVariants as output
use Rattle.request.specs.Request.{request_form, request_of, request_refusal, Typed}
use Rattle.request.specs.RequestFormat.{ocsp_request, cert_of}
use Rattle.request.proofs.RequestLaws as request

-- four sequences, each holding only the next, the fourth holding one CertID: SHA-1 with 05 00, both hashes, the serial
pub request_octets : (card : Card) → request_of card
    ≡ form_of 0x30 (form_of 0x30 (form_of 0x30 (form_of 0x30 (form_of 0x30
    ((0x30 ∷ 0x09 ∷ 0x06 ∷ 0x05 ∷ 0x2b ∷ 0x0e ∷ 0x03 ∷ 0x02 ∷ 0x1a ∷ 0x05 ∷ 0x00 ∷ [])
    ++ (form_of 0x04 card.name ++ (form_of 0x04 card.key ++ form_of 0x02 (serial_in card))))))))
unfolding request_form card_form
request_octets card = refl

module _ (card : Card) (t : Typed card) (fits : card_ok card ≡ true) where
  -- 67 plus the serial's length octets, so 68 to 87
  pub request_size_lem : (length (request_of card) ≡ 67 + card.size) × (68 ≤ length (request_of card)) × (length (request_of card) ≤ 87)
  request_size_lem =
      let (l, m) = request.request_range card t.name_size t.key_size t.serial_size fits in
      (request.request_length card t.name_size t.key_size t.serial_size fits, l, m)

  -- the layout of a request reads from these octets the CertID that is asked about
  pub request_asks : ocsp_request.dec (request_of card) ≡ read (cert_of card)
  request_asks = request.request_read card t fits

  -- and an entry with that CertID is for the card
  pub request_matches : (c : CertId) → ocsp_request.dec (request_of card) ≡ read c → is_for card c ≡ true
  request_matches = request.request_for card t fits

-- two cards have two requests
pub one_request : (a b : Card) → Typed a → Typed b → card_ok a ≡ true → card_ok b ≡ true → request_of a ≡ request_of b → a ≡ b
one_request = request.request_injective

-- ── the writer, into a lent buffer ──
module _ (card : Card) (out : List ℕ) where
  -- a card whose serial breaks the rule gets 1, and the buffer is unchanged
  pub request_refused : card_ok card ≡ false
      → (output_of (request_refusal card) (length out) (length (request_of card)) ≡ output.Refused 1)
      × (output_in (request_refusal card) out (request_of card) ≡ out)
  request_refused e =
      let one : request_refusal card ≡ 1 = rw e in
      rw one (output_refused 1 (length out) (length (request_of card)) (λ i. omega arith), kept_refused 1 out (request_of card) (λ i. omega arith))

  -- a buffer that is too short gets 18, and is unchanged
  pub request_short : card_ok card ≡ true → length out < length (request_of card)
      → (output_of (request_refusal card) (length out) (length (request_of card)) ≡ output.Refused 18)
      × (output_in (request_refusal card) out (request_of card) ≡ out)
  request_short e h = rw e (output_short (length out) (length (request_of card)) h, kept_short out (request_of card) h)

  -- otherwise the number of octets is returned, they are the first of the buffer, and the rest is unchanged
  pub request_written : card_ok card ≡ true → length (request_of card) ≤ length out
      → (output_of (request_refusal card) (length out) (length (request_of card)) ≡ output.Octets (length (request_of card)))
      × (output_in (request_refusal card) out (request_of card) ≡ request_of card ++ drop (length (request_of card)) out)
  request_written e h = rw e (output_written (length out) (length (request_of card)) h, first_written out (request_of card) h)
