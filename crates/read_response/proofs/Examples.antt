-- A basic response with every optional part, judged by computing; and what is refused.
-- full, full_judged; unauthorized, m10, left-over.
-- Assumes nothing.
use Rattle.std.specs.Prelude.{ℕ, ◌≡◌, refl, List, [], ◌∷◌, ◌++◌, Some, None, Ok, Err}
use Rattle.element.specs.Places.{misfit, span}
use Rattle.layout.proofs.Opened.{opened}
use Rattle.layout.specs.Examples.{type_element, first, next, hashes, signature}
use Rattle.layout.specs.Sha1.{sha1}
use Rattle.read_response.specs.Parts.{parts_from, judged_as, judged_of}
use Rattle.read_response.specs.Refusals.{refusal, refusal_of}
use Rattle.read_response.specs.declared.Unread.TheVariants as unread

-- ── a response of 235 octets, with two entries of 100 and 41 ──
abbrev revoked_entry : List ℕ
revoked_entry =
    (0x30 ∷ 0x62 ∷ 0x30 ∷ 0x15 ∷ 0x30 ∷ 0x09 ∷ 0x06 ∷ 0x05 ∷ sha1) ++ (0x05 ∷ 0x00 ∷ hashes) ++ (0x02 ∷ 0x02 ∷ 0x00 ∷ 0x80 ∷ [])
    ++ (0xa1 ∷ 0x16 ∷ first) ++ (0xa0 ∷ 0x03 ∷ 0x0a ∷ 0x01 ∷ 0x01 ∷ first) ++ next
    ++ (0xa1 ∷ 0x0d ∷ 0x30 ∷ 0x0b ∷ 0x30 ∷ 0x09 ∷ 0x06 ∷ 0x01 ∷ 0x2a ∷ 0x01 ∷ 0x01 ∷ 0xff ∷ 0x04 ∷ 0x01 ∷ 0x07 ∷ [])

abbrev unknown_entry : List ℕ
unknown_entry = (0x30 ∷ 0x27 ∷ 0x30 ∷ 0x12 ∷ 0x30 ∷ 0x07 ∷ 0x06 ∷ 0x05 ∷ sha1) ++ hashes ++ (0x02 ∷ 0x01 ∷ 0x05 ∷ 0x82 ∷ 0x00 ∷ first)

abbrev pub full : List ℕ
full =
    (0x30 ∷ 0x81 ∷ 0xe8 ∷ 0x0a ∷ 0x01 ∷ 0x00 ∷ 0xa0 ∷ 0x81 ∷ 0xe2 ∷ 0x30 ∷ 0x81 ∷ 0xdf ∷ type_element)
    ++ (0x04 ∷ 0x81 ∷ 0xd1 ∷ 0x30 ∷ 0x81 ∷ 0xce ∷ 0x30 ∷ 0x81 ∷ 0xb9 ∷ 0xa1 ∷ 0x04 ∷ 0x30 ∷ 0x02 ∷ 0x31 ∷ 0x00 ∷ first)
    ++ (0x30 ∷ 0x81 ∷ 0x8d ∷ revoked_entry) ++ unknown_entry
    ++ (0xa1 ∷ 0x10 ∷ 0x30 ∷ 0x0e ∷ 0x30 ∷ 0x05 ∷ 0x06 ∷ 0x01 ∷ 0x2a ∷ 0x04 ∷ 0x00 ∷ 0x30 ∷ 0x05 ∷ 0x06 ∷ 0x01 ∷ 0x2b ∷ 0x04 ∷ 0x00 ∷ [])
    ++ signature ++ (0xa0 ∷ 0x04 ∷ 0x30 ∷ 0x02 ∷ 0x30 ∷ 0x00 ∷ [])

-- where its parts are
full_judged : judged_of full ≡ Ok record {
  signed = span 29 188;
  responder = span 32 6;
  entries = span 58 141;
  count = 2;
  extensions = span 199 18;
  algorithm = span 217 7;
  signature = span 227 2;
  certificates = span 229 6;
}
unfolding opened judged_of judged_as parts_from
full_judged = refl

-- ── refusals ──
-- an error response gives 4, and its status
unauthorized : refusal_of (judged_of (0x30 ∷ 0x03 ∷ 0x0a ∷ 0x01 ∷ 0x06 ∷ [])) ≡ refusal 4 6 None
unfolding opened judged_of judged_as refusal_of
unauthorized = refl

-- M10: 30 03 0A 01 04 gives 3, at the status
m10 : refusal_of (judged_of (0x30 ∷ 0x03 ∷ 0x0a ∷ 0x01 ∷ 0x04 ∷ [])) ≡ refusal 3 0 (Some 2)
unfolding opened judged_of judged_as refusal_of
m10 = refl

-- octets after an error response give 3, at the first of them
left_over : judged_of (0x30 ∷ 0x03 ∷ 0x0a ∷ 0x01 ∷ 0x06 ∷ 0x00 ∷ []) ≡ Err (unread.Unfit (misfit 5))
unfolding opened judged_of judged_as
left_over = refl
