-- When 5 is given and when 3, in octets: which responses are of another type, and which don't fit.
-- IsError, IsOtherType, IsBasic; success_form, other_type_exactly, too_long_exactly. What does not fit, and what the check gives, is in
-- proofs/Envelopes.
-- `form_of` is an element, its tag, its length and its content (element: Form); `judged_of` is what read_response::judge answers
-- (response: Parts), `answer_of` what the check does (rules: Ruling), `der` the DER form of a reading (layout: Read).
-- Which responses are basic, and which are errors, is in OneReading.
-- Assumes nothing.
use Rattle.std.specs.Prelude.{ℕ, ◌≤◌, ◌<◌, ◌↔◌, ◌≡◌, refl, true, List, [], ◌∷◌, ◌++◌, length, Err}
use Rattle.std.proofs.Common.{sym, ◌∙◌}
use Rattle.octets.specs.Octets.{Octets}
use Rattle.element.specs.Form.{form_of}
use Rattle.content.specs.Oid.{oid_ok}
use Rattle.layout.specs.Reading.{Basic, basic}
use Rattle.layout.specs.Names.{success}
use Rattle.layout.proofs.Format.{envelope}
use Rattle.layout.specs.Limits.{BasicOk, FailureOk}
use Rattle.layout.proofs.Read.{der}
use Rattle.layout.proofs.Opened.{opened}
use Rattle.read_response.specs.Parts.{judged_of}
use Rattle.read_response.proofs.OutcomeLaws as kinds
use Rattle.read_response.specs.declared.Unread.TheVariants as unread

-- ── three kinds of responses, in octets ──

-- an error response: 30 03 0A 01 and a status 1, 2, 3, 5 or 6
abbrev pub IsError : List ℕ → Type 0
IsError s = (status : ℕ) × FailureOk status × (s ≡ 0x30 ∷ 0x03 ∷ 0x0a ∷ 0x01 ∷ status ∷ [])

-- a response of another type: 30, holding the status 0A 01 00 and A0, which holds 30 of an OID and an OCTET STRING; the OID
-- keeps the OID rule and is not 1.3.6.1.5.5.7.48.1.1, and nothing is asked of the string
abbrev pub IsOtherType : List ℕ → Type 0
IsOtherType s =
    (type string : List ℕ)
    × (s ≡ form_of 0x30 ((0x0a ∷ 0x01 ∷ 0x00 ∷ []) ++ form_of 0xa0 (form_of 0x30 (form_of 0x06 type ++ form_of 0x04 string))))
    × (oid_ok type ≡ true)
    × (type ≡ 0x2b ∷ 0x06 ∷ 0x01 ∷ 0x05 ∷ 0x05 ∷ 0x07 ∷ 0x30 ∷ 0x01 ∷ 0x01 ∷ [] → ⊥)

-- a basic response: the DER form of a basic reading within the limits
abbrev pub IsBasic : List ℕ → Type 0
IsBasic s = (b : Basic) × BasicOk b × (s ≡ der (basic b))

-- ── what read_response::judge answers ──

-- the layout's envelope of status 0 is those octets
pub success_form : (t c : List ℕ) → envelope.enc (success t c)
    ≡ form_of 0x30 ((0x0a ∷ 0x01 ∷ 0x00 ∷ []) ++ form_of 0xa0 (form_of 0x30 (form_of 0x06 t ++ form_of 0x04 c)))
unfolding opened
success_form t c = refl

-- a response is judged to be of another type exactly if it has at most 16,384 octets and is one
pub other_type_exactly : (s : List ℕ) → Octets s → judged_of s ≡ Err unread.OtherType ↔ (length s ≤ 16384) × IsOtherType s
other_type_exactly s o = (
  λ e. let (le, (t, c, i, k, n)) = (kinds.other_exactly s o).0 e in (le, (t, c, i ∙ success_form t c, k, n)),
  λ (le, (t, c, i, k, n)). (kinds.other_exactly s o).1 (le, (t, c, i ∙ sym (success_form t c), k, n)),
)

-- and too long exactly if it has more
pub too_long_exactly : (s : List ℕ) → judged_of s ≡ Err unread.TooLong ↔ 16384 < length s
too_long_exactly = kinds.long_judged
