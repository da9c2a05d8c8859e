-- One reading, one string of octets (demand 3), of basic responses and of error responses.
-- First half: read_only_form, one_string, one_reading. Second half: every_form_read, exactly_one; error_form.
-- What the reader of the code accepts: basic_exactly, error_exactly.
-- `reading` is what a list of octets says, `der` the DER form of a reading (layout: Read), `Within` the limits by a
-- reading's own fields (layout: Limits), `judged_of` what read_response::judge answers (response: Parts).
-- Assumes nothing.
use Rattle.std.specs.Prelude.{ℕ, ◌≤◌, ◌↔◌, ◌≡◌, refl, List, [], ◌∷◌, length, Ok, Err}
use Rattle.std.proofs.Common.{arith, sym, ap, ◌∙◌}
use Rattle.octets.specs.Octets.{Octets}
use Rattle.layout.specs.Reading.{Reading, Basic, failed, basic}
use Rattle.layout.specs.Limits.{Within, BasicOk, FailureOk}
use Rattle.layout.specs.Read.{reads}
use Rattle.layout.proofs.Read.{der, reading}
use Rattle.layout.proofs.Theorem.{sound, complete, unique, der_octets}
use Rattle.layout.proofs.Opened.{opened}
use Rattle.read_response.specs.Parts.{judged_of, parts_in}
use Rattle.read_response.proofs.JudgedLaws.{judged_basic, basic_judged}
use Rattle.read_response.proofs.OutcomeLaws.{failed_judged}
use Rattle.read_response.specs.declared.Parts.{Parts}
use Rattle.read_response.specs.declared.Unread.TheVariants as unread

-- ── the first half: octets with a reading are its DER form ──

-- what reads as a reading is its DER form, octet by octet, and the reading is within the limits
pub read_only_form : (s : List ℕ) (r : Reading) → Octets s → reading s ≡ reads r → Within r × (s ≡ der r)
read_only_form = sound

-- two responses that say the same are the same octets
pub one_string : (s t : List ℕ) (r : Reading) → Octets s → Octets t → reading s ≡ reads r → reading t ≡ reads r → s ≡ t
one_string = unique

-- and one response says one thing
pub one_reading : (s : List ℕ) (r q : Reading) → reading s ≡ reads r → reading s ≡ reads q → r ≡ q
one_reading s r q x y = cc (x, y)

-- ── the second half: every reading within the limits is read ──

-- the DER form of every reading within the limits, where it has at most 16,384 octets, is octets and reads as it
pub every_form_read : (r : Reading) → Within r → length (der r) ≤ 16384 → Octets (der r) × (reading (der r) ≡ reads r)
every_form_read r h z = (der_octets r h z, complete r h z)

-- so every such reading is read from one string of octets, and from no other
pub exactly_one : (r : Reading) → Within r → length (der r) ≤ 16384
    → (s : List ℕ) → Octets s → reading s ≡ reads r ↔ s ≡ der r
exactly_one r h z s o = (λ e. (sound s r o e).1, λ e. ap reading e ∙ complete r h z)

-- an error response is five octets, and each of the statuses 1, 2, 3, 5 and 6 is read
pub error_form : (n : ℕ) → der (failed n) ≡ 0x30 ∷ 0x03 ∷ 0x0a ∷ 0x01 ∷ n ∷ []
unfolding opened
error_form n = refl

-- ── the same of the code's reader ──

-- read_response::judge calls a response basic exactly when it is the DER form of a basic reading within the limits, of at
-- most 16,384 octets
pub basic_exactly : (s : List ℕ) → Octets s
    → ((t : Parts) × (judged_of s ≡ Ok t))
    ↔ ((b : Basic) × BasicOk b × (length (der (basic b)) ≤ 16384) × (s ≡ der (basic b)))
basic_exactly s o = (
  λ (t, e).
      let h = judged_basic s t e in
      let (w, i) = sound s (basic h.value) o h.read in
      (h.value, w, rw (← i) h.small, i),
  λ (b, w, z, i). (parts_in s b, basic_judged s b (rw i z) (ap reading i ∙ complete (basic b) w z)),
)

-- and an error response exactly when it is 30 03 0A 01 and a status 1, 2, 3, 5 or 6
pub error_exactly : (s : List ℕ) (n : ℕ) → Octets s
    → judged_of s ≡ Err (unread.Failed n) ↔ FailureOk n × (s ≡ 0x30 ∷ 0x03 ∷ 0x0a ∷ 0x01 ∷ n ∷ [])
error_exactly s n o = (
  λ e. let (w, i) = sound s (failed n) o ((failed_judged s n).0 e).1 in (w, i ∙ error_form n),
  λ (w, i).
      let j : s ≡ der (failed n) = i ∙ sym (error_form n) in
      let z : length s ≡ 5 = ap length i in
      (failed_judged s n).1 (omega arith, ap reading j ∙ complete (failed n) w (rw (← j) (omega arith))),
)
