-- The version of a signed part (document 02, C-12): which octets a written one is, that it changes no answer, and what
-- another version gives.
-- version_octets_lem, version_taken, version_exactly, version_only, two_strings; no_answer_changed; another_version,
-- another_refused.
-- `version` reads a version, and `signed_body.enc` is the content of a signed part (layout: Format); `versioned` says whether
-- its version is written, and `with_version` is the same signed part with its version written or not (layout: Reading);
-- `form_of` is an element, its tag, its length and its content (element: Form).
-- One reading, one string of octets: OneReading has it of all readings, those with a version written among them.
-- Assumes nothing.
use Rattle.std.specs.Prelude.{ℕ, ◌-◌, ◌≤◌, ◌↔◌, ◌≡◌, Bool, true, false, List, [], ◌∷◌, ◌++◌, length, take, drop, Some, Err}
use Rattle.std.proofs.Common.{sym, ap, ◌∙◌, le-ltb}
use Rattle.octets.specs.Octets.{Octets}
use Rattle.octets.specs.SameLaws.{impossible}
use Rattle.element.specs.Places.{misfit}
use Rattle.element.specs.Form.{form_of}
use Rattle.codec.specs.Codec.{read, got}
use Rattle.codec.specs.Starts.{starts_with}
use Rattle.layout.specs.Reading.{Signed, with_version, Basic, basic}
use Rattle.layout.proofs.Format.{version, signed_body, response_data}
use Rattle.layout.specs.Limits.{SignedOk, BasicOk}
use Rattle.layout.proofs.LimitsLaws.{signed_limits}
use Rattle.layout.specs.Read.{reads}
use Rattle.layout.proofs.Read.{der, reading}
use Rattle.layout.proofs.Theorem.{sound, complete}
use Rattle.layout.proofs.VersionLaws as laws
use Rattle.layout.proofs.OtherVersionLaws as others
use Rattle.answer.specs.Verdict.{refused_at}
use Rattle.read_response.specs.Parts.{judged_of}
use Rattle.read_response.proofs.OutcomeLaws.{unfit_judged}
use Rattle.read_response.specs.declared.Unread.TheVariants as unread
use Rattle.rules.specs.declared.Question.{Question}
use Rattle.rules.specs.Accepted.{InRange}
use Rattle.rules.proofs.AcceptedLaws.{range_exactly}
use Rattle.rules.specs.Order.{tests}
use Rattle.rules.specs.Ruling.{answer_of}
use Rattle.rules.proofs.EarlyLaws.{three_exactly}
use Rattle.promises.specs.Envelopes.{success_form}

-- ── a written version ──

-- with its version written, the content of a signed part is A0 03 02 01 00 and then the content without it
pub version_octets_lem : (d : Signed)
    → signed_body.enc (with_version true d) ≡ (0xa0 ∷ 0x03 ∷ 0x02 ∷ 0x01 ∷ 0x00 ∷ []) ++ signed_body.enc (with_version false d)
version_octets_lem = laws.version_written

-- what is read as a version is these five octets, and they are always read so, whatever follows
pub version_taken : (s : List ℕ) (n : ℕ) → Octets s → version.dec s ≡ got tt n ↔ (n ≡ 5) × (take 5 s ≡ 0xa0 ∷ 0x03 ∷ 0x02 ∷ 0x01 ∷ 0x00 ∷ [])
version_taken = laws.version_taken

-- the layout asks of a signed part what the limits say
content_ok : (d : Signed) → SignedOk d → signed_body.ok d
unfolding response_data
content_ok d h = (signed_limits d).1 h

-- a response's version is written exactly if the content of its signed part begins with these five octets
pub version_exactly : (s : List ℕ) (b : Basic) → Octets s → reading s ≡ reads (basic b)
    → b.signed.versioned ≡ true ↔ take 5 (signed_body.enc b.signed) ≡ 0xa0 ∷ 0x03 ∷ 0x02 ∷ 0x01 ∷ 0x00 ∷ []
version_exactly s b o e = laws.version_first b.signed (content_ok b.signed (sound s (basic b) o e).0.signed)

-- the content of a signed part that begins with A0 is read only if it begins with these five octets
pub version_only : (c : List ℕ) (d : Signed) → Octets c → signed_body.dec c ≡ read d → starts_with 0xa0 c ≡ true
    → take 5 c ≡ 0xa0 ∷ 0x03 ∷ 0x02 ∷ 0x01 ∷ 0x00 ∷ []
version_only = laws.version_only

-- the same response with its version written, or not
abbrev pub at_version : Bool → Basic → Basic
at_version v b =
    record { signed = with_version v b.signed; algorithm = b.algorithm; signature = b.signature; certificates = b.certificates }

-- the version, written or not, has no limit
within : (v : Bool) (b : Basic) → BasicOk b → BasicOk (at_version v b)
within v b h = record {
  signed = record {
    responder = h.signed.responder;
    produced_at = h.signed.produced_at;
    entries = h.signed.entries;
    most = h.signed.most;
    extensions = h.signed.extensions;
  };
  algorithm = h.algorithm;
  signature = h.signature;
  certificates = h.certificates;
}

-- two readings that differ in it alone have two strings of octets
pub two_strings : (b : Basic) → BasicOk b → length (der (basic (at_version true b))) ≤ 16384
    → der (basic (at_version true b)) ≡ der (basic (at_version false b)) → ⊥
two_strings b h z e =
    let p = complete (basic (at_version true b)) (within true b h) z in
    let q = complete (basic (at_version false b)) (within false b h) (rw e at z) in
    let i : reads (basic (at_version true b)) ≡ reads (basic (at_version false b)) = sym p ∙ ap reading e ∙ q in
    let j : at_version true b ≡ at_version false b = cc in
    impossible (sym (ap (λ (x : Basic). x.signed.versioned) j))

-- ── the check ──

-- whether the version is written changes no answer: two responses that read the same but for it get the same answer to
-- every question
pub no_answer_changed : (q : Question) (name s t : List ℕ) (b : Basic) (v : Bool) → length s ≤ 16384 → length t ≤ 16384
    → reading s ≡ reads (basic b) → reading t ≡ reads (basic (at_version v b)) → answer_of q name s ≡ answer_of q name t
unfolding answer_of tests
no_answer_changed q name s t b v l m e f = rw (e, f, le-ltb 16384 (length s) l, le-ltb 16384 (length t) m)

-- ── another version ──
-- a response whose signed part begins with A0, which holds an INTEGER of another content than 00; z follows that in the A0,
-- x the A0 in the signed part, and y the signed part
module _ (w z x y s : List ℕ) (other : w ≡ 0x00 ∷ [] → ⊥) (o : Octets s) (le : length s ≤ 16384)
    (same : s ≡ form_of 0x30 ((0x0a ∷ 0x01 ∷ 0x00 ∷ []) ++ form_of 0xa0 (form_of 0x30
    (form_of 0x06 (0x2b ∷ 0x06 ∷ 0x01 ∷ 0x05 ∷ 0x05 ∷ 0x07 ∷ 0x30 ∷ 0x01 ∷ 0x01 ∷ [])
    ++ form_of 0x04 (form_of 0x30 (form_of 0x30 (form_of 0xa0 (form_of 0x02 w ++ z) ++ x) ++ y)))))) where
  -- the place that is wrong
  abbrev place : ℕ
  place = length s - length (form_of 0x02 w ++ (z ++ (x ++ y)))

  -- does not fit, and the place is that INTEGER
  pub another_version : (judged_of s ≡ Err (unread.Unfit (misfit place))) × (drop place s ≡ form_of 0x02 w ++ (z ++ (x ++ y)))
  another_version = ((unfit_judged s place).1 (le, others.another_place w z x y other s o le (same ∙ sym (success_form _ _))), others.another_stands w z x y other s (same ∙ sym (success_form _ _)))

  -- so a question in range gets 3, with that place
  pub another_refused : (q : Question) (name : List ℕ) → InRange q name → answer_of q name s ≡ refused_at 3 0 (Some place)
  another_refused q name range = (three_exactly q name s ((range_exactly q name).1 range) place).1 (le, others.another_place w z x y other s o le (same ∙ sym (success_form _ _)))
