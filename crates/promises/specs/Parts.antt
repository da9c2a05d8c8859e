-- Where the parts of a basic response are: what is judged basic has its parts where the forms of its reading stand.
-- stands_in_full; parts_stand. What is shown of them is in Shown.
-- `judged_of` is what read_response::judge answers, with a place for each part (response: Parts); `Stands s at x`: the octets of s
-- at the place `at` are x, and end inside s (response: Stands); NAME `.enc` is the form of a part (layout: Format), `forms`
-- forms one after the other, `option_enc` a form or nothing (codec: Many, Option).
-- Assumes nothing.
use Rattle.std.specs.Prelude.{ℕ, ◌+◌, ◌≤◌, ◌↔◌, ◌≡◌, refl, List, length, take, drop, Ok}
use Rattle.std.proofs.Common.{ap, ◌∙◌}
use Rattle.octets.specs.Octets.{Octets}
use Rattle.element.specs.declared.Span.{Span}
use Rattle.codec.specs.Option.{option_enc}
use Rattle.codec.specs.Many.{forms}
use Rattle.layout.specs.Reading.{Basic, basic}
use Rattle.layout.proofs.Format.{algorithm_identifier, extensions, single_response, responder_id, response_data, certificates}
use Rattle.layout.specs.Read.{reads}
use Rattle.layout.proofs.Read.{reading}
use Rattle.read_response.specs.Parts.{parts_from, judged_of, parts_in}
use Rattle.read_response.specs.Stands.{Stands}
use Rattle.read_response.proofs.PartsLaws as parts
use Rattle.read_response.proofs.JudgedLaws.{judged_basic}
use Rattle.read_response.specs.declared.Parts.{Parts}

-- octets stand at a place: from its start on, as many as its length, they are these, and they end inside the response
pub stands_in_full : (s : List ℕ) (at : Span) (x : List ℕ)
    → Stands s at x
    ↔ (take at.len (drop at.start s) ≡ x) × (at.start + at.len ≤ length s)
stands_in_full s at x = (λ h. (h.octets, h.inside), λ (i, l). record { octets = i; inside = l })

-- the number of entries is the reading's
count_same : (s : List ℕ) (b : Basic) → (parts_in s b).count ≡ length b.signed.entries
unfolding parts_from
count_same s b = refl

-- what stands at a place of some parts stands at that of the same parts
placed : (s : List ℕ) (part : Parts → Span) (p q : Parts) (x : List ℕ) → p ≡ q → Stands s (part q) x → Stands s (part p) x
placed s part p q x i h = rw i h

-- what is judged basic has at most 16,384 octets and a reading, and at the places that it is judged with stand: the signed
-- part and the responder id, header included; the entries, one after the other, and as many as the count says; the
-- response's extensions, header included, or nothing; the signature's algorithm, header included; the signature, without
-- its 00; and the certificates, header included, or nothing
pub parts_stand : (s : List ℕ) → Octets s → (p : Parts) → judged_of s ≡ Ok p
    → (length s ≤ 16384)
    × ((b : Basic)
    × (reading s ≡ reads (basic b))
    × Stands s p.signed (response_data.enc b.signed)
    × Stands s p.responder (responder_id.enc b.signed.responder)
    × Stands s p.entries (forms single_response.enc b.signed.entries)
    × (p.count ≡ length b.signed.entries)
    × Stands s p.extensions (option_enc extensions.enc b.signed.extensions)
    × Stands s p.algorithm (algorithm_identifier.enc b.algorithm)
    × Stands s p.signature b.signature
    × Stands s p.certificates (option_enc certificates.enc b.certificates))
parts_stand s o p j =
    let h = judged_basic s p j in
    let b = h.value in
    let e = h.read in
    let at : (part : Parts → Span) (x : List ℕ) → Stands s (part (parts_in s b)) x → Stands s (part p) x = λ part x. placed s part p (parts_in s b) x h.parts in (
      h.small,
      (
        b,
        e,
        at (λ t. t.signed) _ (parts.signed_stands s b o e),
        at (λ t. t.responder) _ (parts.responder_stands s b o e),
        at (λ t. t.entries) _ (parts.entries_stand s b o e),
        ap (λ (t : Parts). t.count) h.parts ∙ count_same s b,
        at (λ t. t.extensions) _ (parts.extensions_stand s b o e),
        at (λ t. t.algorithm) _ (parts.algorithm_stands s b o e),
        at (λ t. t.signature) _ (parts.signature_stands s b o e),
        at (λ t. t.certificates) _ (parts.certificates_stand s b o e),
      ),
    )
