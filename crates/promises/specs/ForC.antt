-- What the functions of include/desk.h that show a response answer, in document 01's terms.
-- Shows; nothing_shown, signed_answers, signature_answers, algorithm_answers, certificates_answers;
-- entry_answers, entry_shown. The check, requests and slips are in PapersForC.
-- A premise of the form `n ≡ ..` says what a function returns or leaves, as its contract tells (contracts: CFunctions); the claims
-- behind it are of the n returned and the places `from` and `len`. `Octets s` is what the type of a lent slice says of it. The
-- definitions under those premises are in desk_c: Places.
-- What desk_refusal answers is in proofs/ForC.
-- Assumes nothing.
use Rattle.std.specs.Prelude.{ℕ, ◌+◌, ◌≤◌, ◌<◌, ◌⊎◌, ◌≡◌, refl, List, [], length, take, drop}
use Rattle.std.proofs.Common.{⊎_elim, ◌∙◌}
use Rattle.std.proofs.Math.Path.{ap}
use Rattle.std.proofs.Math.Option.{none, some}
use Rattle.octets.specs.Octets.{Octets}
use Rattle.element.specs.declared.Span.{Span}
use Rattle.codec.specs.Option.{option_enc}
use Rattle.codec.specs.Many.{forms}
use Rattle.layout.specs.Reading.{Basic, basic}
use Rattle.layout.proofs.ElementKinds.{free_sequence}
use Rattle.layout.proofs.Format.{algorithm_identifier, single_response}
use Rattle.layout.specs.Read.{reads}
use Rattle.layout.proofs.Read.{reading}
use Rattle.read_response.specs.Parts.{judged_of}
use Rattle.read_response.specs.Refusals.{refusal_of}
use Rattle.read_response.specs.declared.Parts.{Parts}
use Rattle.show.proofs.PartsLaws as parts
use Rattle.show.specs.Shown.{octets_in, signed_of, signature_of, entry_of}
use Rattle.show.specs.declared.Entry.{Entry}
use Rattle.show.specs.declared.Entry.TheVariants as entry
use Rattle.walk_rules.specs.Step.{part_in, part_of}
use Rattle.desk_c.specs.Places.{signed_span, algorithm_in, signature_span, certificates_in, entry_number, entry_span}
use Rattle.desk_c.specs.PlacesLaws as places
use Rattle.desk_c.specs.EntryLaws as entries

-- from a place on, so many octets of a response are these, and end inside it
abbrev pub Shows : List ℕ → ℕ → ℕ → List ℕ → Type 0
Shows s from len x = (take len (drop from s) ≡ x) × (from + len ≤ length s)

module _ (s : List ℕ) (o : Octets s) where
  -- desk_signed, desk_algorithm, desk_signature and desk_certificates return what desk_refusal does. With a number but 0 the
  -- part is empty, at 0
  pub nothing_shown : ((refusal_of (judged_of s)).number ≡ 0 → ⊥)
      → (signed_span (judged_of s) ≡ record { start = 0; len = 0 })
      × (algorithm_in (judged_of s) ≡ record { start = 0; len = 0 })
      × (signature_span (judged_of s) ≡ record { start = 0; len = 0 })
      × (certificates_in s (judged_of s) ≡ record { start = 0; len = 0 })
  nothing_shown n =
      let i = entries.parts_none s n in
      (ap (λ (p : Parts). p.signed) i, ap (λ (p : Parts). p.algorithm) i, ap (λ (p : Parts). p.signature) i, entries.certificates_nothing s n)

  -- where the signed part and the signature are: what is shown is what show::signed_part and show::signature return
  pub signed_answers : (from len : ℕ) → from ≡ (signed_span (judged_of s)).start → len ≡ (signed_span (judged_of s)).len → Shows s from len (signed_of s)
  signed_answers from len i j = rw (i, j) (parts.signed_octets s, parts.signed_inside s o)

  pub signature_answers : (from len : ℕ) → from ≡ (signature_span (judged_of s)).start → len ≡ (signature_span (judged_of s)).len → Shows s from len (signature_of s)
  signature_answers from len i j = rw (i, j) (parts.signature_octets s, parts.signature_inside s o)

  -- of a response that reads as a basic one: the signature's algorithm identifier, header included
  pub algorithm_answers : (b : Basic) → length s ≤ 16384 → reading s ≡ reads (basic b)
      → (from len : ℕ) → from ≡ (algorithm_in (judged_of s)).start → len ≡ (algorithm_in (judged_of s)).len
      → Shows s from len (algorithm_identifier.enc b.algorithm)
  algorithm_answers b le e from len i j = rw (i, j) (places.algorithm_octets s b o le e, parts.algorithm_inside s o)

  -- and its certificates one after the other, each with its header; where there are none an empty part, at 0
  pub certificates_answers : (b : Basic) → length s ≤ 16384 → reading s ≡ reads (basic b)
      → (from len : ℕ) → from ≡ (certificates_in s (judged_of s)).start → len ≡ (certificates_in s (judged_of s)).len
      → Shows s from len (option_enc (forms free_sequence.enc) b.certificates)
      × ((b.certificates ≡ none) ⊎ (b.certificates ≡ some []) → (from ≡ 0) × (len ≡ 0))
  certificates_answers b le e from len i j = (
    rw (i, j) (places.certificates_octets s b o le e, places.certificates_inside s o),
    λ h.
        let p =
        ⊎_elim (λ (n : b.certificates ≡ none). places.certificates_absent s b o le e n) (λ (n : b.certificates ≡ some []). places.certificates_none s b o le e n) h in
        (i ∙ ap (λ (x : Span). x.start) p, j ∙ ap (λ (x : Span). x.len) p),
  )

-- what a step of a walk hands out at a place is what stands at the entry's
entry_part : (s : List ℕ) (k : ℕ) → octets_in s (entry_span (entry_of s k)) ≡ part_of s k
unfolding entry_span part_of part_in
entry_part s k = go (entry_of s k)
  where
    go : (x : Entry) → octets_in s (entry_span x) ≡ part_in s x
    go (entry.At start len) = refl
    go entry.End = refl
    go (entry.Refused number status place) = refl

module _ (s : List ℕ) (o : Octets s) (k n from len : ℕ) (i : n ≡ entry_number (entry_of s k))
    (f : from ≡ (entry_span (entry_of s k)).start) (l : len ≡ (entry_span (entry_of s k)).len) where
  -- desk_entry: the same number; the octets that a walk over the response hands out at place k; with a number but 0 an empty
  -- part, at 0
  pub entry_answers : (n ≡ (refusal_of (judged_of s)).number) × Shows s from len (part_of s k) × ((n ≡ 0 → ⊥) → (from ≡ 0) × (len ≡ 0))
  entry_answers =
      let m : n ≡ (refusal_of (judged_of s)).number = i ∙ entries.entry_number_lem s k in (
        m,
        rw (f, l) (entry_part s k, entries.entry_inside s k o),
        λ z.
            let p = entries.entry_nothing s k (λ e. z (m ∙ e)) in
            (f ∙ ap (λ (x : Span). x.start) p, l ∙ ap (λ (x : Span). x.len) p),
      )

  -- of a response that reads as a basic one: the form of its entry number k, counted from 0, and past the last one an empty
  -- part, at 0
  pub entry_shown : (b : Basic) → length s ≤ 16384 → reading s ≡ reads (basic b)
      → (k < length b.signed.entries → Shows s from len (forms single_response.enc (take 1 (drop k b.signed.entries))))
      × (length b.signed.entries ≤ k → (from ≡ 0) × (len ≡ 0))
  entry_shown b le e = (
    λ h. rw (f, l) (entries.entry_octets s k b le e o h, entries.entry_inside s k o),
    λ h.
        let p = entries.entry_end s k b le e h in
        (f ∙ ap (λ (x : Span). x.start) p, l ∙ ap (λ (x : Span). x.len) p),
  )
