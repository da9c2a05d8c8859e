-- Laws of the parts that are shown: they lie inside the response, and the octets there are those that are shown.
-- part_lent; signed_inside, algorithm_inside, signature_inside, list_inside; signed_octets, signature_octets.
-- `Octets s` says that the numbers of a list are octets; of a call's response its type says so, a slice of `u8`.
-- The definitions are in Parts and Shown. Assumes nothing.
use Rattle.std.specs.Prelude.{ℕ, ◌+◌, ◌≤◌, ◌≡◌, List, Ok, Err}
use Rattle.std.proofs.Common.{arith}
use Rattle.std.proofs.Math.Path.{refl}
use Rattle.std.proofs.Math.ListN.{length}
use Rattle.octets.specs.Octets.{Octets}
use Rattle.octets.specs.LentLaws.{Known, known_octets}
use Rattle.element.specs.declared.Span.{Span}
use Rattle.layout.specs.Reading.{Basic, basic}
use Rattle.layout.specs.Read.{reads}
use Rattle.layout.proofs.Read.{reading}
use Rattle.read_response.specs.Parts.{judged_of, parts_in}
use Rattle.read_response.proofs.PartsLaws.{signed_stands, algorithm_stands, signature_stands, certificates_stand}
use Rattle.read_response.proofs.JudgedLaws.{judged_basic}
use Rattle.read_response.specs.declared.Parts.{Parts}
use Rattle.read_response.specs.declared.Unread.TheVariants as unread
use Rattle.read_response.specs.Judged.{Judged}
use Rattle.show.specs.Parts.{empty_span, no_parts, shown_parts}
use Rattle.show.specs.Shown.{octets_in, signed_in, signed_of, signature_in, signature_of}

-- a part that lies inside every response lies inside one whose octets are lent
pub part_lent : (f : Parts → Span) → ((s : List ℕ) → Octets s → (f (shown_parts (judged_of s))).start + (f (shown_parts (judged_of s))).len ≤ length s)
    → (s : List ℕ) → Known s → (j : Judged) (p : Parts) → j ≡ judged_of s → p ≡ shown_parts j → (f p).start + (f p).len ≤ length s
part_lent f inside s k j p q e = rw (e, q) (inside s (known_octets s k))

module _ (s : List ℕ) where
  -- ── a part lies inside the response ──
  part_inside : (f : Parts → Span) → f no_parts ≡ empty_span
      → ((b : Basic) → reading s ≡ reads (basic b) → (f (parts_in s b)).start + (f (parts_in s b)).len ≤ length s)
      → (f (shown_parts (judged_of s))).start + (f (shown_parts (judged_of s))).len ≤ length s
  unfolding shown_parts
  part_inside f z h = go (judged_of s) refl
    where
      nowhere : (f no_parts).start + (f no_parts).len ≤ length s
      nowhere = rw z (omega arith)

      go : (j : Judged) → judged_of s ≡ j → (f (shown_parts j)).start + (f (shown_parts j)).len ≤ length s
      go (Ok t) e = let r = judged_basic s t e in rw r.parts (h r.value r.read)
      go (Err u) e = nowhere

  module _ (o : Octets s) where
    pub signed_inside : (shown_parts (judged_of s)).signed.start + (shown_parts (judged_of s)).signed.len ≤ length s
    signed_inside = part_inside (λ p. p.signed) refl (λ b r. (signed_stands s b o r).inside)

    pub algorithm_inside : (shown_parts (judged_of s)).algorithm.start + (shown_parts (judged_of s)).algorithm.len ≤ length s
    algorithm_inside = part_inside (λ p. p.algorithm) refl (λ b r. (algorithm_stands s b o r).inside)

    pub signature_inside : (shown_parts (judged_of s)).signature.start + (shown_parts (judged_of s)).signature.len ≤ length s
    signature_inside = part_inside (λ p. p.signature) refl (λ b r. (signature_stands s b o r).inside)

    -- the certificates with what is around them
    pub list_inside : (shown_parts (judged_of s)).certificates.start + (shown_parts (judged_of s)).certificates.len ≤ length s
    list_inside = part_inside (λ p. p.certificates) refl (λ b r. (certificates_stand s b o r).inside)

  -- ── the octets there are those that are shown, whatever the response is ──
  pub signed_octets : octets_in s (shown_parts (judged_of s)).signed ≡ signed_of s
  unfolding shown_parts signed_of signed_in
  signed_octets = go (judged_of s)
    where
      go : (j : Judged) → octets_in s (shown_parts j).signed ≡ signed_in s j
      go (Ok t) = refl
      go (Err unread.TooLong) = refl
      go (Err (unread.Unfit m)) = refl
      go (Err (unread.Failed n)) = refl
      go (Err unread.OtherType) = refl

  pub signature_octets : octets_in s (shown_parts (judged_of s)).signature ≡ signature_of s
  unfolding shown_parts signature_of signature_in
  signature_octets = go (judged_of s)
    where
      go : (j : Judged) → octets_in s (shown_parts j).signature ≡ signature_in s j
      go (Ok t) = refl
      go (Err unread.TooLong) = refl
      go (Err (unread.Unfit m)) = refl
      go (Err (unread.Failed n)) = refl
      go (Err unread.OtherType) = refl
