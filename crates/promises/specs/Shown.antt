-- What is shown of a response: its signed part and its signature, as the caller's own octets.
-- signed_part, signature_part; signed_header, signature_header; refused_empty. The entries one by one are in Walk.
-- `signed_of` and `signature_of` are what show::signed_part and show::signature return (response: Shown);
-- `Stands s at x`: the octets of s at the place `at` are x, and end inside s (response: Stands).
-- Assumes nothing.
use Rattle.std.specs.Prelude.{ℕ, ◌≤◌, ◌≡◌, refl, List, [], ◌∷◌, length, Ok, Err}
use Rattle.octets.specs.Octets.{Octets}
use Rattle.element.specs.Form.{form_of}
use Rattle.layout.specs.Reading.{Basic, basic}
use Rattle.layout.proofs.Format.{signed_body, response_data, signature_bits}
use Rattle.layout.specs.Read.{reads}
use Rattle.layout.proofs.Read.{reading}
use Rattle.read_response.specs.Parts.{judged_of, parts_in}
use Rattle.read_response.specs.Stands.{Stands}
use Rattle.read_response.proofs.PartsLaws.{signed_stands, signature_stands}
use Rattle.show.specs.Shown.{signed_in, signed_of, signature_in, signature_of}
use Rattle.show.proofs.ShownLaws.{signed_shown, signature_shown}
use Rattle.read_response.specs.declared.Parts.{Parts}
use Rattle.read_response.specs.Judged.{Judged}
use Rattle.read_response.specs.declared.Unread.TheVariants as unread

module _ (s : List ℕ) (b : Basic) (o : Octets s) (le : length s ≤ 16384) (e : reading s ≡ reads (basic b)) where
  -- of a response that reads as a basic one, the signed part that is shown is its form, header included, and those are
  -- the response's own octets at one place
  pub signed_part : (signed_of s ≡ response_data.enc b.signed) × Stands s (parts_in s b).signed (response_data.enc b.signed)
  signed_part = (signed_shown s b o le e, signed_stands s b o e)

  -- the signature that is shown is the reading's, without the 00, and those are the response's own octets at one place
  pub signature_part : (signature_of s ≡ b.signature) × Stands s (parts_in s b).signature b.signature
  signature_part = (signature_shown s b o le e, signature_stands s b o e)

-- the form of a signed part is an element with tag 30 and its header
pub signed_header : (b : Basic) → response_data.enc b.signed ≡ form_of 0x30 (signed_body.enc b.signed)
unfolding response_data
signed_header b = refl

-- and the signature stands in its BIT STRING behind a 00
pub signature_header : (b : Basic) → signature_bits.enc b.signature ≡ form_of 0x03 (0 ∷ b.signature)
unfolding signature_bits
signature_header b = refl

-- a response with a refusal from 2 to 5 shows nothing, in both
pub refused_empty : (s : List ℕ) → ((t : Parts) → judged_of s ≡ Ok t → ⊥) → (signed_of s ≡ []) × (signature_of s ≡ [])
unfolding signed_of signed_in signature_of signature_in
refused_empty s other = go (judged_of s) refl
  where
    go : (j : Judged) → judged_of s ≡ j → (signed_in s j ≡ []) × (signature_in s j ≡ [])
    go (Ok p) i = absurd (other p i)
    go (Err unread.TooLong) i = (refl, refl)
    go (Err (unread.Unfit p)) i = (refl, refl)
    go (Err (unread.Failed n)) i = (refl, refl)
    go (Err unread.OtherType) i = (refl, refl)
