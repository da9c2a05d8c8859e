-- Laws of what is shown: the octets shown are the forms of the reading's parts.
-- signed_shown, signature_shown.
-- The definitions are in Shown. Assumes nothing.
use Rattle.std.specs.Prelude.{ℕ, ◌≤◌, ◌≡◌, List, length}
use Rattle.octets.specs.Octets.{Octets}
use Rattle.layout.specs.Reading.{Basic, basic}
use Rattle.layout.proofs.Format.{response_data}
use Rattle.layout.specs.Read.{reads}
use Rattle.layout.proofs.Read.{reading}
use Rattle.read_response.proofs.PartsLaws.{signed_stands, signature_stands}
use Rattle.read_response.proofs.JudgedLaws.{basic_judged}
use Rattle.show.specs.Shown.{signed_in, signed_of, signature_in, signature_of}

-- what is shown is the form of the signed part, and the signature
module _ (s : List ℕ) (b : Basic) (o : Octets s) (le : length s ≤ 16384) (e : reading s ≡ reads (basic b)) where
  pub signed_shown : signed_of s ≡ response_data.enc b.signed
  unfolding signed_of signed_in
  signed_shown = rw (basic_judged s b le e) (signed_stands s b o e).octets

  pub signature_shown : signature_of s ≡ b.signature
  unfolding signature_of signature_in
  signature_shown = rw (basic_judged s b le e) (signature_stands s b o e).octets
