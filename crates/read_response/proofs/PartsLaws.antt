-- Laws of the parts of a basic response: the octets at each place are the part's form, and every part
-- lies inside the response.
-- body_inside; signed_stands, responder_stands, entries_stand, extensions_stand,
-- algorithm_stands, signature_stands, certificates_stand.
-- The definitions are in Parts, and Stands has what it is to stand at a place. Assumes nothing.
use Rattle.std.specs.Prelude.{ℕ, ◌+◌, ◌-◌, ◌≡◌, List, ◌∷◌, ◌++◌, length}
use Rattle.std.proofs.Common.{arith, ap, ◌∙◌, append_assoc, length-append}
use Rattle.std.proofs.Math.Path.{refl, sym}
use Rattle.octets.specs.Octets.{Octets}
use Rattle.element.specs.Form.{head_form, form_of}
use Rattle.codec.specs.Option.{option_enc}
use Rattle.codec.specs.Many.{forms}
use Rattle.layout.specs.Reading.{Basic, basic}
use Rattle.layout.specs.Names.{there}
use Rattle.layout.proofs.ElementKinds.{time}
use Rattle.layout.proofs.Format.{algorithm_identifier, extensions, single_response, responder_id, version, responses, signed_fields, signed_body, response_data, signature_bits, certificates, basic_body, basic_response}
use Rattle.layout.proofs.InnerLaws.{string_last}
use Rattle.layout.specs.Read.{basic_type, reads}
use Rattle.layout.proofs.Read.{der, reading}
use Rattle.layout.proofs.Theorem.{sound}
use Rattle.read_response.specs.Parts.{parts_from, fields_at}
use Rattle.read_response.specs.Stands.{Stands, Fields, Pieces}
use Rattle.read_response.proofs.Stands.{first_stands, held_stands, last_stands, one_stands, two_stands, bits_stand, end_stands, content_fields}

module _ (s : List ℕ) (b : Basic) (o : Octets s) (r : reading s ≡ reads (basic b)) where
  -- where its content starts
  abbrev pub body_at : ℕ
  body_at = length s - length (basic_body.enc b)

  -- the content is the last octets of the response
  body_ends : (p : List ℕ) × (s ≡ p ++ basic_body.enc b)
  unfolding der basic_response form_of
  body_ends =
      let (x, e) = string_last basic_type (basic_response.enc b) in
      (x ++ head_form 0x30 (length (basic_body.enc b)), (sound s (basic b) o r).1 ∙ e ∙ sym (append_assoc x _ _))

  pub body_inside : body_at + length (basic_body.enc b) ≡ length s
  body_inside = omega (arith, length-append body_ends.0 (basic_body.enc b), ap length body_ends.1)

  before_length : length body_ends.0 ≡ body_at
  before_length = omega (arith, length-append body_ends.0 (basic_body.enc b), ap length body_ends.1)

  -- it is cut into its parts
  abbrev certificates_form : List ℕ
  certificates_form = option_enc certificates.enc b.certificates

  pieces : Pieces s body_at (head_form 0x30 (length (signed_body.enc b.signed))) (signed_body.enc b.signed) (algorithm_identifier.enc b.algorithm) (head_form 0x03 (length (0 ∷ b.signature))) b.signature certificates_form
  unfolding basic_body response_data signature_bits form_of
  pieces = record { before = body_ends.0; long = before_length; same = body_ends.1 }

  -- the signed part, header included
  pub signed_stands : Stands s (parts_from body_at b).signed (response_data.enc b.signed)
  unfolding parts_from response_data form_of
  signed_stands = one_stands pieces

  -- the signature's algorithm identifier, header included
  pub algorithm_stands : Stands s (parts_from body_at b).algorithm (algorithm_identifier.enc b.algorithm)
  unfolding parts_from response_data form_of
  algorithm_stands = two_stands pieces

  -- the signature, without its leading 00
  pub signature_stands : Stands s (parts_from body_at b).signature b.signature
  unfolding parts_from response_data signature_bits form_of
  signature_stands = bits_stand pieces

  -- the certificates, header included, or nothing
  pub certificates_stand : Stands s (parts_from body_at b).certificates certificates_form
  unfolding parts_from response_data signature_bits form_of
  certificates_stand = end_stands pieces

  -- the signed part's content is cut into its version or nothing, and its fields
  abbrev version_form : List ℕ
  version_form = option_enc version.enc (there b.signed.versioned)

  abbrev entries_form : List ℕ
  entries_form = forms single_response.enc b.signed.entries

  abbrev extensions_form : List ℕ
  extensions_form = option_enc extensions.enc b.signed.extensions

  fields : Fields s (fields_at body_at b) (responder_id.enc b.signed.responder) (time.enc b.signed.produced_at) (head_form 0x30 (length entries_form)) entries_form extensions_form
  unfolding signed_body signed_fields responses response_data form_of
  fields =
      content_fields pieces version_form (responder_id.enc b.signed.responder) (time.enc b.signed.produced_at) (head_form 0x30 (length entries_form))
      entries_form extensions_form refl

  -- the responder id, header included
  pub responder_stands : Stands s (parts_from body_at b).responder (responder_id.enc b.signed.responder)
  unfolding parts_from
  responder_stands = first_stands fields

  -- the entries, one after the other
  pub entries_stand : Stands s (parts_from body_at b).entries entries_form
  unfolding parts_from responses form_of
  entries_stand = held_stands fields

  -- the response's extensions, header included, or nothing
  pub extensions_stand : Stands s (parts_from body_at b).extensions extensions_form
  unfolding parts_from responses form_of
  extensions_stand = last_stands fields
