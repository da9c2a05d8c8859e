-- The places shown of a response with every optional part, and of one that is refused, by computing.
-- full_algorithm, full_certificates; refused_certificates.
-- Assumes nothing.
use Rattle.std.specs.Prelude.{◌≡◌, refl, [], ◌∷◌}
use Rattle.layout.proofs.Opened.{opened}
use Rattle.element.specs.Places.{span}
use Rattle.read_response.specs.Parts.{parts_from, judged_as, judged_of}
use Rattle.read_response.proofs.Examples.{full}
use Rattle.show.specs.Parts.{empty_span, shown_parts}
use Rattle.desk_c.specs.Places.{algorithm_in, behind_header, last_before, held_in, certificates_in}

-- the algorithm identifier is the 7 octets behind the signed part
full_algorithm : algorithm_in (judged_of full) ≡ span 217 7
unfolding opened judged_of judged_as parts_from shown_parts
full_algorithm = refl

-- its last six octets are A0 04 30 02 30 00: one certificate of two octets, in two headers
full_certificates : certificates_in full (judged_of full) ≡ span 233 2
unfolding opened judged_of judged_as parts_from shown_parts behind_header last_before held_in
full_certificates = refl

-- an error response shows none
refused_certificates : certificates_in (0x30 ∷ 0x03 ∷ 0x0a ∷ 0x01 ∷ 0x06 ∷ []) (judged_of (0x30 ∷ 0x03 ∷ 0x0a ∷ 0x01 ∷ 0x06 ∷ [])) ≡ empty_span
unfolding opened judged_of judged_as shown_parts behind_header last_before held_in
refused_certificates = refl
