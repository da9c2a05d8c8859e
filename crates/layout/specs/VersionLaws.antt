-- Laws of the version (document 02, C-12): written, it is the five octets A0 03 02 01 00 before the fields of
-- a signed part, and a signed part that begins with A0 and not with these does not fit.
-- version_octets; version_form_lem, version_written, version_begins, version_first, version_only, version_taken.
-- Where another number is refused is in OtherVersionLaws.
-- The definitions stand here; the laws, and what is made of them, in proofs/VersionLaws.
-- Assumes nothing.
use Rattle.std.specs.Prelude.{ℕ, List, [], ◌∷◌}

abbrev pub version_octets : List ℕ
version_octets = 0xa0 ∷ 0x03 ∷ 0x02 ∷ 0x01 ∷ 0x00 ∷ []
