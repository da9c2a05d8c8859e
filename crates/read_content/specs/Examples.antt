-- Small readings, computed: where a content is, and what is refused.
-- Assumes nothing.
use Rattle.std.specs.Prelude.{◌≡◌, refl, [], ◌∷◌, Ok, Err}
use Rattle.element.specs.Tag.{tag_ok}
use Rattle.element.specs.Header.{header_of, length_at, inside_of}
use Rattle.element.specs.Places.{misfit, span}
use Rattle.content.specs.Oid.{oid_from, oid_ok}
use Rattle.codec.specs.Tagged.{tagged_dec}
use Rattle.codec.specs.Contents.{octets_read, filled_dec}
use Rattle.layout.specs.Words.{between, bits_read}
use Rattle.layout.proofs.ElementKinds.{string, oid}
use Rattle.layout.proofs.Format.{signature_bits}
use Rattle.read_content.specs.Spots.{expected, spot_of}

-- a sequence of two octets; one that is wanted and is not there; one that is cut off
sequence_there : expected 0x30 (header_of (0x30 ∷ 2 ∷ 5 ∷ 0 ∷ [])) ≡ Ok (span 2 2)
unfolding expected header_of tag_ok length_at inside_of
sequence_there = refl

sequence_other : expected 0x30 (header_of (0x31 ∷ 0 ∷ [])) ≡ Err (misfit 0)
unfolding expected header_of tag_ok length_at inside_of
sequence_other = refl

sequence_cut : expected 0x30 (header_of (0x30 ∷ [])) ≡ Err (misfit 1)
unfolding expected header_of tag_ok
sequence_cut = refl

-- SHA-1's OID, and the octets after it
oid_read : spot_of (oid.dec (6 ∷ 5 ∷ 0x2b ∷ 0x0e ∷ 3 ∷ 2 ∷ 0x1a ∷ 5 ∷ 0 ∷ [])) ≡ Ok (span 2 5)
unfolding spot_of oid tagged_dec filled_dec octets_read oid_ok oid_from header_of tag_ok length_at inside_of
oid_read = refl

-- a string of one octet, and of none, where 1 to 64 are wanted
string_one : spot_of ((string (between 1 64)).dec (4 ∷ 1 ∷ 9 ∷ [])) ≡ Ok (span 2 1)
unfolding spot_of tagged_dec filled_dec octets_read between header_of tag_ok length_at inside_of
string_one = refl

string_none : spot_of ((string (between 1 64)).dec (4 ∷ 0 ∷ [])) ≡ Err (misfit 0)
unfolding spot_of tagged_dec filled_dec octets_read between header_of tag_ok length_at inside_of
string_none = refl

-- a bit string's octets are after the 00; one without octets, one with unused bits
bits_two : spot_of (signature_bits.dec (3 ∷ 3 ∷ 0 ∷ 0xaa ∷ 0xbb ∷ [])) ≡ Ok (span 3 2)
unfolding spot_of signature_bits tagged_dec filled_dec bits_read header_of tag_ok length_at inside_of
bits_two = refl

bits_none : spot_of (signature_bits.dec (3 ∷ 1 ∷ 0 ∷ [])) ≡ Err (misfit 0)
unfolding spot_of signature_bits tagged_dec filled_dec bits_read header_of tag_ok length_at inside_of
bits_none = refl

bits_unused : spot_of (signature_bits.dec (3 ∷ 2 ∷ 4 ∷ 0xf0 ∷ [])) ≡ Err (misfit 0)
unfolding spot_of signature_bits tagged_dec filled_dec bits_read header_of tag_ok length_at inside_of
bits_unused = refl
