-- Marked examples of document 01: M7 and M8, and headers that are refused.
-- Assumes nothing.
use Rattle.std.specs.Prelude.{◌≡◌, refl, [], ◌∷◌, Err}
use Rattle.std.specs.Int.Count.{count_leading_zeros}
use Rattle.octets.specs.Number.{octets_of, value_of}
use Rattle.element.specs.Tag.{tag_ok}
use Rattle.element.specs.Length.{length_count, length_form, shortest}
use Rattle.element.specs.Header.{long_of, length_at, header_of}
use Rattle.element.specs.Places.{misfit}

-- M7: length 127 is 7F, 128 is 81 80, 256 is 82 01 00
one_octet_lem : length_form 127 ≡ 0x7f ∷ []
unfolding length_form
one_octet_lem = refl

two_octets : length_form 128 ≡ 0x81 ∷ 0x80 ∷ []
unfolding length_form length_count count_leading_zeros octets_of
two_octets = refl

three_octets : length_form 256 ≡ 0x82 ∷ 0x01 ∷ 0x00 ∷ []
unfolding length_form length_count count_leading_zeros octets_of
three_octets = refl

-- M8: 81 05 is no length
no_length : header_of (0x04 ∷ 0x81 ∷ 0x05 ∷ 1 ∷ 2 ∷ 3 ∷ 4 ∷ 5 ∷ []) ≡ Err (misfit 0)
unfolding header_of tag_ok length_at long_of shortest value_of
no_length = refl
