-- Small readings, computed: what one octet stands for, and what is refused.
-- Assumes nothing.
use Rattle.std.specs.Prelude.{◌≡◌, refl, [], ◌∷◌, Ok, Err}
use Rattle.octets.specs.Same.{same_of}
use Rattle.element.specs.Tag.{tag_ok}
use Rattle.element.specs.Header.{header_of, length_at, inside_of}
use Rattle.element.specs.Places.{misfit}
use Rattle.codec.specs.Tagged.{tagged_dec}
use Rattle.codec.specs.Contents.{fixed_read, filled_dec}
use Rattle.codec.specs.Views.{step_of}
use Rattle.layout.specs.Words.{single_read, status_ok, reason_ok}
use Rattle.layout.proofs.ElementKinds.{enumerated}
use Rattle.layout.proofs.Format.{critical, good_status, unknown_status, v1}
use Rattle.read_codes.specs.Codes.{code, code_of}

-- status 6 is one, 4 is none; reason 10 is one, 7 is none
status_six : code_of ((enumerated status_ok).dec (0x0a ∷ 1 ∷ 6 ∷ [])) ≡ Ok (code 6 3)
unfolding code_of tagged_dec filled_dec single_read status_ok header_of tag_ok length_at inside_of
status_six = refl

status_four : code_of ((enumerated status_ok).dec (0x0a ∷ 1 ∷ 4 ∷ [])) ≡ Err (misfit 0)
unfolding code_of tagged_dec filled_dec single_read status_ok header_of tag_ok length_at inside_of
status_four = refl

reason_ten : step_of ((enumerated reason_ok).dec (0x0a ∷ 1 ∷ 10 ∷ [])) ≡ Ok 3
unfolding step_of tagged_dec filled_dec single_read reason_ok header_of tag_ok length_at inside_of
reason_ten = refl

reason_seven : step_of ((enumerated reason_ok).dec (0x0a ∷ 1 ∷ 7 ∷ [])) ≡ Err (misfit 0)
unfolding step_of tagged_dec filled_dec single_read reason_ok header_of tag_ok length_at inside_of
reason_seven = refl

-- TRUE is FF and nothing else; good and unknown have no content
true_ff : step_of (critical.dec (1 ∷ 1 ∷ 0xff ∷ [])) ≡ Ok 3
unfolding step_of critical tagged_dec filled_dec fixed_read same_of header_of tag_ok length_at inside_of
true_ff = refl

true_fe : step_of (critical.dec (1 ∷ 1 ∷ 0xfe ∷ [])) ≡ Err (misfit 0)
unfolding step_of critical tagged_dec filled_dec fixed_read same_of header_of tag_ok length_at inside_of
true_fe = refl

good_is : step_of (good_status.dec (0x80 ∷ 0 ∷ [])) ≡ Ok 2
unfolding step_of good_status tagged_dec filled_dec fixed_read same_of header_of tag_ok length_at inside_of
good_is = refl

good_octet : step_of (good_status.dec (0x80 ∷ 1 ∷ 0 ∷ [])) ≡ Err (misfit 0)
unfolding step_of good_status tagged_dec filled_dec fixed_read same_of header_of tag_ok length_at inside_of
good_octet = refl

unknown_is : step_of (unknown_status.dec (0x82 ∷ 0 ∷ [])) ≡ Ok 2
unfolding step_of unknown_status tagged_dec filled_dec fixed_read same_of header_of tag_ok length_at inside_of
unknown_is = refl

-- the version v1 is 00 and nothing else
version_zero : step_of (v1.dec (2 ∷ 1 ∷ 0 ∷ [])) ≡ Ok 3
unfolding step_of v1 tagged_dec filled_dec fixed_read same_of header_of tag_ok length_at inside_of
version_zero = refl

version_one : step_of (v1.dec (2 ∷ 1 ∷ 1 ∷ [])) ≡ Err (misfit 0)
unfolding step_of v1 tagged_dec filled_dec fixed_read same_of header_of tag_ok length_at inside_of
version_one = refl
