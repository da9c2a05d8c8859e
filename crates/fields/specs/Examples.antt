-- Fields and writing by computing.
-- Assumes nothing.
use Rattle.std.specs.Prelude.{◌≡◌, refl, [], ◌∷◌}
use Rattle.octets.specs.Buffer.{room_for, put_in}
use Rattle.fields.specs.declared.Output.TheVariants.{Refused}
use Rattle.fields.specs.Field.{field_at}
use Rattle.fields.specs.Output.{output_of, output_in}

-- two octets from place 1; from place 2 there is only one, so zeros
inside : field_at 2 (7 ∷ 8 ∷ 9 ∷ []) 1 ≡ 8 ∷ 9 ∷ []
unfolding field_at room_for
inside = refl

outside : field_at 2 (7 ∷ 8 ∷ 9 ∷ []) 2 ≡ 0 ∷ 0 ∷ []
unfolding field_at room_for
outside = refl

-- two octets written first, the third unchanged; a refusal, and a buffer too short, change nothing
written : output_in 0 (7 ∷ 8 ∷ 9 ∷ []) (1 ∷ 2 ∷ []) ≡ 1 ∷ 2 ∷ 9 ∷ []
unfolding output_in put_in room_for
written = refl

refused : output_in 17 (7 ∷ 8 ∷ 9 ∷ []) (1 ∷ 2 ∷ []) ≡ 7 ∷ 8 ∷ 9 ∷ []
unfolding output_in
refused = refl

short : output_in 0 (7 ∷ []) (1 ∷ 2 ∷ []) ≡ 7 ∷ []
unfolding output_in put_in room_for
short = refl

-- a refusal comes before a buffer that is too short
order : output_of 17 1 2 ≡ Refused 17
unfolding output_of
order = refl
