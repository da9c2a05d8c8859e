-- Small numbers and their octets, by computing.
-- Assumes nothing.
use Rattle.std.specs.Prelude.{◌-◌, ◌^◌, ◌≡◌, refl, false, [], ◌∷◌, Some, None, replicate}
use Rattle.octets.specs.Number.{value_of, octets_of, number_at}
use Rattle.octets.specs.Same.{same_of}
use Rattle.octets.specs.Buffer.{room_for, put_in, put_answer}

-- 01 02 is 258
two : value_of (1 ∷ 2 ∷ []) ≡ 258
unfolding value_of
two = refl

-- 258 in four octets
four : octets_of 4 258 ≡ 0 ∷ 0 ∷ 1 ∷ 2 ∷ []
unfolding octets_of
four = refl

-- twenty octets FF
twenty : value_of (replicate 20 255) ≡ 2 ^ 160 - 1
unfolding value_of
twenty = refl

-- two octets at place 1, and two that are not there
inside : number_at (9 ∷ 1 ∷ 2 ∷ []) 1 2 ≡ Some 258
unfolding number_at value_of
inside = refl

outside : number_at (9 ∷ 1 ∷ 2 ∷ []) 2 2 ≡ None
unfolding number_at
outside = refl

-- a longer list is another list
longer : same_of (1 ∷ 2 ∷ []) (1 ∷ 2 ∷ 0 ∷ []) ≡ false
unfolding same_of
longer = refl

-- the octets go to their place, or nowhere
put_there : put_in (7 ∷ 7 ∷ 7 ∷ []) 1 (1 ∷ 2 ∷ []) ≡ 7 ∷ 1 ∷ 2 ∷ []
unfolding put_in room_for
put_there = refl

put_nowhere : put_in (7 ∷ 7 ∷ 7 ∷ []) 2 (1 ∷ 2 ∷ []) ≡ 7 ∷ 7 ∷ 7 ∷ []
unfolding put_in room_for
put_nowhere = refl

answer_there : put_answer 3 1 2 ≡ Some 3
unfolding put_answer room_for
answer_there = refl

answer_nowhere : put_answer 3 2 2 ≡ None
unfolding put_answer room_for
answer_nowhere = refl
