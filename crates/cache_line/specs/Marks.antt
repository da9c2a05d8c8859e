-- The marks of the places of a cache at a time: 0 empty, 1 its slip counts, 15 its thisUpdate is in the future, 16 stale.
-- mark_at, marks_of. That a mark tells what asking for the place's card gives is in ToldLaws.
-- Assumes nothing.
use Rattle.std.specs.Prelude.{ℕ, cond, List, [], ◌∷◌, ltb}
use Rattle.freshness.specs.declared.Clock.{Clock}
use Rattle.cache_room.specs.Room.{is_empty}
use Rattle.cache_rules.specs.Place.{card_at}
use Rattle.cache_place.specs.Times.{this_at, late_at}

-- the mark of a place
unfoldable pub mark_at : Clock → List ℕ → ℕ
mark_at clock p = cond (is_empty card_at p) 0 (cond (ltb clock.now (this_at p)) 15 (cond (late_at clock p) 16 1))

-- those of places, in order
unfoldable pub marks_of : Clock → List (List ℕ) → List ℕ
marks_of clock [] = []
marks_of clock (p ∷ l) = mark_at clock p ∷ marks_of clock l
