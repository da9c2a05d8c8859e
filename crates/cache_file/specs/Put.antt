-- A filing in parts, over the octets at the places of the times: for a card that has a place, and for one that has none.
-- held_filed, buffer_held; new_filed, new_in.
-- That they are the filing is in PutLaws. Assumes nothing.
use Rattle.std.specs.Prelude.{ℕ, ◌*◌, cond, List, [], leb, ltb, get_or, Ok, Err}
use Rattle.octets.specs.Buffer.{put_in}
use Rattle.freshness.specs.declared.Clock.{Clock}
use Rattle.cache_room.specs.Room.{count, free_at}
use Rattle.cache_rules.specs.declared.Unfiled.TheVariants as unfiled
use Rattle.cache_rules.specs.Numbers.{Filed}
use Rattle.cache_rules.specs.Place.{card_at, place_of}
use Rattle.cache_place.specs.Times.{this_at, late_at}
use Rattle.cache_places.specs.Evenly.{evenly}

module _ (s : List ℕ) (i : ℕ) (t : List ℕ) where
  -- the buffer with the slip in place i, unless the one held is later
  unfoldable pub buffer_held : List ℕ
  buffer_held = cond (ltb (this_at t) (this_at (get_or (evenly s) i []))) s (put_in s (87 * i) (place_of t))

  unfoldable pub held_filed : Filed
  held_filed = Ok (count card_at (evenly buffer_held))

module _ (clock : Clock) (s t : List ℕ) where
  -- the first place that may be taken
  unfoldable pub new_at : ℕ
  new_at = free_at card_at (late_at clock) (evenly s)

  unfoldable pub new_in : List ℕ
  new_in = cond (leb 64 new_at) s (put_in s (87 * new_at) (place_of t))

  unfoldable pub new_filed : Filed
  new_filed = cond (leb 64 new_at) (Err unfiled.Full) (Ok (count card_at (evenly new_in)))
