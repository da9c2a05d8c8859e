-- A buffer as 64 places of one width, whatever its length: the width is the length divided by 64.
-- evenly. That a cache has 64 places of 87 octets so is in EvenlyLaws.
-- Assumes nothing.
use Rattle.std.specs.Prelude.{ℕ, ◌/◌, List, length}
use Rattle.cache_room.specs.Parts.{parts_of}
use Rattle.cache_rules.specs.Place.{places}

unfoldable pub evenly : List ℕ → List (List ℕ)
evenly s = parts_of (length s / 64) places s
