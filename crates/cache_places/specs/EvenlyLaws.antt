-- Laws of a buffer taken as 64 places: how many they are, where each stands, and that those of a cache are its places.
-- even_length, even_at, even_room.
-- The definition is in Evenly. Assumes nothing.
use Rattle.std.specs.Prelude.{ℕ, ◌*◌, ◌/◌, ◌<◌, ◌≡◌, length, get_or, take, drop}
use Rattle.std.proofs.Math.Path.{ap}
use mathlib.Core.List.{List, []}
use Rattle.cache_room.specs.Parts.{parts_of}
use Rattle.cache_room.proofs.PartsLaws.{parts_length, part_at}
use Rattle.cache_rules.specs.Place.{width, places}
use Rattle.cache_rules.specs.Cache.{room_of}
use Rattle.cache_places.specs.Evenly.{evenly}

module _ (s : List ℕ) where
  pub even_length : length (evenly s) ≡ places
  unfolding evenly
  even_length = parts_length (length s / 64) places s

  pub even_at : (i : ℕ) → i < places → get_or (evenly s) i [] ≡ take (length s / 64) (drop (length s / 64 * i) s)
  unfolding evenly
  even_at i h = part_at (length s / 64) places s [] i h

  pub even_room : length s ≡ width * places → evenly s ≡ room_of s
  unfolding evenly room_of
  even_room e = ap (λ (n : ℕ). parts_of (n / 64) places s) e
