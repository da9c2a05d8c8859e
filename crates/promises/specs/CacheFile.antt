-- The room's cache (document 02, C-11): a filing that is accepted.
-- kept, counted, count_grown, one_place, one_written; own_place, first_free, new_card, same_place, newer_put,
-- older_left, either; placed_says.
-- `filed_of clock s t` is what filing the octets t into the buffer s answers, `buffer_of clock s t` what it leaves there,
-- `takes clock s t` the place that it goes to (cache_rules: Cache). `Has` and `Free` (empty or stale) are in
-- cache_rules: Has, `says_of` and `says_at`, what a slip and the slip in a place say, in cache_rules: Place, `count` in
-- cache_room: Room. `Octets` holds of every buffer and slip in code. Refused filings are in CacheRefusals. Assumes
-- nothing.
use Rattle.std.specs.Prelude.{ℕ, suc, ◌-◌, ◌*◌, ◌≤◌, ◌<◌, ◌⊎◌, ◌≡◌, true, List, [], ◌++◌, length, replicate, Ok}
use Rattle.octets.specs.Octets.{Octets}
use Rattle.octets.specs.Buffer.{put_in}
use Rattle.cache_room.specs.Room.{count}
use Rattle.freshness.specs.declared.Clock.{Clock}
use Rattle.cache_rules.specs.Place.{card_at, says_at, place_of, this_of, says_of}
use Rattle.cache_rules.specs.Cache.{room_of, place_in, is_cache, takes, filed_of, buffer_of}
use Rattle.cache_rules.specs.Has.{Has, Free}
use Rattle.cache_rules.proofs.FileTheorem as filing

-- a filing that is accepted, with the answer n
module _ (clock : Clock) (s t : List ℕ) (o : Octets t) (n : ℕ) (accepted : filed_of clock s t ≡ Ok n) where
  abbrev left : List ℕ
  left = buffer_of clock s t

  abbrev k : ℕ
  k = takes clock s t

  -- what is left is a cache
  pub kept : is_cache left ≡ true
  kept = filing.kept clock s t o n accepted

  -- n is how many of its places are not empty
  pub counted : n ≡ count card_at (room_of left)
  counted = filing.counted clock s t o n accepted

  -- which is one more than before where k was empty, else the same
  pub count_grown : (card_at (place_in s k) ≡ [] → n ≡ suc (count card_at (room_of s))) × ((card_at (place_in s k) ≡ [] → ⊥) → n ≡ count card_at (room_of s))
  count_grown = filing.count_grown clock s t o n accepted

  -- no other place than k is written
  pub one_place : (k < 64) × ((j : ℕ) → (j ≡ k → ⊥) → place_in left j ≡ place_in s j)
  one_place = filing.one_place clock s t o n accepted

  -- that is 87 octets from 87 times k, and none before or after them
  pub one_written : (x : List ℕ) × (length x ≡ 87) × (left ≡ put_in s (87 * k) x)
  one_written = filing.one_written clock s t o n accepted

  -- place k has the slip's card then
  pub own_place : Has left k (says_of t).card
  own_place = filing.filed_own clock s t o n accepted

  -- a card that no place had: k is the first place that is empty or stale, and holds the new slip, with zeros
  -- after it
  module _ (h : (j : ℕ) → Has s j (says_of t).card → ⊥) where
    pub first_free : Free clock s k × ((j : ℕ) → j < k → Free clock s j → ⊥)
    first_free = filing.first_free clock s t o n accepted h

    pub new_card : place_in left k ≡ t ++ replicate (87 - length t) 0
    unfolding place_of
    new_card = filing.filed_new clock s t o n accepted h

  -- a card that place i had: k is i, and holds the new slip if the one held is not later; else no octet changed
  module _ (i : ℕ) (h : Has s i (says_of t).card) (p : Octets s) where
    pub same_place : k ≡ i
    same_place = filing.filed_same clock s t o n accepted i h p

    pub newer_put : this_of (says_at (place_in s i)).verdict ≤ this_of (says_of t).verdict → place_in left i ≡ t ++ replicate (87 - length t) 0
    unfolding place_of
    newer_put = filing.filed_later clock s t o n accepted i h p

    pub older_left : this_of (says_of t).verdict < this_of (says_at (place_in s i)).verdict → left ≡ s
    older_left = filing.filed_older clock s t o n accepted i h p

  -- every place is as it was, or is k and holds the new slip
  pub either : (j : ℕ) → (place_in left j ≡ place_in s j) ⊎ ((j ≡ k) × (place_in left j ≡ t ++ replicate (87 - length t) 0))
  unfolding place_of
  either = filing.filed_either clock s t o n accepted

  -- in its place the new slip says what it says by itself
  pub placed_says : says_at (t ++ replicate (87 - length t) 0) ≡ says_of t
  unfolding place_of
  placed_says = filing.new_says clock s t o n accepted
