-- The cache by computing: filed into an empty one, a tie, a stale place taken, and each answer and refusal.
-- cache_computes; card, clock, good, empty, two, one, fill.
-- The definitions stand here; the laws, and what is made of them, in proofs/Examples.
-- Assumes nothing.
use mathlib.Core.List.{flatten}
use Rattle.freshness.specs.Fresh.{fresh_of}
use Rattle.slip.specs.Table.{size_of}
use Rattle.slip.specs.Examples as slip
use Rattle.cache_room.specs.Parts.{parts_of}
use Rattle.cache_room.specs.Room.{first_at, held_at, cards_once, count, free_at, taken_at, kept_in, filed_in}
use Rattle.cache_rules.specs.Place.{slip_in, card_at, says_at, is_said, place_ok, place_of, stale_at, wins_of}
use Rattle.freshness.specs.Clock.{clock_ok}
use Rattle.cache_rules.specs.Cache.{room_of, all_fit, is_cache, takes, filing_refusal, room_after, filed_of, buffer_of, told, not_held, missed_at, said_at, ask_of}

-- what a cache computes with: a proof that says `unfolding cache_computes` opens it
unfoldable pub cache_computes : Unit {0}
unfolding slip.slip_computes size_of fresh_of parts_of first_at held_at cards_once count free_at taken_at kept_in filed_in slip_in card_at says_at is_said place_ok place_of stale_at wins_of room_of all_fit is_cache clock_ok takes filing_refusal room_after filed_of buffer_of told not_held missed_at said_at ask_of flatten
cache_computes = tt
