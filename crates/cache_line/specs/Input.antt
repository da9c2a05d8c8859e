-- The input of the program `room`: an operation, 1 octet; a time and a tolerance, 8 octets each; how many
-- octets the paper has, 1 octet; the paper; all the rest is the cache. A new cache is asked for by the operation 00 alone.
-- is_new; clock_in, begins_at, paper_in, cache_in; input_form; header_most, cache_room_least.
-- Assumes nothing.
use Rattle.std.specs.Prelude.{ℕ, ◌+◌, ◌-◌, ◌*◌, Bool, false, cond, List, ◌∷◌, ◌++◌, eqb, ltb, length, get_or, take, drop}
use Rattle.octets.specs.Number.{octets_of}
use Rattle.fields.specs.Field.{value_at}
use Rattle.freshness.specs.declared.Clock.{Clock}
use Rattle.cache_rules.specs.Place.{width, places}

-- the operation 00, and nothing behind it
unfoldable pub is_new : List ℕ → Bool
is_new s = cond (eqb (length s) 1) (eqb (get_or s 0 0) 0) false

-- the time and the tolerance
unfoldable pub clock_in : List ℕ → Clock
clock_in s = record { now = value_at s 1 8; tolerance = value_at s 9 8 }

-- where the cache begins, after 18 octets and the paper; 0 where the input ends before that
unfoldable pub begins_at : List ℕ → ℕ
begins_at s = cond (ltb (length s) 18) 0 (cond (ltb (length s) (18 + get_or s 17 0)) 0 (18 + get_or s 17 0))

-- the paper, and the cache
unfoldable pub paper_in : List ℕ → List ℕ
paper_in s = take (begins_at s - 18) (drop 18 s)

unfoldable pub cache_in : List ℕ → List ℕ
cache_in s = drop (begins_at s) s

-- ---- an input written in order

-- the operation, the time, the tolerance, how many octets the paper has, the paper, the cache
abbrev pub input_form : ℕ → Clock → List ℕ → List ℕ → List ℕ
input_form operation clock paper s = operation ∷ (octets_of 8 clock.now ++ (octets_of 8 clock.tolerance ++ (length paper ∷ (paper ++ s))))

-- ---- how much of it a program keeps

-- the longest header: 18 octets, and a paper of 255
abbrev pub header_most : ℕ
header_most = 18 + 255

-- the least room: the longest header, a cache, and one octet more
abbrev pub cache_room_least : ℕ
cache_room_least = header_most + width * places + 1
