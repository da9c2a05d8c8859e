-- A step of a walk, by the response and the place: the octets that it hands out, and the place after it.
-- part_in, part_of; place_after, place_next; walk_step, stepped_of. What a step says is show's entry_of.
-- Assumes nothing.
use Rattle.std.specs.Prelude.{ℕ, ◌+◌, List, [], length, take, drop}
use Rattle.show.specs.Shown.{entry_of}
use Rattle.show.specs.declared.Entry.{Entry}
use Rattle.show.specs.declared.Entry.TheVariants as entry
use Rattle.walk_rules.specs.declared.Advance.{Advance}
use Rattle.walk_rules.specs.declared.Stepped.{Stepped}

-- an entry's octets, header included, as far as there are so many; nothing at the end or with a refusal
unfoldable pub part_in : List ℕ → Entry → List ℕ
part_in s (entry.At start n) = take n (drop start s)
part_in s entry.End = []
part_in s (entry.Refused n c p) = []

-- of the entry at a place
unfoldable pub part_of : List ℕ → ℕ → List ℕ
part_of s k = part_in s (entry_of s k)

-- one more entry is handed out; at the end and with a refusal the place stays
unfoldable pub place_after : Entry → ℕ → ℕ
place_after (entry.At start n) k = k + 1
place_after entry.End k = k
place_after (entry.Refused n c p) k = k

-- the place after a step from a place
unfoldable pub place_next : List ℕ → ℕ → ℕ
place_next s k = place_after (entry_of s k) k

-- what a step from a place says, and the place after it
unfoldable pub walk_step : List ℕ → ℕ → Advance
walk_step s k = record { says = entry_of s k; place = place_next s k }

-- the same, and how many octets it hands out
unfoldable pub stepped_of : List ℕ → ℕ → Stepped
stepped_of s k = record { says = entry_of s k; size = length (part_of s k); place = place_next s k }
