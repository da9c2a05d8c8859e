-- Laws of a step: where response says that an entry is, the response has a reading with an entry of that
-- ordinal, and all of its octets are there.
-- HasEntry, entry_has; has_inside, part_sized, has_few.
-- The definitions are in Step. Assumes nothing.
-- The definitions stand here; the laws, and what is made of them, in proofs/StepLaws.
use Rattle.std.specs.Prelude.{ℕ, ◌≤◌, ◌<◌, ◌≡◌, List, length}
use Rattle.layout.specs.Reading as reading
use Rattle.layout.specs.Read.{reads}
use Rattle.layout.proofs.Read.{reading}

-- the response reads as a basic one, which has an entry with this ordinal
pub record HasEntry (s : List ℕ) (k : ℕ) : Type 0 where
  pub value : reading.Basic
  pub read : reading s ≡ reads (reading.basic value)
  pub small : length s ≤ 16384
  pub before : k < length value.signed.entries
