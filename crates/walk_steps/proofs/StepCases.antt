-- What a step knows where an entry is.
-- few.
-- Assumes nothing.
use Rattle.std.specs.Prelude.{ℕ, ◌<◌, ◌≡◌, List}
use Rattle.octets.specs.LentLaws.{Known, known_octets}
use Rattle.show.specs.Shown.{entry_of}
use Rattle.show.specs.declared.Entry.TheVariants as entry
use Rattle.walk_rules.proofs.StepLaws.{has_few}

-- the place is small, so that one more is counted
pub few : (s : List ℕ) (k start n : ℕ) → Known s → entry_of s k ≡ entry.At start n → k < 64
few s k start n known e = has_few s (known_octets s known) k start n e
