-- How an entry ends, from one of its parts on, so that each reader has what it reads.
-- extensions_on, next_on. What comes before is in crate read_entry, specs/Tails.
-- Assumes nothing.
use Rattle.std.specs.Prelude.{ℕ, List}
use Rattle.std.proofs.Math.Option.{Option}
use Rattle.codec.specs.Codec.{Whole}
use Rattle.codec.proofs.Option.{option}
use Rattle.layout.specs.Reading.{Extension}
use Rattle.layout.proofs.ElementKinds.{optional}
use Rattle.layout.proofs.Format.{extensions, extensions_start, extensions_apart, next_update, next_starts}

-- maybe extensions, and nothing more
unfoldable pub extensions_on : Whole (Option (List Extension))
extensions_on = optional 0xa1 extensions extensions_start

-- maybe nextUpdate, then maybe extensions
unfoldable pub next_on : Whole (Option ℕ × Option (List Extension))
unfolding extensions_on
next_on = option 0xa0 next_update extensions_on next_starts extensions_apart
