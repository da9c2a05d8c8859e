-- The pieces of which layout's Format makes an extension, under names of their own: what each reader
-- here reads.
-- value, flagged. The codecs are what Format has at those places.
-- Assumes nothing.
use Rattle.std.specs.Prelude.{ℕ, List}
use Rattle.std.proofs.Math.Option.{Option}
use Rattle.codec.specs.Codec.{Whole}
use Rattle.codec.proofs.Sequence.{only}
use Rattle.codec.proofs.Option.{option}
use Rattle.layout.specs.Words.{anything}
use Rattle.layout.proofs.ElementKinds.{string}
use Rattle.layout.proofs.Format.{critical, critical_starts, value_apart}

-- extnValue, and nothing more
unfoldable pub value : Whole (List ℕ)
value = only (string anything)

-- maybe critical, then extnValue
unfoldable pub flagged : Whole (Option (Unit {0}) × List ℕ)
flagged = option 0x01 critical (only (string anything)) critical_starts value_apart
