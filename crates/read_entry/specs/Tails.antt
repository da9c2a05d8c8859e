-- An entry's content from one of its parts on, so that each reader has what it reads.
-- this_on, status_on. How it ends is in crate read_ending, specs/Ends; the whole content is layout's single_body.
-- Assumes nothing.
use Rattle.std.specs.Prelude.{ℕ, List}
use Rattle.std.proofs.Math.Option.{Option}
use Rattle.codec.specs.Codec.{Whole}
use Rattle.codec.proofs.Sequence.{field}
use Rattle.layout.specs.Reading.{Status, Extension}
use Rattle.layout.proofs.ElementKinds.{time}
use Rattle.layout.proofs.Format.{cert_status}
use Rattle.read_ending.specs.Ends.{next_on}

-- thisUpdate, and what follows it
unfoldable pub this_on : Whole (ℕ × (Option ℕ × Option (List Extension)))
this_on = field time next_on

-- the certificate's status, and what follows it
unfoldable pub status_on : Whole (Status × (ℕ × (Option ℕ × Option (List Extension))))
status_on = field cert_status this_on
