-- `read_version::versions::read_version` meets its contract, by the header and the content.
-- Assumes nothing.
use Rattle.std.proofs.Common.{rules}
use Rattle.codec.proofs.Sequence.{only}
use Rattle.layout.proofs.Format.{v1, version}
use Rattle.read_sequence.specs.CaseLaws.{tagged_closed}
use Rattle.read_version.proofs.versions.read_version.Goals as goal

pub returns : goal.returns
unfolding version
returns c = search (rules, tagged_closed (only v1))
