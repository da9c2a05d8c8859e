-- `read_signer::responders::read_name` meets its contract, by the header and the content.
-- Assumes nothing.
use Rattle.std.proofs.Common.{rules}
use Rattle.codec.proofs.Sequence.{only}
use Rattle.layout.proofs.ElementKinds.{free_sequence}
use Rattle.layout.proofs.Format.{name_id}
use Rattle.read_sequence.specs.CaseLaws.{tagged_closed}
use Rattle.read_signer.proofs.responders.read_name.Goals as goal

pub returns : goal.returns
unfolding name_id
returns c = search (rules, tagged_closed (only free_sequence))
