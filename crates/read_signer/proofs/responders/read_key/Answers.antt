-- `read_signer::responders::read_key` meets its contract, by the header and the content.
-- Assumes nothing.
use Rattle.std.proofs.Common.{rules}
use Rattle.codec.proofs.Sequence.{only}
use Rattle.layout.specs.Words.{between}
use Rattle.layout.proofs.ElementKinds.{string}
use Rattle.layout.proofs.Format.{key_id}
use Rattle.read_sequence.specs.CaseLaws.{tagged_closed}
use Rattle.read_signer.proofs.responders.read_key.Goals as goal

pub returns : goal.returns
unfolding key_id
returns c = search (rules, tagged_closed (only (string (between 20 20))))
