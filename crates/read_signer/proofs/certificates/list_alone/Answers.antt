-- `read_signer::certificates::list_alone` meets its contract, by the sequence.
-- Assumes nothing.
use Rattle.layout.proofs.ElementKinds.{sequence}
use Rattle.read_sequence.specs.CaseLaws.{filled_only}
use Rattle.read_signer.specs.Run.{certificate_run}
use Rattle.read_signer.proofs.certificates.list_alone.Goals as goal

pub returns : goal.returns
returns c = filled_only (sequence certificate_run) _ _ c.read_list.ensures _ c.filled.ensures
