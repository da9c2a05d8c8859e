-- `read_signer::certificates::read_certificates` meets its contract, by the header and the content.
-- Assumes nothing.
use Rattle.std.proofs.Common.{rules}
use Rattle.codec.proofs.Sequence.{only}
use Rattle.layout.proofs.ElementKinds.{sequence}
use Rattle.layout.proofs.Format.{certificates}
use Rattle.read_sequence.specs.CaseLaws.{tagged_closed}
use Rattle.read_signer.specs.Run.{certificate_run}
use Rattle.read_signer.proofs.certificates.read_certificates.Goals as goal

pub returns : goal.returns
unfolding certificates certificate_run
returns c = search (rules, tagged_closed (only (sequence certificate_run)))
