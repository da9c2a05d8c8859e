-- `read_signer::responders::name_alone` meets its contract, by the element.
-- Assumes nothing.
use Rattle.layout.proofs.ElementKinds.{free_sequence}
use Rattle.read_sequence.specs.CaseLaws.{filled_only}
use Rattle.read_signer.proofs.responders.name_alone.Goals as goal

pub returns : goal.returns
unfolding free_sequence
returns c = filled_only free_sequence _ _ c.read_tree_tagged.ensures _ c.filled.ensures
