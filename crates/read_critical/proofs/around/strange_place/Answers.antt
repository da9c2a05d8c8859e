-- `read_critical::around::strange_place` meets its contract: into one element, into the other, and
-- through the list.
-- Assumes nothing.
use Rattle.read_critical.proofs.StrangeAround.{around_list}
use Rattle.read_critical.proofs.around.strange_place.Goals as goal

pub returns : goal.returns
returns c = search around_list
