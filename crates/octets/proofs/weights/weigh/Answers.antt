-- `octets::weights::weigh` meets its contract. Assumes nothing.
use Rattle.octets.proofs.Eights.{weights}
use Rattle.octets.proofs.weights.weigh.Goals as goal

pub returns : goal.returns
returns c = search weights
