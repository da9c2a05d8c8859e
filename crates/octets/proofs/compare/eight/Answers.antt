-- `octets::compare::eight` meets its contract. Assumes nothing.
use Rattle.octets.proofs.Eights.{eight_low}
use Rattle.octets.proofs.compare.eight.Goals as goal

pub returns : goal.returns
returns c = search eight_low
