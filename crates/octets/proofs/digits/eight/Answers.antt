-- `octets::digits::eight` meets its contract. Assumes nothing.
use Rattle.octets.proofs.Eights.{eight_high}
use Rattle.octets.proofs.digits.eight.Goals as goal

pub returns : goal.returns
returns c = search eight_high
