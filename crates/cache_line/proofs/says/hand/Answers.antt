-- `cache_line::says::hand` meets its contract. Assumes nothing.
use Rattle.cache_line.proofs.SayCases.{hand_put}
use Rattle.cache_line.proofs.says.hand.Goals as goal

pub returns : goal.returns
returns c = search hand_put
