-- `cache_line::says::say_number` meets its contract. Assumes nothing.
use Rattle.cache_line.proofs.SayCases.{number_said}
use Rattle.cache_line.proofs.says.say_number.Goals as goal

pub returns : goal.returns
returns c = search number_said
