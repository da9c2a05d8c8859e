-- `cache_line::says::say_count` meets its contract. Assumes nothing.
use Rattle.cache_line.proofs.SayCases.{count_said}
use Rattle.cache_line.proofs.says.say_count.Goals as goal

pub returns : goal.returns
returns c = search count_said
