-- `cache_line::says::say_body` meets its contract. Assumes nothing.
use Rattle.cache_line.proofs.SayCases.{body_said}
use Rattle.cache_line.proofs.says.say_body.Goals as goal

pub returns : goal.returns
returns c = search body_said
