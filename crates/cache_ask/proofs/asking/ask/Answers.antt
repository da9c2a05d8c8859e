-- `cache_ask::asking::ask` meets its contract. Assumes nothing.
use Rattle.cache_ask.proofs.Cases.{asks}
use Rattle.cache_ask.proofs.asking.ask.Goals as goal

pub returns : goal.returns
returns c = search (asks, c.type_inv.s)
