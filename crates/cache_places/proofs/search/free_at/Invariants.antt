-- `cache_places::search::free_at` meets its contract. Assumes nothing.
use Rattle.cache_places.proofs.Turns.{Free}
use Rattle.cache_places.proofs.search.free_at.Given as goal

abbrev pub invariant-loop-i : goal.invariant-loop-i
invariant-loop-i l = Free l.s l.clock l.i
