-- `cache_places::search::count` meets its contract. Assumes nothing.
use Rattle.cache_places.proofs.Turns.{Counted}
use Rattle.cache_places.proofs.search.count.Given as goal

abbrev pub invariant-loop-i : goal.invariant-loop-i
invariant-loop-i l = Counted l.s l.n l.i
