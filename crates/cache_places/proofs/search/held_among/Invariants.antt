-- `cache_places::search::held_among` meets its contract. Assumes nothing.
use Rattle.cache_places.proofs.Turns.{Held}
use Rattle.cache_places.proofs.search.held_among.Given as goal

abbrev pub invariant-loop-i : goal.invariant-loop-i
invariant-loop-i l = Held l.s l.card l.n l.i
