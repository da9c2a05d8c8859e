-- `cache_places::rooms::places_fit` meets its contract. Assumes nothing.
use Rattle.cache_places.proofs.Turns.{Fit}
use Rattle.cache_places.proofs.rooms.places_fit.Given as goal

abbrev pub invariant-loop-i : goal.invariant-loop-i
invariant-loop-i l = Fit l.s l.i
