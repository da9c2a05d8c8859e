-- `cache_places::rooms::cards_differ` meets its contract. Assumes nothing.
use Rattle.cache_places.specs.Evenly.{evenly}
use Rattle.cache_places.specs.Marks.{Marked}
use Rattle.cache_places.proofs.LoneCases.{Apart}
use Rattle.cache_places.proofs.rooms.cards_differ.Given as goal

abbrev pub invariant-loop-i : goal.invariant-loop-i
invariant-loop-i l = Apart l.s l.i × Marked (evenly l.s) l.i l.marks
