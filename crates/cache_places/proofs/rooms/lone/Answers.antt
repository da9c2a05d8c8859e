-- The marks that `cache_places::rooms::lone` leaves; the check finds the rest of its contract. Assumes nothing.
use Rattle.cache_places.proofs.LoneCases.{marks_next}
use Rattle.cache_places.proofs.rooms.lone.Goals as goal

pub returns-then-met-eq0-clause-marked_2 : goal.returns-then-met-eq0-clause-marked_2
returns-then-met-eq0-clause-marked_2 c = search marks_next

pub returns-else-met-eq0-clause-marked_2 : goal.returns-else-met-eq0-clause-marked_2
returns-else-met-eq0-clause-marked_2 c = search marks_next
