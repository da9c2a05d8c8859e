-- What is left to show of the loop.
use Rattle.read_oids.specs.NameLaws.{place_end}
use Rattle.read_oids.proofs.NameCases.{look_end, look_none, look_hit}
use Rattle.read_oids.proofs.names.is_new.Goals as goal

pub returns-in_default : goal.returns-in_default
returns-in_default c = search look_none

pub slice_bounds-same-end : goal.slice_bounds-same-end
slice_bounds-same-end c = search place_end

pub returns-then-same : goal.returns-then-same
returns-then-same c = search look_hit

pub returns : goal.returns
returns c = search look_end
