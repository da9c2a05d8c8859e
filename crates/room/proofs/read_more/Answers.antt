-- `room::read_more` meets its contract: what came is kept after what was kept. Assumes nothing.
use Rattle.std.proofs.Common.{arith}
use Rattle.desk_intake.specs.ReadLaws.{came_more}
use Rattle.room.proofs.read_more.Goals as goal

pub returns-in-Ok : goal.returns-in-Ok
returns-in-Ok g c = came_more _ _ _ _ (omega arith) c.in-Ok.ensures.bound.1 c.keep-next.ensures.value c.keep-next.ensures.space_after
