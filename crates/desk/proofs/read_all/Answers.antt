-- `desk::read_all` meets its contract: before the first read nothing is kept, and each read keeps what came.
-- Assumes nothing.
use Rattle.std.proofs.Common.{[]}
use Rattle.desk_intake.specs.KeptLaws.{holds_nothing}
use Rattle.desk_intake.specs.ReadLaws.{went_on, ended}
use Rattle.desk.proofs.read_all.Goals as goal

pub loop-init : goal.loop-init
loop-init g c = ([], holds_nothing _)

pub loop-preserved : goal.loop-preserved
loop-preserved g c = went_on _ _ _ _ _ c.read_more.ensures c.in-More.is c.loop.invariant

pub returns-in-End : goal.returns-in-End
returns-in-End g c = ended _ _ _ _ _ c.read_more.ensures c.in-End.is c.loop.invariant
