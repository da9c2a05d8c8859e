-- What is left to show of the loop.
use native.Mathlib.Omega.{arith}
use lib.ListN.{length-set}
use Rattle.octets.proofs.Turns.{put_next, put_end}
use Rattle.octets.proofs.place.put.Goals as goal

pub loop-i-preserved : goal.loop-i-preserved
loop-i-preserved c = (simp length-set (omega arith), search put_next)

pub returns-clause-out_after : goal.returns-clause-out_after
returns-clause-out_after c = search put_end
