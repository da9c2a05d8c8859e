-- `content::oid::oid_fits` meets its contract. The loop's invariant: the answer is that of the rest, where a part begins or goes on.
-- Assumes nothing.
use mathlib.Core.Path.{◌≡◌}
use lib.ListN.{drop}
use Rattle.content.specs.Oid.{oid_from, oid_ok}
use Rattle.content.proofs.oid.oid_fits.Given as goal

abbrev pub invariant-loop-x : goal.invariant-loop-x
invariant-loop-x l = oid_from l.begins (drop l.x-index l.s) ≡ oid_ok l.s
