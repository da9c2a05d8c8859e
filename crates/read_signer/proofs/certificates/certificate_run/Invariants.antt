-- `read_signer::certificates::certificate_run` meets its contract. The loop is at a place up to which count
-- certificates are read.
-- Assumes nothing.
use Prim.Native.Nat.{◌≤◌, ◌-◌}
use mathlib.Core.Option.{some}
use lib.ListN.{length}
use Rattle.codec.proofs.TurnLaws.{fits, Turns}
use Rattle.codec.specs.Tree.{Tree}
use Rattle.layout.proofs.ElementKinds.{free_sequence}
use Rattle.read_signer.proofs.certificates.certificate_run.Given as goal

abbrev pub invariant-loop-at : goal.invariant-loop-at
invariant-loop-at l = (l.at ≤ length l.s) × (l.count ≤ 8) × Turns (fits Tree) (some 8) free_sequence l.s l.at l.count

abbrev pub decreases-loop-at : goal.decreases-loop-at
decreases-loop-at l = length l.s - l.at
