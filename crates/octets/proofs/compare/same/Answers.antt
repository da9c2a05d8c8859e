-- What is left to show of the loop.
use mathlib.Core.Path.{refl, sym}
use Prim.Native.Nat.{◌-◌, ◌≤◌}
use native.Mathlib.Omega.{arith}
use lib.ListN.{length}
use Rattle.octets.specs.SameLaws.{same_short}
use Rattle.octets.proofs.Eights.{eights_next, eights_differ, eights_end}
use Rattle.octets.proofs.compare.same.Goals as goal

pub returns-then-a-b : goal.returns-then-a-b
returns-then-a-b c = sym (same_short _ _ (λ e. omega (arith, c.if-a-b.true)))

pub loop-i-init : goal.loop-i-init
loop-i-init c = (omega arith, refl)

pub returns-then-eight : goal.returns-then-eight
returns-then-eight c = search eights_differ

pub loop-i-preserved : goal.loop-i-preserved
loop-i-preserved c = let left : 8 ≤ length c.args.a.now - c.loop-i.i = omega arith in
    (omega arith, search eights_next)

pub returns : goal.returns
returns c = search eights_end
