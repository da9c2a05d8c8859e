-- What is left to show of the loop.
use mathlib.Core.Path.{refl}
use native.Mathlib.Omega.{arith}
use lib.Dec.{lit<}
use Rattle.octets.specs.LentLaws.{part_length}
use Rattle.octets.specs.Number.{value_of}
use Rattle.octets.proofs.Turns.{number_room, number_less, number_next, number_end}
use Rattle.octets.proofs.digits.number_few.Goals as goal

pub loop-x-init : goal.loop-x-init
unfolding value_of
loop-x-init c = (lit< tt, refl)

pub overflow_mul-n : goal.overflow_mul-n
overflow_mul-n c = let a = c.args in
    omega (
      arith,
      number_room c.loop-x.n c.loop-x.x-index a.width c.loop-x.invariant.0 (omega (arith, part_length a.at a.width a.s.now (omega arith))) (omega arith),
    )

pub overflow_add-n : goal.overflow_add-n
overflow_add-n c = let a = c.args in
    omega (
      arith,
      number_room c.loop-x.n c.loop-x.x-index a.width c.loop-x.invariant.0 (omega (arith, part_length a.at a.width a.s.now (omega arith))) (omega arith),
    )

pub loop-x-preserved : goal.loop-x-preserved
loop-x-preserved c = (search number_less, search number_next)

pub returns : goal.returns
returns c = search number_end
