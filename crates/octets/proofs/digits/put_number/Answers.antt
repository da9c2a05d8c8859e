-- What is left to show of the loop.
use mathlib.Core.Path.{refl, sym, ap, ◌∙◌}
use Prim.Native.Nat.{ℕ, ◌/◌, ◌^◌}
use native.Mathlib.Nat.{div-one, sub_self}
use native.Mathlib.Omega.{arith}
use lib.ListN.{length-set}
use Rattle.octets.specs.BufferLaws.{put_answer_room}
use Rattle.octets.proofs.Turns.{written_all, written_left, written_next, written_end}
use Rattle.octets.proofs.digits.put_number.Goals as goal

pub loop-i-init : goal.loop-i-init
loop-i-init c = let a = c.args in (
  omega arith,
  refl,
  sym (ap (λ (k : ℕ). a.n / 256 ^ k) (sub_self a.width) ∙ div-one a.n),
  written_all a.out.now a.at a.width a.n,
)

pub loop-i-preserved : goal.loop-i-preserved
loop-i-preserved c = (omega arith, simp length-set (omega arith), search written_left, search written_next)

pub shape_of-out : goal.shape_of-out
shape_of-out c = c.loop-i.invariant.1

pub returns : goal.returns
returns c = record { value = sym (put_answer_room _ _ _ (omega arith)); out_after = search written_end }
