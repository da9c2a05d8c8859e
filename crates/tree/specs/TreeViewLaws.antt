-- The turns of a loop over any number of elements, up to the end of a list: codec's TurnLaws without a
-- bound, for the answer that they fit or the place that is wrong.
-- fit_all; turn_start, turn_end; turn_place, turn_bad, turn_inside, turn_sum, turn_less, turn_next. Each but the
-- first asks for what the loop knows of its place, by which `search` finds the elements.
-- Assumes nothing.
use Rattle.std.specs.Prelude.{ℕ, ◌+◌, ◌-◌, ◌^◌, ◌≤◌, ◌<◌, ◌≡◌, List, length, take, drop, Ok, Err}
use Rattle.std.proofs.Math.Option.{none}
use Rattle.std.specs.Int.{w64}
use Rattle.std.proofs.Common.{Fits}
use Rattle.codec.specs.Codec.{Element}
use Rattle.codec.proofs.Any.{all}
use Rattle.codec.specs.Views.{step_of, fit_of, later}
use Rattle.codec.proofs.TurnLaws as turns
use Rattle.codec.specs.Steps.{Step, Fit}
use Rattle.element.specs.declared.Misfit.{Misfit}
use Rattle.element.specs.Places.{misfit}

module _ {A : Type 0} (e : Element A) where
  -- the answer for the list
  abbrev pub fit_all : List ℕ → Fit
  fit_all s = fit_of ((all e).dec s)

  pub turn_start : (s : List ℕ) → fit_all s ≡ later 0 (fit_all (drop 0 s))
  turn_start s = turns.turn_start (turns.fits A) none e s

  pub turn_end : (s : List ℕ) (at : ℕ) → fit_all s ≡ later at (fit_all (drop at s)) → length s ≤ at → Ok tt ≡ fit_all s
  turn_end s at i = turns.turn_end (turns.fits A) none e s at 0 i

  -- the loop is at a place up to which the list is read
  module _ (s : List ℕ) (at : ℕ) (i : fit_all s ≡ later at (fit_all (drop at s)))
      (x : Step) (q : x ≡ step_of (e.dec (take (length s - at) (drop at s)))) where
    pub turn_place : at ≤ length s → (p : Misfit) → x ≡ Err p → length s < 2 ^ 64 → Fits w64 (at + p.place)
    turn_place = turns.turn_place e s at x q

    pub turn_bad : at < length s → (p : Misfit) → x ≡ Err p → Err (misfit (at + p.place)) ≡ fit_all s
    turn_bad = turns.turn_bad (turns.fits A) none e s at 0 i x q tt

    module _ (n : ℕ) (f : x ≡ Ok n) where
      pub turn_inside : at + n ≤ length s
      turn_inside = turns.turn_inside e s at x q n f

      pub turn_sum : length s < 2 ^ 64 → Fits w64 (at + n)
      turn_sum = turns.turn_sum e s at x q n f

      pub turn_less : length s - (at + n) < length s - at
      turn_less = turns.turn_less e s at x q n f

      pub turn_next : fit_all s ≡ later (at + n) (fit_all (drop (at + n) s))
      turn_next = turns.turn_next (turns.fits A) none e s at 0 i x q tt n f
