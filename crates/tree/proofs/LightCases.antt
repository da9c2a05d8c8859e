-- Short headers, and an element that is stepped over: that it is an element, and the turn of the run's loop
-- that it makes.
-- short_cases; light_taken; over_sum, over_inside, over_less, over_next.
-- Assumes nothing.
use Prim.Native.Nat.{ℕ, zero, suc, ◌+◌, ◌-◌, ◌^◌, ◌≤◌, ◌<◌}
use mathlib.Core.Path.{◌≡◌, refl, sym, ap}
use mathlib.Core.Bool.{Bool, true, false}
use mathlib.Core.List.{List}
use lib.ListN.{length, get_or, take, drop}
use Rattle.std.specs.Prelude.{Option, Some, Ok}
use mir.Syntax.{w64}
use mir.Val.{Fits}
use Rattle.element.specs.Tag.{tag_of}
use Rattle.element.specs.Header.{is_short}
use Rattle.element.specs.ShortLaws.{short_first, short_second, short_found}
use Rattle.element.specs.declared.Tag.{Tag}
use Rattle.codec.specs.TreeRead.{tree_dec, node_dec}
use Rattle.codec.proofs.TreeRead.{tree}
use Rattle.codec.specs.Views.{step_of, later}
use Rattle.tree.specs.TreeViewLaws.{fit_all, turn_sum, turn_inside, turn_less, turn_next}
use Rattle.tree.specs.Light.{Light}

-- what a short header says
pub ruleset short_cases = (short_first, short_second, short_found)

-- a primitive element with a short header takes that and its length
pub light_taken : (d : ℕ) (s : List ℕ) → (d ≡ 0 → ⊥) → (k : Tag) → k ≡ tag_of (get_or s 0 0) → k.constructed ≡ false
    → (b : Bool) → b ≡ is_short s → b ≡ true → Light d s (Some (2 + get_or s 1 0))
unfolding tree_dec node_dec step_of
light_taken zero s z k o c b q y = absurd (z refl)
light_taken (suc d) s z k o c b q y = rw (← short_found s b q y, ap (λ (x : Tag). x.constructed) (sym o), c)

-- at a place up to which the run is read, where an element is stepped over
module _ (d : ℕ) (s : List ℕ) (at : ℕ) (i : fit_all (tree d) s ≡ later at (fit_all (tree d) (drop at s)))
    (r : Option ℕ) (q : Light d (take (length s - at) (drop at s)) r) (x : ℕ) (f : r ≡ Some x) where
  over_is : Ok x ≡ step_of ((tree d).dec (take (length s - at) (drop at s)))
  over_is = rw f at q

  pub over_sum : length s < 2 ^ 64 → Fits w64 (at + x)
  over_sum z = turn_sum (tree d) s at i (Ok x) over_is x refl z

  pub over_inside : at + x ≤ length s
  over_inside = turn_inside (tree d) s at i (Ok x) over_is x refl

  pub over_less : length s - (at + x) < length s - at
  over_less = turn_less (tree d) s at i (Ok x) over_is x refl

  pub over_next : fit_all (tree d) s ≡ later (at + x) (fit_all (tree d) (drop (at + x) s))
  over_next = turn_next (tree d) s at i (Ok x) over_is x refl
