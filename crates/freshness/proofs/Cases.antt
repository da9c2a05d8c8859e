-- What the code knows at each return, and what follows there. The code adds the tolerance only where the sum is below now.
-- judge_endless, judge_reversed, judge_early, judge_before, judge_late, judge_tolerated.
-- Assumes nothing.
use Prim.Native.Nat.{ℕ, ◌+◌, ◌-◌, ◌≤◌, ◌<◌}
use native.Mathlib.Omega.{arith}
use mathlib.Core.Path.{◌≡◌, sym}
use Rattle.std.specs.Prelude.{Option, Some, None, Ok, Err}
use Rattle.freshness.specs.declared.Missed.TheVariants.{Endless, Reversed, Early, Late}
use Rattle.freshness.specs.Fresh.{fresh_of}
use Rattle.freshness.specs.FreshLaws.{fresh_reversed, fresh_early, fresh_late, fresh_within}

module _ (this : ℕ) (next : Option ℕ) (now tolerance : ℕ) where
  -- there is no nextUpdate
  pub judge_endless : next ≡ None → Err Endless ≡ fresh_of this next now tolerance
  unfolding fresh_of
  judge_endless e = rw e

  module _ (end : ℕ) (e : next ≡ Some end) where
    -- nextUpdate is before thisUpdate
    pub judge_reversed : end < this → Err (Reversed (this - end)) ≡ fresh_of this next now tolerance
    judge_reversed h = rw e (sym (fresh_reversed this end now tolerance h))

    -- thisUpdate is after now
    pub judge_early : this ≤ end → now < this → Err (Early (this - now)) ≡ fresh_of this next now tolerance
    judge_early a h = rw e (sym (fresh_early this end now tolerance a h))

    -- now is not after nextUpdate
    pub judge_before : this ≤ end → this ≤ now → now ≤ end → Ok tt ≡ fresh_of this next now tolerance
    judge_before a b h = rw e (sym (fresh_within this end now tolerance a b (omega arith)))

    -- it is, by more than the tolerance
    pub judge_late : this ≤ end → this ≤ now → end < now → tolerance < now - end → Err (Late (now - (end + tolerance))) ≡ fresh_of this next now tolerance
    judge_late a b l h = rw e (sym (fresh_late this end now tolerance a b (omega arith)))

    -- it is, by no more
    pub judge_tolerated : this ≤ end → this ≤ now → end < now → now - end ≤ tolerance → Ok tt ≡ fresh_of this next now tolerance
    judge_tolerated a b l h = rw e (sym (fresh_within this end now tolerance a b (omega arith)))
