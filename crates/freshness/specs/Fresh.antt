-- Whether an answer counts at a time (document 01, refusals 13 to 16).
-- Freshness; fresh_of, fresh_refusal. That it counts exactly from thisUpdate to nextUpdate plus tolerance is in
-- FreshLaws.
-- Assumes nothing.
use Rattle.std.specs.Prelude.{ℕ, ◌+◌, ◌-◌, Option, Some, None, Result, Ok, Err, cond, ltb}
use Rattle.freshness.specs.declared.Missed.{Missed}
use Rattle.freshness.specs.declared.Missed.TheVariants.{Endless, Reversed, Early, Late}

-- it counts, or the rule that is missed
abbrev pub Freshness : Type 0
Freshness = Result Unit Missed

-- 13 no nextUpdate; 14 nextUpdate is before thisUpdate; 15 thisUpdate is after now; 16 now is after
-- nextUpdate plus tolerance; each with the seconds by which it is missed
unfoldable pub fresh_of : ℕ → Option ℕ → ℕ → ℕ → Freshness
fresh_of this None now tolerance = Err Endless
fresh_of this (Some next) now tolerance =
    cond (ltb next this) (Err (Reversed (this - next)))
    (cond (ltb now this) (Err (Early (this - now)))
    (cond (ltb (next + tolerance) now) (Err (Late (now - (next + tolerance)))) (Ok tt)))

-- the number of the refusal, 0 where there is none
abbrev pub fresh_refusal : Freshness → ℕ
fresh_refusal (Ok u) = 0
fresh_refusal (Err Endless) = 13
fresh_refusal (Err (Reversed n)) = 14
fresh_refusal (Err (Early n)) = 15
fresh_refusal (Err (Late n)) = 16
