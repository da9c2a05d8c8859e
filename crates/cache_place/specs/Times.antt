-- The times of a slip, as the octets at their places have them.
-- this_at, next_at, late_at. That they are those that a slip says is in TimesLaws.
-- Assumes nothing.
use Rattle.std.specs.Prelude.{ℕ, ◌+◌, Bool, List, ltb}
use Rattle.freshness.specs.declared.Clock.{Clock}
use Rattle.fields.specs.Field.{value_at}

-- thisUpdate stands after the kind and the card, nextUpdate after it
unfoldable pub this_at : List ℕ → ℕ
this_at p = value_at p 62 8

unfoldable pub next_at : List ℕ → ℕ
next_at p = value_at p 70 8

-- nextUpdate plus tolerance is before now
unfoldable pub late_at : Clock → List ℕ → Bool
late_at clock p = ltb (next_at p + clock.tolerance) clock.now
