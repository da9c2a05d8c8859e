-- A place that is found is one of the 64: what the C function that asks the cache knows before it looks for the slip there.
-- span_placed, find_placed.
-- Assumes nothing.
use Prim.Native.Nat.{ℕ, ◌<◌}
use mathlib.Core.Path.{◌≡◌, sym, ◌∙◌}
use mathlib.Core.List.{List}
use Rattle.freshness.specs.declared.Clock.{Clock}
use Rattle.cache_ask.specs.declared.Sought.{Sought}
use Rattle.cache_ask.specs.declared.Sought.TheVariants as found
use Rattle.cache_ask.specs.Found.{ask_found}
use Rattle.desk_c.specs.Caches.{Placed}
use Rattle.desk_c.specs.FindLaws.{find_inside}

pub span_placed : (f : Sought) (i : ℕ) → f ≡ found.At i → Placed f → i < 64
span_placed f i e h = h i e

pub find_placed : (clock : Clock) (c s : List ℕ) (f : Sought) → f ≡ ask_found clock c s → (i : ℕ) → f ≡ found.At i → i < 64
find_placed clock c s f e i q = find_inside clock c s i (sym e ∙ q)
