-- The case of no extensions at all: nothing critical is there.
-- nothing_there.
-- Assumes nothing.
use Prim.Native.Nat.{ℕ}
use native.Mathlib.Omega.{arith}
use mathlib.Core.Path.{◌≡◌, sym, ap}
use mathlib.Core.Bool.{false}
use mathlib.Core.List.{List, [], ◌∷◌}
use lib.ListN.{length}
use Rattle.read_critical.specs.Strange.{strange_of}
use Rattle.read_critical.specs.StrangeLaws.{strange_absent}
use Rattle.rule_tests.specs.StrangePlace.{is_place}

pub nothing_there : (known : List (List ℕ)) (s : List ℕ) → length s ≡ 0 → false ≡ is_place (strange_of known s)
unfolding is_place
nothing_there known [] e = sym (ap is_place (strange_absent known))
nothing_there known (x ∷ s) e = absurd (omega arith)
