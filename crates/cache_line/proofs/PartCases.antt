-- What the code knows at each return of the readers of an input's parts, and the contract there.
-- new_long, new_tested; begins_none, begins_early, begins_there; clock_is; begins_cases.
-- Assumes nothing.
use Prim.Native.Nat.{ℕ, ◌+◌, ◌≤◌, ◌<◌}
use mathlib.Core.Path.{◌≡◌, sym, ap₂}
use mathlib.Core.Bool.{false}
use mathlib.Core.List.{List}
use lib.Dec.{eqb}
use lib.ListN.{length, get_or}
use borrow.Author.Tests.{eq-eqb, ne_eqb, lt-ltb, le-ltb}
use Rattle.fields.specs.Field.{value_at}
use Rattle.cache_line.specs.Input.{is_new, clock_in, begins_at}

module _ (s : List ℕ) where
  pub new_long : (length s ≡ 1 → ⊥) → false ≡ is_new s
  unfolding is_new
  new_long h = sym (rw (ne_eqb (length s) 1 h))

  pub new_tested : length s ≡ 1 → eqb (get_or s 0 0) 0 ≡ is_new s
  unfolding is_new
  new_tested h = sym (rw (eq-eqb (length s) 1 h))

  pub begins_none : length s < 18 → 0 ≡ begins_at s
  unfolding begins_at
  begins_none h = sym (rw (lt-ltb (length s) 18 h))

  module _ (h : 18 ≤ length s) where
    pub begins_early : length s < 18 + get_or s 17 0 → 0 ≡ begins_at s
    unfolding begins_at
    begins_early l = sym (rw (le-ltb (length s) 18 h, lt-ltb (length s) (18 + get_or s 17 0) l))

    pub begins_there : 18 + get_or s 17 0 ≤ length s → 18 + get_or s 17 0 ≡ begins_at s
    unfolding begins_at
    begins_there l = sym (rw (le-ltb (length s) 18 h, le-ltb (length s) (18 + get_or s 17 0) l))

pub clock_is : (s : List ℕ) (now tolerance : ℕ) → now ≡ value_at s 1 8 → tolerance ≡ value_at s 9 8
    → record { now = now; tolerance = tolerance } ≡ clock_in s
unfolding clock_in
clock_is s now tolerance e f = ap₂ (λ (a b : ℕ). record { now = a; tolerance = b }) e f

pub ruleset begins_cases = (begins_none, begins_early, begins_there)
