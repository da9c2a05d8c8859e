-- The octets at a place, as they are lent.
-- counted, span_beyond, span_short, span_whole.
-- Assumes nothing.
use Prim.Native.Nat.{ℕ, ◌-◌, ◌≤◌, ◌<◌}
use native.Mathlib.Omega.{arith}
use mathlib.Core.Path.{◌≡◌, refl, sym, ap, ◌∙◌}
use mathlib.Core.List.{List, []}
use lib.ListN.{length, take, drop, drop_of_length-le}
use lib.Seq.{take-nil, take_all, length-take-le}
use Rattle.octets.specs.LentLaws.{rest_is}

-- the first n octets are n octets, where there are so many
pub counted : (n : ℕ) (s : List ℕ) → n ≤ length s → n ≡ length (take n s)
counted n s h = sym (length-take-le n s h)

-- l octets at a place b: it starts behind the end; what is left is less; it is not
module _ (b l : ℕ) (s : List ℕ) where
  pub span_beyond : length s < b → take l (drop b s) ≡ []
  span_beyond lt = rw (drop_of_length-le s {i = b} (omega (arith, lt)), take-nil {A = ℕ} l)

  pub span_short : length (take (length s - b) (drop b s)) < l → take l (drop b s) ≡ take (length s - b) (drop b s)
  span_short lt = take_all l (drop b s) (omega (arith, ap length (rest_is b s))) ∙ sym (rest_is b s)

  pub span_whole : take l (drop b s) ≡ take l (take (length s - b) (drop b s))
  span_whole = ap (take l) (sym (rest_is b s))

pub ruleset span_cases = (counted, span_beyond, span_short, span_whole)
