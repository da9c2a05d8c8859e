-- The number of one length octet, and of two; and how many zero bits a number may begin with.
-- zeros_few; length_one, length_two.
-- Assumes nothing.
use Prim.Native.Nat.{ℕ, ◌+◌, ◌*◌, ◌≤◌}
use native.Mathlib.Omega.{arith}
use mathlib.Core.Path.{◌≡◌, sym, ap, ◌∙◌}
use mathlib.Core.List.{List, ◌∷◌}
use Rattle.std.specs.Prelude.{Some}
use lib.ListN.{length, get_or, take, drop}
use lib.Seq.{drop-cons}
use lib.Count.{leading_le}
use Rattle.std.specs.Int.Count.{count_leading_zeros}
use Rattle.octets.specs.Number.{value_of, number_at}
use Rattle.octets.specs.NumberLaws.{number_inside}

-- at most all 64
pub zeros_few : (n : ℕ) → count_leading_zeros 64 n ≤ 64
zeros_few n = leading_le 64 n

-- where two octets follow the first two
module _ (s : List ℕ) (k : ℕ) (h : 4 ≤ length s) where
  two : drop 2 s ≡ get_or s 2 0 ∷ get_or s 3 0 ∷ drop 4 s
  two = drop-cons s 2 0 (omega arith) ∙ ap (λ (t : List ℕ). get_or s 2 0 ∷ t) (drop-cons s 3 0 (omega arith))

  pub length_one : k ≡ 1 → Some (get_or s 2 0) ≡ number_at s 2 k
  unfolding value_of
  length_one e =
      let v : value_of (take 1 (drop 2 s)) ≡ get_or s 2 0 = rw two (omega arith) in
      sym (rw e (number_inside s 2 1 (omega arith) (omega arith)) ∙ ap Some v)

  pub length_two : k ≡ 2 → Some (get_or s 2 0 * 256 + get_or s 3 0) ≡ number_at s 2 k
  unfolding value_of
  length_two e =
      let v : value_of (take 2 (drop 2 s)) ≡ get_or s 2 0 * 256 + get_or s 3 0 = rw two (omega arith) in
      sym (rw e (number_inside s 2 2 (omega arith) (omega arith)) ∙ ap Some v)
