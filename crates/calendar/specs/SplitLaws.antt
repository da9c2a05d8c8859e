-- Cumulative lengths split a number in exactly one way, over any row of lengths.
-- before_mono, before_less; Parts; find_only: a number's parts are what is found; find_sound: what is found are its parts.
-- Other crates need only TimeLaws.
-- Assumes nothing.
use Prim.Native.Nat.{ℕ, zero, suc, ◌+◌, ◌-◌, ◌≤◌, ◌<◌}
use Rattle.std.proofs.Math.Nat.{le-suc_iff}
use Rattle.std.proofs.Common.{eq-or-lt_of_le, arith}
use Rattle.std.specs.Prelude.{◌≡◌, Bool}
use Rattle.std.proofs.Math.Path.{refl, ap}
use Rattle.std.proofs.Math.Logic.{⊎_elim}
use Rattle.std.proofs.Math.Bool.{true, false}
use Rattle.std.proofs.Math.Dec.{ltb}
use borrow.Author.Tests.{ltb-true, ltb-false, lt-ltb, le-ltb}
use Rattle.calendar.specs.Split.{before, find}

module _ (len : ℕ → ℕ) where
  before_suc : (k : ℕ) → before len (suc k) ≡ before len k + len k
  unfolding before
  before_suc k = refl

  pub before_mono : (j k : ℕ) → j ≤ k → before len j ≤ before len k
  before_mono j zero h = let e : j ≡ 0 = omega arith in rw e (omega arith)
  before_mono j (suc k) h =
      ⊎_elim
      (λ (i : j ≤ k). omega (arith, before_mono j k i, before_suc k))
      (λ (e : j ≡ suc k). rw e (omega arith))
      (le-suc_iff.0 h)

  pub before_less : (j k r : ℕ) → j < k → r < len j → before len j + r < before len k
  before_less j k r h i = omega (arith, before_mono (suc j) k h, before_suc j)

  -- the parts of a number: all the lengths before one of the row, and less than that one besides
  abbrev pub Parts : ℕ → ℕ → ℕ × ℕ → Type 0
  Parts size n p = (p.0 < size) × (p.1 < len p.0) × (before len p.0 + p.1 ≡ n)

  only_from : (f k j n r : ℕ) → k ≤ j → j < k + f → r < len j → before len k + n ≡ before len j + r → find len f k n ≡ (j, r)
  unfolding find
  only_from zero k j n r a b i e = absurd (omega arith)
  only_from (suc f) k j n r a b i e =
      ⊎_elim
      (λ (q : k ≡ j).
      let m : n ≡ r = omega (arith, ap (before len) q) in
      rw (lt-ltb n (len k) (rw (m, q) i), q, m))
      (λ (q : k < j).
      let l : len k ≤ n = omega (arith, before_mono (suc k) j q, before_suc k) in
      rw (le-ltb n (len k) l) (only_from f (suc k) j (n - len k) r q (omega arith) i (omega (arith, before_suc k))))
      (eq-or-lt_of_le a)

  -- the parts of a number are the ones that are found
  pub find_only : (size n : ℕ) (p : ℕ × ℕ) → Parts size n p → find len size 0 n ≡ p
  unfolding before
  find_only size n p h = only_from size 0 p.0 n p.1 (omega arith) (omega arith) h.1 (omega arith)

  -- a number below the sum has parts
  some_parts : (size n : ℕ) → n < before len size → (p : ℕ × ℕ) × Parts size n p
  unfolding before
  some_parts zero n h = absurd (omega arith)
  some_parts (suc k) n h = go (some_parts k n) (ltb n (before len k)) refl
    where
      go : (n < before len k → (p : ℕ × ℕ) × Parts k n p) → (b : Bool) → ltb n (before len k) ≡ b → (p : ℕ × ℕ) × Parts (suc k) n p
      go below true e = let (p, q) = below (ltb-true _ _ e) in (p, omega arith)
      go below false e = let l = ltb-false n (before len k) e in ((k, n - before len k), omega arith)

  -- so those are found
  pub find_sound : (size n : ℕ) → n < before len size → Parts size n (find len size 0 n)
  find_sound size n h = let (p, q) = some_parts size n h in rw (find_only size n p q) q
