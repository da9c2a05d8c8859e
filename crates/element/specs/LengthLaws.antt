-- Laws of the length octets: how many they are, that they are octets, and which length has them.
-- count_least, count_is, count-range; length_short, length_long, length_octets, length_size;
-- shortest_yes, shortest_is. The definitions are in Length.
-- Assumes nothing.
use Rattle.std.specs.Prelude.{ℕ, suc, ◌+◌, ◌-◌, ◌/◌, ◌^◌, ◌≤◌, ◌<◌, ◌≡◌, refl, Bool, true, false, cond, [], ◌∷◌, ltb, eqb, length}
use Rattle.std.proofs.Common.{le_trans, le_of_eq, lt_of_lt_of_le, lt_of_not-le, not-le_of_lt, le_antisymm, le_of_suc-le-suc, arith, sym, lit<, pow_mono, ltb-true, ltb-false, lt-ltb, le-ltb, eqb-true, eq-eqb}
use Rattle.std.proofs.Math.Nat.{pow-le-pow_right}
use Rattle.std.specs.Int.Count.{count_leading_zeros}
use Rattle.std.proofs.lemmas.Nat.{leading_top}
use Rattle.octets.specs.Octets.{Octets}
use Rattle.octets.specs.Number.{octets_of}
use Rattle.octets.specs.NumberLaws.{pow256, pow256_pos, octets_length, octets_octets}
use Rattle.element.specs.Length.{length_count, length_form, shortest}

-- what the count says of a length: it is the least k whose k octets hold it
pub record Counted (n k : ℕ) : Type 0 where
  pub least : 1 ≤ k
  pub most : k ≤ 8
  pub above : 256 ^ (k - 1) ≤ n
  pub below : n < 256 ^ k

-- the count of a length that is not 0 and fits 64 bits
pub count_least : (n : ℕ) → 0 < n → n < 2 ^ 64 → Counted n (length_count n)
unfolding length_count
count_least n h f =
    let t = leading_top 64 n h f in
    let j = t.0 in
    let k : ℕ = (j + 8) / 8 in
    let e : (64 - count_leading_zeros 64 n + 7) / 8 ≡ k = omega (arith, t.1) in
    rw e record {
      least = omega arith;
      most = omega (arith, t.1);
      above = le_trans (le_of_eq (pow256 (k - 1))) (le_trans (pow_mono (omega arith)) t.2);
      below = lt_of_lt_of_le t.3 (le_trans (pow_mono (omega arith)) (le_of_eq (sym (pow256 k))));
    }

-- k octets hold no number that needs j of them, where j is more
count_below : (n j k : ℕ) → 256 ^ (j - 1) ≤ n → n < 256 ^ k → j ≤ k
count_below n j k lo hi =
    le_of_suc-le-suc (lt_of_not-le (λ (g : suc k ≤ j).
    not-le_of_lt hi (le_trans (pow-le-pow_right (lit< tt) (pred_le k j g)) lo)))
  where
    pred_le : (k j : ℕ) → suc k ≤ j → k ≤ j - 1
    pred_le k j g = omega arith

-- the only k that has a length between
pub count_is : (k n : ℕ) → 1 ≤ k → k ≤ 8 → 256 ^ (k - 1) ≤ n → n < 256 ^ k → length_count n ≡ k
count_is k n p q lo hi =
    let one = pow256_pos (k - 1) in
    let top : 256 ^ k ≤ 256 ^ 8 = pow-le-pow_right (lit< tt) q in
    let c = count_least n (omega arith) (omega arith) in
    le_antisymm (count_below n (length_count n) k c.above hi) (count_below n k (length_count n) lo c.below)

-- the two forms
pub length_short : (n : ℕ) → n < 128 → length_form n ≡ n ∷ []
unfolding length_form
length_short n h = rw (lt-ltb n 128 h)

pub length_long : (n : ℕ) → 128 ≤ n → length_form n ≡ (128 + length_count n) ∷ octets_of (length_count n) n
unfolding length_form
length_long n h = rw (le-ltb n 128 h)

-- they are octets
pub length_octets : (n : ℕ) → n < 2 ^ 64 → Octets (length_form n)
length_octets n f = go (ltb n 128) refl
  where
    go : (b : Bool) → ltb n 128 ≡ b → Octets (length_form n)
    go true e = let h = ltb-true n 128 e in rw (length_short n h) (omega arith, tt)
    go false e =
        let h = ltb-false n 128 e in
        let c = count_least n (omega arith) f in
        rw (length_long n h) (omega (arith, c.most), octets_octets (length_count n) n)

-- there is one at least, and nine at most
pub length_size : (n : ℕ) → n < 2 ^ 64 → (1 ≤ length (length_form n)) × (length (length_form n) ≤ 9)
length_size n f = go (ltb n 128) refl
  where
    go : (b : Bool) → ltb n 128 ≡ b → (1 ≤ length (length_form n)) × (length (length_form n) ≤ 9)
    go true e = rw (length_short n (ltb-true n 128 e)) (omega arith)
    go false e =
        let h = ltb-false n 128 e in
        let c = count_least n (omega arith) f in
        rw (length_long n h, octets_length (length_count n) n) (omega (arith, c.most))

-- k octets are the form of a length exactly where it needs a long form, of k
pub shortest_yes : (k n : ℕ) → 128 ≤ n → length_count n ≡ k → shortest k n ≡ true
unfolding shortest
shortest_yes k n h e = rw (le-ltb n 128 h) (eq-eqb (length_count n) k e)

pub shortest_is : (k n : ℕ) → shortest k n ≡ true → (128 ≤ n) × (length_count n ≡ k)
unfolding shortest
shortest_is k n q = go (ltb n 128) refl q
  where
    go : (b : Bool) → ltb n 128 ≡ b → cond b false (eqb (length_count n) k) ≡ true → (128 ≤ n) × (length_count n ≡ k)
    go true e q = let z : ◌≡◌ {A = ℕ} 0 1 = cc in absurd (omega arith)
    go false e q = (ltb-false n 128 e, eqb-true (length_count n) k q)
