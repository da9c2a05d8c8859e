-- A number cut by a row of lengths: some whole lengths, and what is left of it in the next.
-- before, find. That a number is cut in exactly one way is in SplitLaws.
-- Assumes nothing.
use Rattle.std.specs.Prelude.{ℕ, zero, suc, ◌+◌, ◌-◌, cond, ltb}

-- the sum of the first k lengths
unfoldable pub before : (ℕ → ℕ) → ℕ → ℕ
before len zero = 0
before len (suc k) = before len k + len k

-- whole lengths passed over, from length k on and at most f of them: the length in which the number ends, and what is left of it there
unfoldable pub find : (ℕ → ℕ) → ℕ → ℕ → ℕ → ℕ × ℕ
find len zero k n = (k, n)
find len (suc f) k n =
    let r = find len f (suc k) (n - len k) in
    cond (ltb n (len k)) (k, n) r
