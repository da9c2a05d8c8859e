-- The lengths of months and years.
-- and_l, and_r, and_both; holds_below, each_at: a test computed over a table; month_within, year_whole, days_whole.
-- Other crates need only TimeLaws.
-- Assumes nothing.
use Rattle.std.specs.Prelude.{ℕ, zero, suc, ◌+◌, ◌≤◌, ◌<◌, ◌≡◌, refl, Bool, true, false, cond, ◌&&◌, leb, get_or}
use Rattle.std.proofs.Common.{not-suc-le-zero, eq-or-lt_of_le, le_of_suc-le-suc, ⊎_elim, leb-true}
use Rattle.calendar.specs.Split.{before}
use Rattle.calendar.specs.Date.{leap_of, year_len, lengths, month_len}

-- both parts of a conjunction hold
pub and_l : (a b : Bool) → a && b ≡ true → a ≡ true
and_l true b e = refl
and_l false b e = e

pub and_r : (a b : Bool) → a && b ≡ true → b ≡ true
and_r true b e = e
and_r false b e = cc

pub and_both : (a b : Bool) → a ≡ true → b ≡ true → a && b ≡ true
and_both a b p q = rw (p, q)

-- a test holds of each number below n
abbrev pub holds_below : (ℕ → Bool) → ℕ → Bool
holds_below p zero = true
holds_below p (suc n) = p n && holds_below p n

-- and so of any one of them
pub each_at : (p : ℕ → Bool) (n : ℕ) → holds_below p n ≡ true → (k : ℕ) → k < n → p k ≡ true
each_at p zero t k h = absurd (not-suc-le-zero h)
each_at p (suc n) t k h =
    ⊎_elim
    (λ (e : k ≡ n). rw e (and_l (p n) (holds_below p n) t))
    (λ (l : k < n). each_at p n (and_r (p n) (holds_below p n) t) k l)
    (eq-or-lt_of_le (le_of_suc-le-suc h))

-- every month has 28 to 31 days
is_month : Bool → ℕ → Bool
is_month leap k = leb 28 (get_or (lengths leap) k 0) && leb (get_or (lengths leap) k 0) 31

all_months : (leap : Bool) → holds_below (is_month leap) 12 ≡ true
unfolding is_month
all_months true = refl
all_months false = refl

pub month_within : (y k : ℕ) → k < 12 → (28 ≤ month_len y k) × (month_len y k ≤ 31)
unfolding is_month month_len
month_within y k h =
    let t = each_at (is_month (leap_of y)) 12 (all_months (leap_of y)) k h in
    (leb-true _ _ (search and_l), leb-true _ _ (search and_r))

-- the twelve months fill the year
months_whole : (leap : Bool) → before (λ (k : ℕ). get_or (lengths leap) k 0) 12 ≡ cond leap 366 365
unfolding before
months_whole true = refl
months_whole false = refl

pub year_whole : (k : ℕ) → before (month_len (1970 + k)) 12 ≡ year_len k
unfolding month_len year_len
year_whole k = months_whole (leap_of (1970 + k))

-- the days of the years 1970 to 9999
pub days_whole : before year_len 8030 ≡ 2932897
unfolding before year_len leap_of
days_whole = refl
