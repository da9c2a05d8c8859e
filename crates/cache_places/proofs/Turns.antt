-- What one turn of each loop does: i places were looked at.
-- first_stop, first_next, first_end; held_start, held_stop, held_next, held_end; free_start, free_stop, free_next, free_end;
-- fit_start, fit_stop, fit_next, fit_end; count_start, count_room, count_next, count_end; held_turns, free_turns, fit_turns,
-- count_turns.
-- Assumes nothing.
use Prim.Native.Nat.{ℕ, suc, ◌+◌, ◌≤◌, ◌<◌}
use native.Mathlib.Nat.{le_antisymm}
use native.Mathlib.Numerals.{add-one}
use native.Mathlib.Omega.{arith}
use mathlib.Core.Path.{◌≡◌, refl, sym, ◌∙◌}
use mathlib.Core.Bool.{Bool, true, false, cond, not}
use mathlib.Core.List.{List, []}
use lib.ListN.{length, get_or, take, drop, drop_of_length-le}
use lib.Seq.{drop-cons, length-take-le, get_or-take}
use borrow.Author.Tests.{not-true, not-false}
use Rattle.octets.specs.Same.{same_of}
use Rattle.freshness.specs.declared.Clock.{Clock}
use Rattle.cache_room.specs.Room.{first_at, is_empty, has_card, held_at, is_free, free_at, count}
use Rattle.cache_rules.specs.Place.{card_at, place_ok}
use Rattle.cache_rules.specs.Cache.{all_fit}
use Rattle.cache_place.specs.Times.{late_at}
use Rattle.cache_places.specs.Evenly.{evenly}
use Rattle.cache_places.specs.EvenlyLaws.{even_length}

-- ---- the first that passes a test: none of the first i does

module _ {A : Type 0} (p : A → Bool) (l : List A) (d : A) (i : ℕ) (q : first_at p l ≡ i + first_at p (drop i l)) where
  here : i < length l → first_at p l ≡ i + cond (p (get_or l i d)) 0 (suc (first_at p (drop (suc i) l)))
  unfolding first_at
  here h = q ∙ rw (drop-cons l i d h)

  pub first_stop : i < length l → p (get_or l i d) ≡ true → i ≡ first_at p l
  first_stop h e = let k : first_at p l ≡ i + 0 = rw e at (here h) in omega arith

  pub first_next : i < length l → p (get_or l i d) ≡ false → first_at p l ≡ i + 1 + first_at p (drop (i + 1) l)
  first_next h e =
      let k : first_at p l ≡ i + suc (first_at p (drop (suc i) l)) = rw e at (here h) in
      rw (add-one i) (omega arith)

  pub first_end : length l ≤ i → i ≡ first_at p l
  unfolding first_at
  first_end h = let k : first_at p l ≡ i + 0 = rw (drop_of_length-le l h) at q in omega arith

-- ---- where a card is held among the first n places

module _ (s c : List ℕ) (n : ℕ) where
  abbrev among : List (List ℕ)
  among = take n (evenly s)

  -- what the loop knows
  unfoldable pub Held : ℕ → Type 0
  Held i = first_at (has_card card_at c) among ≡ i + first_at (has_card card_at c) (drop i among)

  pub held_start : Held 0
  unfolding Held
  held_start = omega arith

  module _ (m : n ≤ 64) (i : ℕ) (k : Held i) where
    size : length among ≡ n
    size = length-take-le n (evenly s) (omega (arith, even_length s))

    module _ (h : i < n) (x own : List ℕ) (e : x ≡ get_or (evenly s) i []) (f : own ≡ card_at x) (b : Bool) (g : b ≡ same_of own c) where
      test : has_card card_at c (get_or among i []) ≡ b
      test = rw (get_or-take n (evenly s) i [] h, ← e, ← f) (sym g)

      pub held_stop : b ≡ true → i ≡ held_at card_at c among
      unfolding Held held_at
      held_stop t = first_stop (has_card card_at c) among [] i k (omega (arith, size)) (test ∙ t)

      pub held_next : b ≡ false → Held (i + 1)
      unfolding Held
      held_next t = first_next (has_card card_at c) among [] i k (omega (arith, size)) (test ∙ t)

    pub held_end : i ≤ n → n ≤ i → n ≡ held_at card_at c among
    unfolding Held held_at
    held_end l h =
        let e : i ≡ n = le_antisymm l h in
        sym e ∙ first_end (has_card card_at c) among [] i k (omega (arith, size))

-- ---- the first place that may be taken

module _ (s : List ℕ) (clock : Clock) where
  abbrev free : List ℕ → Bool
  free = is_free card_at (late_at clock)

  unfoldable pub Free : ℕ → Type 0
  Free i = first_at free (evenly s) ≡ i + first_at free (drop i (evenly s))

  pub free_start : Free 0
  unfolding Free
  free_start = omega arith

  module _ (i : ℕ) (k : Free i) where
    module _ (h : i < 64) (x : List ℕ) (e : x ≡ get_or (evenly s) i []) (b : Bool) (g : b ≡ free x) where
      pub free_stop : b ≡ true → i ≡ free_at card_at (late_at clock) (evenly s)
      unfolding Free free_at
      free_stop t = first_stop free (evenly s) [] i k (omega (arith, even_length s)) (rw (← e) (sym g ∙ t))

      pub free_next : b ≡ false → Free (i + 1)
      unfolding Free
      free_next t = first_next free (evenly s) [] i k (omega (arith, even_length s)) (rw (← e) (sym g ∙ t))

    pub free_end : i ≤ 64 → 64 ≤ i → 64 ≡ free_at card_at (late_at clock) (evenly s)
    unfolding Free free_at
    free_end l h =
        let e : i ≡ 64 = le_antisymm l h in
        sym e ∙ first_end free (evenly s) [] i k (omega (arith, even_length s))

-- ---- whether each place fits: the first i do

module _ (s : List ℕ) where
  unfoldable pub Fit : ℕ → Type 0
  Fit i = all_fit (evenly s) ≡ all_fit (drop i (evenly s))

  pub fit_start : Fit 0
  unfolding Fit
  fit_start = refl

  module _ (i : ℕ) (k : Fit i) where
    module _ (h : i < 64) (x : List ℕ) (e : x ≡ get_or (evenly s) i []) (b : Bool) (g : b ≡ place_ok x) where
      step : all_fit (evenly s) ≡ cond b (all_fit (drop (suc i) (evenly s))) false
      unfolding Fit all_fit
      step = k ∙ rw (drop-cons (evenly s) i [] (omega (arith, even_length s)), ← e, ← g)

      pub fit_stop : not b ≡ true → false ≡ all_fit (evenly s)
      fit_stop t = sym (step ∙ rw (not-true b t))

      pub fit_next : not b ≡ false → Fit (i + 1)
      unfolding Fit
      fit_next t = rw (add-one i) (step ∙ rw (not-false b t))

    pub fit_end : 64 ≤ i → true ≡ all_fit (evenly s)
    unfolding Fit all_fit
    fit_end h = sym (k ∙ rw (drop_of_length-le (evenly s) {i = i} (omega (arith, even_length s))))

-- ---- how many are filled: n of the first i

module _ (s : List ℕ) where
  unfoldable pub Counted : ℕ → ℕ → Type 0
  Counted n i = (n ≤ i) × (count card_at (evenly s) ≡ n + count card_at (drop i (evenly s)))

  pub count_start : Counted 0 0
  unfolding Counted
  count_start = (omega arith, omega arith)

  module _ (n i : ℕ) (k : Counted n i) where
    pub count_room : i < 64 → n ≤ 64
    unfolding Counted
    count_room h = omega (arith, k.0)

    pub count_next : i < 64 → (x : List ℕ) → x ≡ get_or (evenly s) i [] → (m : ℕ) → m ≡ cond (is_empty card_at x) n (suc n) → Counted m (i + 1)
    unfolding Counted count
    count_next h x e m g = go (is_empty card_at x) g step
      where
        step : count card_at (evenly s) ≡ n + cond (is_empty card_at x) (count card_at (drop (suc i) (evenly s))) (suc (count card_at (drop (suc i) (evenly s))))
        step = k.1 ∙ rw (drop-cons (evenly s) i [] (omega (arith, even_length s)), ← e)

        go : (b : Bool) → m ≡ cond b n (suc n) → count card_at (evenly s) ≡ n + cond b (count card_at (drop (suc i) (evenly s))) (suc (count card_at (drop (suc i) (evenly s))))
            → (m ≤ i + 1) × (count card_at (evenly s) ≡ m + count card_at (drop (i + 1) (evenly s)))
        go true a q = (omega (arith, k.0), rw (add-one i) (omega arith))
        go false a q = (omega (arith, k.0), rw (add-one i) (omega arith))

    pub count_end : 64 ≤ i → n ≡ count card_at (evenly s)
    unfolding Counted count
    count_end h =
        let e : count card_at (evenly s) ≡ n + 0 = rw (drop_of_length-le (evenly s) {i = i} (omega (arith, even_length s))) at k.1 in
        omega arith

-- ---- what each loop needs

pub ruleset held_turns = (held_start, held_stop, held_next, held_end)

pub ruleset free_turns = (free_start, free_stop, free_next, free_end)

pub ruleset fit_turns = (fit_start, fit_stop, fit_next, fit_end)

pub ruleset count_turns = (count_start, count_room, count_next, count_end)
