-- What the code knows at each return of the functions that look into a place, and what follows there.
-- card_none, card_empty, card_short, card_whole; this_is, next_is, late_not, late_by; slip_none, slip_short, slip_counted,
-- slip_whole. A place that fits is in PlaceCases, a slip that may be filed in SlipCases.
-- Assumes nothing.
use Prim.Native.Nat.{ℕ, ◌+◌, ◌-◌, ◌≤◌, ◌<◌}
use native.Mathlib.Omega.{arith}
use mathlib.Core.Path.{◌≡◌, refl, sym, ap, ◌∙◌}
use mathlib.Core.Bool.{Bool, true, false, not}
use mathlib.Core.List.{List, [], ◌∷◌}
use lib.Dec.{ltb}
use lib.ListN.{length, get_or, take, drop, length-drop}
use lib.Seq.{length-take-le, take_all}
use borrow.Author.Tests.{lt-ltb, le-ltb, ltb-true, ltb-false, not-true, not-false}
use Rattle.freshness.specs.declared.Clock.{Clock}
use Rattle.fields.specs.Field.{value_at}
use Rattle.slip.specs.Table.{row_in, row_of, size_of}
use Rattle.cache_rules.specs.Place.{slip_size, kind_at, slip_in, card_at}
use Rattle.cache_place.specs.Times.{this_at, next_at, late_at}

-- ---- the card

module _ (p : List ℕ) where
  pub card_none : length p ≡ 0 → p ≡ card_at p
  unfolding card_at row_of row_in
  card_none h = go p h
    where
      go : (p : List ℕ) → length p ≡ 0 → p ≡ card_at p
      go [] h = refl
      go (x ∷ p) h = absurd (omega arith)

  module _ (b : Bool) (q : b ≡ (row_of (get_or p 0 0)).carded) where
    -- a kind without a card
    pub card_empty : not b ≡ true → take 0 p ≡ card_at p
    unfolding card_at
    card_empty h = rw (← q, not-true b h)

    -- a place that ends in the card, and one that does not
    pub card_short : not b ≡ false → length p < 62 → take (length p - 1) (drop 1 p) ≡ card_at p
    unfolding card_at
    card_short h l = rw (← q, not-false b h) (take_all (length p - 1) (drop 1 p) (omega (arith, length-drop 1 p)) ∙ sym (take_all 61 (drop 1 p) (omega (arith, length-drop 1 p))))

    pub card_whole : not b ≡ false → take (62 - 1) (drop 1 p) ≡ card_at p
    unfolding card_at
    card_whole h = rw (← q, not-false b h)

-- ---- its times

-- a bound taken to the other side
moved : (t n x : ℕ) → x < n → ltb t (n - x) ≡ ltb (x + t) n
moved t n x h = go (ltb t (n - x)) refl
  where
    go : (b : Bool) → ltb t (n - x) ≡ b → ltb t (n - x) ≡ ltb (x + t) n
    go true e = let l = ltb-true t (n - x) e in e ∙ sym (lt-ltb (x + t) n (omega arith))
    go false e = let l = ltb-false t (n - x) e in e ∙ sym (le-ltb (x + t) n (omega arith))

module _ (p : List ℕ) (n : ℕ) where
  pub this_is : n ≡ value_at p 62 8 → n ≡ this_at p
  unfolding this_at
  this_is e = e

  pub next_is : n ≡ value_at p 70 8 → n ≡ next_at p
  unfolding next_at
  next_is e = e

module _ (clock : Clock) (p : List ℕ) (next : ℕ) (q : next ≡ next_at p) where
  pub late_not : clock.now ≤ next → false ≡ late_at clock p
  unfolding late_at
  late_not h = sym (rw (← q) (le-ltb (next + clock.tolerance) clock.now (omega arith)))

  pub late_by : next < clock.now → ltb clock.tolerance (clock.now - next) ≡ late_at clock p
  unfolding late_at
  late_by h = rw (← q) (moved clock.tolerance clock.now next h)

-- ---- the slip

module _ (p : List ℕ) where
  pub slip_none : length p ≡ 0 → p ≡ slip_in p
  unfolding slip_in
  slip_none h = sym (take_all (slip_size (kind_at p)) p (omega arith))

  module _ (size : ℕ) (q : size ≡ size_of 20 (get_or p 0 0)) where
    pub slip_short : length p < size → p ≡ slip_in p
    unfolding slip_in
    slip_short h = rw (← q) (sym (take_all size p (omega arith)))

    pub slip_counted : size ≤ length p → size ≡ length (take size p)
    slip_counted h = sym (length-take-le size p h)

    pub slip_whole : take size p ≡ slip_in p
    unfolding slip_in
    slip_whole = ap (λ (n : ℕ). take n p) q

-- ---- what each function needs

pub ruleset card_cases = (card_none, card_empty, card_short, card_whole)

pub ruleset slip_cases = (slip_none, slip_short, slip_counted, slip_whole)
