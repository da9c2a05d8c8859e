-- What the code knows at each return, and what follows there.
-- place_none, place_start, place_end, place_inside, place_there; no_octets, some_octets; free_empty, free_late; more_empty, more_filled; mark_is;
-- held_whole; room_length, room_broken, room_fit; place_cases, room_cases.
-- Assumes nothing.
use Prim.Native.Nat.{ℕ, suc, ◌+◌, ◌-◌, ◌*◌, ◌/◌, ◌%◌, ◌^◌, ◌≤◌, ◌<◌}
use native.Mathlib.Nat.{mul-le-mul_left, mul-suc}
use native.Mathlib.Numerals.{add-one}
use native.Mathlib.Omega.{arith}
use mathlib.Core.Path.{◌≡◌, refl, sym, ap, ◌∙◌}
use mathlib.Core.Bool.{Bool, true, false, cond, not}
use mathlib.Core.List.{List, [], ◌∷◌}
use lib.Bits.{bit_xor}
use lib.ListN.{length, get_or, take, drop, get_or-eq_default}
use lib.Seq.{take_all}
use borrow.Author.Tests.{eq-eqb, ne_eqb, not-true, not-false}
use mir.Val.{Fits}
use mir.Syntax.{w64}
use Rattle.octets.specs.Same.{same_of}
use Rattle.freshness.specs.declared.Clock.{Clock}
use Rattle.fields.specs.Field.{value_at}
use Rattle.cache_room.specs.Room.{is_empty, held_at, is_free, cards_once}
use Rattle.cache_rules.specs.Place.{card_at}
use Rattle.cache_rules.specs.Cache.{all_fit, is_cache}
use Rattle.cache_place.specs.Times.{late_at}
use Rattle.cache_places.specs.Evenly.{evenly}
use Rattle.cache_places.specs.EvenlyLaws.{even_length, even_at, even_room}
use Rattle.cache_places.specs.Marks.{mark_of}

-- ---- a place

module _ (s : List ℕ) (i : ℕ) where
  pub place_none : 64 ≤ i → take 0 s ≡ get_or (evenly s) i []
  place_none h = sym (get_or-eq_default (evenly s) [] (omega (arith, even_length s)))

  module _ (h : i < 64) where
    -- 64 widths at most
    pub place_inside : length s / 64 * i + length s / 64 ≤ length s
    place_inside =
        let m : length s / 64 * suc i ≤ length s / 64 * 64 = mul-le-mul_left (length s / 64) h in
        omega (arith, mul-suc (length s / 64) i)

    pub place_start : length s < 2 ^ 64 → Fits w64 (length s / 64 * i)
    place_start l = omega (arith, place_inside)

    pub place_end : length s < 2 ^ 64 → Fits w64 (length s / 64 * i + length s / 64)
    place_end l = omega (arith, place_inside)

    pub place_there : take (length s / 64 * i + length s / 64 - length s / 64 * i) (drop (length s / 64 * i) s) ≡ get_or (evenly s) i []
    place_there =
        let e : length s / 64 * i + length s / 64 - length s / 64 * i ≡ length s / 64 = omega arith in
        rw e (sym (even_at s i h))

-- ---- a place that may be taken, and one that is filled

pub no_octets : (c : List ℕ) → length c ≡ 0 → same_of c [] ≡ true
unfolding same_of
no_octets [] h = refl
no_octets (x ∷ c) h = absurd (omega arith)

pub some_octets : (c : List ℕ) → (length c ≡ 0 → ⊥) → same_of c [] ≡ false
unfolding same_of
some_octets [] h = absurd (h refl)
some_octets (x ∷ c) h = refl

module _ (x own : List ℕ) (e : own ≡ card_at x) where
  pub free_empty : (clock : Clock) → length own ≡ 0 → true ≡ is_free card_at (late_at clock) x
  free_empty clock h = sym (rw (← e, no_octets own h))

  pub free_late : (clock : Clock) → (length own ≡ 0 → ⊥) → (b : Bool) → b ≡ late_at clock x → b ≡ is_free card_at (late_at clock) x
  free_late clock h b g = sym (rw (← e, some_octets own h) (sym g))

  pub more_empty : (n : ℕ) → length own ≡ 0 → n ≡ cond (is_empty card_at x) n (suc n)
  more_empty n h = sym (rw (← e, no_octets own h))

  pub more_filled : (n : ℕ) → (length own ≡ 0 → ⊥) → n + 1 ≡ cond (is_empty card_at x) n (suc n)
  more_filled n h = sym (rw (← e, some_octets own h) (sym (add-one n)))

-- ---- the mark of a card

pub mark_is : (c : List ℕ) (first second last issuer : ℕ) → first ≡ value_at c 41 8 → second ≡ value_at c 49 8 → last ≡ value_at c 57 4 → issuer ≡ value_at c 0 8
    → bit_xor (bit_xor (bit_xor first second) last) issuer % 1021 ≡ mark_of c
unfolding mark_of
mark_is c first second last issuer a b e f = rw (a, b, e, f)

-- ---- the whole buffer

pub held_whole : (s c : List ℕ) (r : ℕ) → r ≡ held_at card_at c (take 64 (evenly s)) → r ≡ held_at card_at c (evenly s)
held_whole s c r e = e ∙ ap (held_at card_at c) (take_all 64 (evenly s) (omega (arith, even_length s)))

module _ (s : List ℕ) where
  pub room_length : (length s ≡ 5568 → ⊥) → false ≡ is_cache s
  unfolding is_cache
  room_length h = sym (rw (ne_eqb (length s) 5568 h))

  module _ (h : length s ≡ 5568) (b : Bool) (e : b ≡ all_fit (evenly s)) where
    pub room_broken : not b ≡ true → false ≡ is_cache s
    unfolding is_cache
    room_broken t = sym (rw (eq-eqb (length s) 5568 h, ← even_room s h, ← e, not-true b t))

    pub room_fit : not b ≡ false → (r : Bool) → r ≡ cards_once card_at (evenly s) → r ≡ is_cache s
    unfolding is_cache
    room_fit t r g = sym (rw (eq-eqb (length s) 5568 h, ← even_room s h, ← e, not-false b t) (sym g))

-- ---- what a place and the whole buffer need

pub ruleset place_cases = (place_none, place_inside, place_start, place_end, place_there)

pub ruleset room_cases = (room_length, room_broken, room_fit)
