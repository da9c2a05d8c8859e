-- Laws of what is found of a card's octets: a place is one of the 64 and its slip ends inside the buffer, and a refusal has a
-- number that no other answer has.
-- HeldHere, find_held, find_inside, find_places, find_wide, find_room, find_here; find_number, find_short.
-- The definition is in Found of crate cache_ask. What is told of it is in ToldLaws, what C is told in CachesLaws.
-- Assumes nothing.
use Rattle.std.specs.Prelude.{ℕ, ◌+◌, ◌*◌, ◌≤◌, ◌<◌, Bool, get_or, Some, Ok, Err}
use Rattle.std.proofs.Math.Nat.{min-le_right}
use Rattle.std.proofs.Common.{arith, ◌∙◌}
use Rattle.std.proofs.Math.Path.{◌≡◌, refl, ap}
use Rattle.std.proofs.Math.Bool.{true, false, cond}
use mathlib.Core.List.{List, []}
use Rattle.std.proofs.Math.Dec.{eqb, leb}
use Rattle.std.proofs.Math.ListN.{length, length-take}
use borrow.Author.Tests.{leb-false, eqb-false, ne_eqb}
use Rattle.freshness.specs.declared.Clock.{Clock}
use Rattle.freshness.specs.declared.Missed.TheVariants.{Endless, Reversed, Early, Late}
use Rattle.freshness.specs.Clock.{clock_ok}
use Rattle.freshness.specs.Fresh.{Freshness, fresh_of, fresh_refusal}
use Rattle.cache_room.specs.Room.{held_at}
use Rattle.cache_room.proofs.PartsLaws.{parts_wide, wide_at}
use Rattle.cache_rules.specs.Place.{width, places, slip_size, kind_at, slip_in, card_at, says_at}
use Rattle.cache_rules.specs.Cache.{room_of, place_in, is_cache, told}
use Rattle.cache_rules.proofs.CacheLaws.{cache_exactly, room_length}
use Rattle.cache_place.specs.Times.{this_at, next_at}
use Rattle.cache_places.specs.Evenly.{evenly}
use Rattle.cache_places.specs.EvenlyLaws.{even_room}
use Rattle.cache_ask.specs.declared.Sought.TheVariants.{At, NotHeld, Refused}
use Rattle.cache_ask.specs.Found.{card_in_range, misses_at, found_in, ask_found, told_in}
use Rattle.desk_c.specs.Caches.{Placed}

-- a place that is found: the buffer is a cache, time, tolerance and card are in range, and the card is held there
pub record HeldHere (k : Clock) (c s : List ℕ) (i : ℕ) : Type 0 where
  pub cache : is_cache s ≡ true
  pub clock : clock_ok k ≡ true
  pub card : card_in_range c ≡ true
  pub held : held_at card_at c (evenly s) ≡ i
  pub inside : i < places

missed_range : (f : Freshness) → fresh_refusal f < 256
missed_range (Ok x) = omega arith
missed_range (Err Endless) = omega arith
missed_range (Err (Reversed n)) = omega arith
missed_range (Err (Early n)) = omega arith
missed_range (Err (Late n)) = omega arith

module _ (clock : Clock) (c s : List ℕ) where
  -- ── a place ──

  in_held : (i j : ℕ) → found_in clock s i ≡ At j → (i ≡ j) × (i < places)
  unfolding found_in
  in_held i j = go (leb 64 i) refl (eqb (misses_at clock (get_or (evenly s) i [])) 0)
    where
      go : (a : Bool) → leb 64 i ≡ a → (b : Bool)
          → cond a NotHeld (cond b (At i) (Refused (misses_at clock (get_or (evenly s) i [])))) ≡ At j → (i ≡ j) × (i < places)
      go true q b e = let z : ◌≡◌ {A = ℕ} 0 1 = cc e in absurd (omega arith)
      go false q true e = (cc e, leb-false 64 i q)
      go false q false e = let z : ◌≡◌ {A = ℕ} 0 1 = cc e in absurd (omega arith)

  pub find_held : (i : ℕ) → ask_found clock c s ≡ At i → HeldHere clock c s i
  unfolding ask_found
  find_held i = go (is_cache s) (clock_ok clock) (card_in_range c) refl refl refl
    where
      go : (x y z : Bool) → is_cache s ≡ x → clock_ok clock ≡ y → card_in_range c ≡ z
          → cond x (cond y (cond z (found_in clock s (held_at card_at c (evenly s))) (Refused 1)) (Refused 1)) (Refused 19) ≡ At i
          → HeldHere clock c s i
      go true true true p q r e =
          let h = in_held (held_at card_at c (evenly s)) i e in
          record { cache = p; clock = q; card = r; held = h.0; inside = omega (arith, h.0, h.1) }
      go true true false p q r e = let z : ◌≡◌ {A = ℕ} 0 1 = cc e in absurd (omega arith)
      go true false z p q r e = let z : ◌≡◌ {A = ℕ} 0 1 = cc e in absurd (omega arith)
      go false y z p q r e = let z : ◌≡◌ {A = ℕ} 0 1 = cc e in absurd (omega arith)

  -- it is one of the 64
  pub find_inside : Placed (ask_found clock c s)
  find_inside i e = (find_held i e).inside

  module _ (i : ℕ) (e : ask_found clock c s ≡ At i) where
    abbrev here : HeldHere clock c s i
    here = find_held i e

    long : length s ≡ width * places
    long = ((cache_exactly s).0 here.cache).0

    -- the places are those of a cache, of 87 octets each
    pub find_places : evenly s ≡ room_of s
    find_places = even_room s long

    pub find_wide : length (place_in s i) ≡ width
    unfolding room_of
    find_wide = wide_at width (room_of s) [] i (parts_wide width places s long) (omega (arith, here.inside, room_length s))

    -- its slip ends inside the buffer
    pub find_room : 87 * i + length (slip_in (get_or (evenly s) i [])) ≤ length s
    unfolding slip_in
    find_room =
        rw find_places
        (let m : length (slip_in (place_in s i)) ≤ width =
        omega (arith, length-take (slip_size (kind_at (place_in s i))) (place_in s i), min-le_right (slip_size (kind_at (place_in s i))) (length (place_in s i)), find_wide) in
        omega (arith, m, long, here.inside))

    -- what is told is what it says
    pub find_here : told_in s (At i) ≡ told (says_at (place_in s i))
    unfolding told_in
    find_here = ap (λ (x : List (List ℕ)). told (says_at (get_or x i []))) find_places

  -- ── a refusal ──

  misses_range : (p : List ℕ) → misses_at clock p < 256
  unfolding misses_at
  misses_range p = missed_range (fresh_of (this_at p) (Some (next_at p)) clock.now clock.tolerance)

  in_number : (i n : ℕ) → found_in clock s i ≡ Refused n → (n ≡ 0 → ⊥) × (n < 256)
  unfolding found_in
  in_number i n = go (leb 64 i) (eqb (misses_at clock (get_or (evenly s) i [])) 0) refl
    where
      go : (a b : Bool) → eqb (misses_at clock (get_or (evenly s) i [])) 0 ≡ b
          → cond a NotHeld (cond b (At i) (Refused (misses_at clock (get_or (evenly s) i [])))) ≡ Refused n → (n ≡ 0 → ⊥) × (n < 256)
      go true b q e = let z : ◌≡◌ {A = ℕ} 0 1 = cc e in absurd (omega arith)
      go false true q e = let z : ◌≡◌ {A = ℕ} 0 1 = cc e in absurd (omega arith)
      go false false q e =
          let m : misses_at clock (get_or (evenly s) i []) ≡ n = cc e in
          (λ z. eqb-false (misses_at clock (get_or (evenly s) i [])) 0 q (m ∙ z), omega (arith, m, misses_range (get_or (evenly s) i [])))

  -- its number is neither 0 nor 256
  pub find_number : (n : ℕ) → ask_found clock c s ≡ Refused n → (n ≡ 0 → ⊥) × (n < 256)
  unfolding ask_found
  find_number n = go (is_cache s) (clock_ok clock) (card_in_range c)
    where
      small : (m : ℕ) → (m ≡ 0 → ⊥) → m < 256 → Refused m ≡ Refused n → (n ≡ 0 → ⊥) × (n < 256)
      small m a b e = let q : m ≡ n = cc e in (λ z. a (q ∙ z), omega (arith, q))

      go : (x y z : Bool)
          → cond x (cond y (cond z (found_in clock s (held_at card_at c (evenly s))) (Refused 1)) (Refused 1)) (Refused 19) ≡ Refused n
          → (n ≡ 0 → ⊥) × (n < 256)
      go true true true e = in_number (held_at card_at c (evenly s)) n e
      go true true false e = small 1 (λ z. omega arith) (omega arith) e
      go true false z e = small 1 (λ z. omega arith) (omega arith) e
      go false y z e = small 19 (λ z. omega arith) (omega arith) e

  -- octets of another number are no card
  pub find_short : (length c ≡ 61 → ⊥) → ask_found clock c s ≡ cond (is_cache s) (Refused 1) (Refused 19)
  unfolding ask_found card_in_range
  find_short h = rw (ne_eqb (length c) 61 h) (go (is_cache s) (clock_ok clock))
    where
      go : (x y : Bool) → cond x (cond y (Refused 1) (Refused 1)) (Refused 19) ≡ cond x (Refused 1) (Refused 19)
      go true true = refl
      go true false = refl
      go false y = refl
