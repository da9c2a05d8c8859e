-- What is found of a card in the cache (document 02, C-11), over the card's octets.
-- card_in_range, card_or_zeros; misses_at, found_in, ask_found; told_in.
-- That what is told of it is what asking gives is in FoundLaws. Assumes nothing.
use Rattle.std.specs.Prelude.{ℕ, Bool, false, cond, List, [], eqb, leb, length, get_or, replicate, Some}
use Rattle.freshness.specs.declared.Clock.{Clock}
use Rattle.freshness.specs.Clock.{clock_ok}
use Rattle.freshness.specs.Fresh.{fresh_of, fresh_refusal}
use Rattle.answer.specs.declared.Card.{Card}
use Rattle.answer.specs.Card.{card_ok}
use Rattle.answer.specs.Verdict.{refused}
use Rattle.fields.specs.Field.{card_in}
use Rattle.slip.specs.Slip.{card_octets}
use Rattle.cache_room.specs.Room.{held_at}
use Rattle.cache_rules.specs.declared.Told.{Told}
use Rattle.cache_rules.specs.Place.{card_at, says_at}
use Rattle.cache_rules.specs.Cache.{is_cache, told, not_held}
use Rattle.cache_place.specs.Times.{this_at, next_at}
use Rattle.cache_places.specs.Evenly.{evenly}
use Rattle.cache_ask.specs.declared.Sought.{Sought}
use Rattle.cache_ask.specs.declared.Sought.TheVariants.{At, NotHeld, Refused}

-- octets are a card in range: 61 of them, and the serial keeps the serial rule
unfoldable pub card_in_range : List ℕ → Bool
card_in_range c = cond (eqb (length c) 61) (card_ok (card_in 20 c)) false

-- the octets of a card in range; zeros, which are none, for another
unfoldable pub card_or_zeros : Card → List ℕ
card_or_zeros card = cond (card_ok card) (card_octets card) (replicate 61 0)

-- the number of the rule that the times in a place miss, or 0
unfoldable pub misses_at : Clock → List ℕ → ℕ
misses_at clock p = fresh_refusal (fresh_of (this_at p) (Some (next_at p)) clock.now clock.tolerance)

module _ (clock : Clock) where
  -- what is found in place i
  unfoldable pub found_in : List ℕ → ℕ → Sought
  found_in s i =
      cond (leb 64 i) NotHeld
      (cond (eqb (misses_at clock (get_or (evenly s) i [])) 0) (At i) (Refused (misses_at clock (get_or (evenly s) i []))))

  -- 19, 1, not held, 15, 16, or the place
  unfoldable pub ask_found : List ℕ → List ℕ → Sought
  ask_found c s =
      cond (is_cache s)
      (cond (clock_ok clock)
      (cond (card_in_range c)
      (found_in s (held_at card_at c (evenly s)))
      (Refused 1))
      (Refused 1))
      (Refused 19)

-- what is told of it
unfoldable pub told_in : List ℕ → Sought → Told
told_in s (At i) = told (says_at (get_or (evenly s) i []))
told_in s NotHeld = not_held
told_in s (Refused n) = told (refused n 0)
