-- Which place has a card, which may be taken, and when a filing finds no place or takes another card's.
-- Has, Free, Full, PlaceTaken.
-- `place_in s i` is place i of a buffer, `takes` the place that a filing goes to (Cache). Assumes nothing.
use Rattle.std.specs.Prelude.{ℕ, ◌<◌, ◌⊎◌, ◌≡◌, true, List, []}
use Rattle.freshness.specs.declared.Clock.{Clock}
use Rattle.answer.specs.declared.Card.{Card}
use Rattle.slip.specs.Slip.{card_octets}
use Rattle.cache_rules.specs.Place.{places, card_at, is_stale}
use Rattle.cache_rules.specs.Cache.{place_in, takes, buffer_of}

-- a place of a buffer has a card: the 61 octets after its kind are the card's
abbrev pub Has : List ℕ → ℕ → Card → Type 0
Has s i card = (i < places) × (card_at (place_in s i) ≡ card_octets card)

-- a place is empty or stale
abbrev pub Free : Clock → List ℕ → ℕ → Type 0
Free clock s j = (card_at (place_in s j) ≡ []) ⊎ (is_stale clock (place_in s j) ≡ true)

-- no place has the card, and none is empty or stale
abbrev pub Full : Clock → List ℕ → Card → Type 0
Full clock s card = ((j : ℕ) → Has s j card → ⊥) × ((j : ℕ) → j < places → Free clock s j → ⊥)

-- a card's place was stale at the filing's time and is the one taken; no place has the card then
pub record PlaceTaken (clock : Clock) (s t : List ℕ) (card : Card) : Type 0 where
  pub has : Has s (takes clock s t) card
  pub stale : is_stale clock (place_in s (takes clock s t)) ≡ true
  pub gone : (i : ℕ) → Has (buffer_of clock s t) i card → ⊥
