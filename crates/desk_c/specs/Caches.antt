-- What the C functions on the room's cache answer: a filing's number and count are in Numbers of crate cache_rules; of an ask a
-- number, and where a slip is.
-- clock_at; Placed, found_number, slip_span, found_span.
-- Of a card that is refused or not held the part is empty: it starts at 0 and has no octets. That the number is that of what asking
-- gives, and that the octets there are its slip, is in CachesLaws.
-- Assumes nothing.
use Rattle.std.specs.Prelude.{ℕ, ◌*◌, ◌<◌, ◌≡◌, List, [], length, get_or}
use Rattle.freshness.specs.declared.Clock.{Clock}
use Rattle.element.specs.declared.Span.{Span}
use Rattle.show.specs.Parts.{empty_span}
use Rattle.cache_rules.specs.Place.{slip_in}
use Rattle.cache_places.specs.Evenly.{evenly}
use Rattle.cache_ask.specs.declared.Sought.{Sought}
use Rattle.cache_ask.specs.declared.Sought.TheVariants.{At, NotHeld, Refused}

-- a time and a tolerance
abbrev pub clock_at : ℕ → ℕ → Clock
clock_at time tolerance = record { now = time; tolerance = tolerance }

-- a place that is found is one of the 64
abbrev pub Placed : Sought → Type 0
Placed found = (i : ℕ) → found ≡ At i → i < 64

-- the number of what is found of a card: 0 a slip that counts, 256 not held, or a refusal's
unfoldable pub found_number : Sought → ℕ
found_number (At i) = 0
found_number NotHeld = 256
found_number (Refused number) = number

-- where the slip of place i is
unfoldable pub slip_span : List ℕ → ℕ → Span
slip_span s i = record { start = 87 * i; len = length (slip_in (get_or (evenly s) i [])) }

-- where the slip that is found is
unfoldable pub found_span : List ℕ → Sought → Span
found_span s (At i) = slip_span s i
found_span s NotHeld = empty_span
found_span s (Refused number) = empty_span
