-- The room's cache (document 02, C-11): what a cache is, in full, test by test.
-- cache_in_full, place_stands, place_in_full, slip_in_full, empty_in_full, new_cache_lem; card_in_full, has_in_full;
-- clock_in_full, card_range_in_full.
-- `is_cache`, `place_in s i`, place i of a buffer, `card_at` and `says_at`, the card of a place and what its slip says,
-- are in cache_rules: Cache, Place; `Has s i card`, that place i has a card, in cache_rules: Has. `Octets` (each
-- below 256) and `Whole` (hashes and the serial's field of twenty octets) hold of every buffer, slip and card in code.
-- Assumes nothing.
use Rattle.std.specs.Prelude.{ℕ, ◌-◌, ◌*◌, ◌≤◌, ◌<◌, ◌⊎◌, ◌↔◌, ◌≡◌, refl, true, List, [], ◌++◌, length, take, drop, replicate}
use Rattle.std.proofs.Common.{⊎_elim}
use Rattle.octets.specs.Octets.{Octets}
use Rattle.content.specs.Serial.{serial_ok}
use Rattle.answer.specs.declared.Card.{Card}
use Rattle.answer.specs.declared.Answer.{Answer}
use Rattle.answer.specs.Card.{all_zero, card_ok}
use Rattle.answer.specs.CardLaws.{field_exactly}
use Rattle.answer.specs.Verdict.{kind_of}
use Rattle.slip.specs.Table.{row_in, row_of}
use Rattle.slip.specs.Slip.{slip_of, slip_ok}
use Rattle.freshness.specs.Clock.{clock_ok}
use Rattle.freshness.specs.ClockLaws.{clock_exactly}
use Rattle.freshness.specs.declared.Clock.{Clock}
use Rattle.cache_rules.specs.Place.{kind_at, card_at, says_at, is_said, place_ok, place_of, says_of, WholeCard}
use Rattle.cache_rules.specs.Cache.{place_in, is_cache}
use Rattle.cache_rules.specs.Has.{Has}
use Rattle.cache_rules.proofs.FitLaws.{slip_exactly, place_exactly, empty_exactly}
use Rattle.cache_rules.proofs.CacheLaws.{place_at, place_octets, place_fit, cache_places}
use Rattle.cache_rules.proofs.AskTheorem.{has_exactly}
use Rattle.cache_rules.specs.Examples.{cache_computes}

-- a buffer is a cache exactly if it has 5,568 octets, each of its 64 places fits, and two places with one card are one
-- place; empty places have no card
pub cache_in_full : (s : List ℕ) → is_cache s ≡ true
    ↔ (length s ≡ 5568)
    × ((i : ℕ) → i < 64 → place_ok (place_in s i) ≡ true)
    × ((i j : ℕ) → i < 64 → j < 64 → card_at (place_in s i) ≡ card_at (place_in s j) → (card_at (place_in s i) ≡ [] → ⊥) → i ≡ j)
cache_in_full = cache_places

-- place i is the 87 octets from 87 times i
pub place_stands : (s : List ℕ) (i : ℕ) → i < 64 → place_in s i ≡ take 87 (drop (87 * i) s)
place_stands = place_at

-- a place of 87 octets fits exactly if it is all zeros, or a slip that may be filed and then zeros
pub place_in_full : (p : List ℕ) → Octets p → length p ≡ 87
    → place_ok p ≡ true
    ↔ (all_zero p ≡ true) ⊎ ((t : List ℕ) × Octets t × (is_said (says_of t) ≡ true) × (p ≡ t ++ replicate (87 - length t) 0))
unfolding place_of
place_in_full p o l = place_exactly p o l

-- octets are a slip that may be filed exactly if they are that of an answer of kind 01, 02 or 03 that keeps the slip
-- rules
pub slip_in_full : (t : List ℕ) → Octets t
    → is_said (says_of t) ≡ true ↔ (a : Answer) × (kind_of a.verdict < 4) × (slip_ok a ≡ true) × WholeCard a.card × (slip_of a ≡ t)
slip_in_full = slip_exactly

-- a place of a cache has no card exactly if it is all zeros
pub empty_in_full : (s : List ℕ) (i : ℕ) → i < 64 → Octets s → is_cache s ≡ true → card_at (place_in s i) ≡ [] ↔ all_zero (place_in s i) ≡ true
empty_in_full s i b o c = empty_exactly (place_in s i) (place_octets s i b o) (place_fit s i b c)

-- a new cache is zeros
pub new_cache_lem : is_cache (replicate 5568 0) ≡ true
unfolding cache_computes
new_cache_lem = refl

-- ── a card ──

-- the card of a slip in a place is the 61 octets after its kind
pub card_in_full : (p : List ℕ) → (kind_at p ≡ 1) ⊎ (kind_at p ≡ 2) ⊎ (kind_at p ≡ 3) → card_at p ≡ take 61 (drop 1 p)
unfolding card_at row_of row_in
card_in_full p h = ⊎_elim (λ e. rw e) (⊎_elim (λ e. rw e) (λ e. rw e)) h

-- a place of a cache has a card in range exactly if its slip says something about that card, in every octet
pub has_in_full : (s : List ℕ) (i : ℕ) (card : Card) → Octets s → is_cache s ≡ true → WholeCard card → card_ok card ≡ true
    → Has s i card ↔ (i < 64) × (is_said (says_at (place_in s i)) ≡ true) × ((says_at (place_in s i)).card ≡ card)
has_in_full = has_exactly

-- ── document 01's ranges (refusal 1) ──

-- a time is at most 253,402,300,799 and a tolerance at most 3,600
pub clock_in_full : (clock : Clock) → clock_ok clock ≡ true ↔ (clock.now ≤ 253402300799) × (clock.tolerance ≤ 3600)
clock_in_full = clock_exactly

-- a card's serial has at most 20 octets and keeps the serial rule, and its fill is zeros
pub card_range_in_full : (card : Card)
    → card_ok card ≡ true
    ↔ (card.size ≤ 20) × (serial_ok (take card.size card.serial) ≡ true) × (all_zero (drop card.size card.serial) ≡ true)
card_range_in_full card = field_exactly card.size card.serial
