-- The cache by computing: filed into an empty one, a tie, a stale place taken, and each answer and refusal.
-- cache_computes; card, clock, good, empty, two, one, fill.
-- The laws stand here, and what is made of them; the definitions in specs/Examples.
-- Assumes nothing.
use Rattle.std.specs.Prelude.{ℕ, zero, suc, ◌≡◌, refl, true, false, replicate, Ok, Err}
use mathlib.Core.List.{List, [], ◌∷◌, ◌++◌}
use Rattle.answer.specs.declared.Card.{Card}
use Rattle.answer.specs.declared.Verdict.TheVariants.{Good}
use Rattle.answer.specs.Verdict.{saying, refused}
use Rattle.slip.specs.Slip.{slip_of}
use Rattle.freshness.specs.declared.Clock.{Clock}
use Rattle.cache_rules.specs.declared.Unfiled.TheVariants as unfiled
use Rattle.cache_rules.specs.Cache.{is_cache, filed_of, buffer_of, told, not_held, ask_of}
use Rattle.cache_rules.specs.Numbers.{filed_number}
use Rattle.cache_rules.specs.Examples.{cache_computes}

-- a card with hashes all of one octet and all 22, serial 05
abbrev card : ℕ → Card
card n = record { name = replicate 20 n; key = replicate 20 0x22; serial = 5 ∷ replicate 19 0; size = 1 }

abbrev clock : ℕ → ℕ → Clock
clock now tolerance = record { now = now; tolerance = tolerance }

-- the slip of a good card, from one time to another
abbrev good : ℕ → ℕ → ℕ → List ℕ
good n this next = slip_of (saying (Good this next) (card n))

-- 64 empty places; two places, each with one slip, and 62 empty ones
abbrev empty : List ℕ
empty = replicate 5568 0

abbrev two : List ℕ → List ℕ → List ℕ
two a b = a ++ replicate 9 0 ++ b ++ replicate 9 0 ++ replicate 5394 0

-- good from 100 to 200
abbrev one : List ℕ
one = two (good 0x11 100 200) (replicate 78 0)

empty_fits : is_cache empty ≡ true
unfolding cache_computes
empty_fits = refl

-- ---- filing

-- into the empty cache: the first place, and one is then not empty
filed_first : filed_of (clock 150 0) empty (good 0x11 100 200) ≡ Ok 1
unfolding cache_computes
filed_first = refl

left_first : buffer_of (clock 150 0) empty (good 0x11 100 200) ≡ one
unfolding cache_computes
left_first = refl

-- a tie in thisUpdate puts the new slip; an earlier one leaves what is held
tied : buffer_of (clock 150 0) one (good 0x11 100 300) ≡ two (good 0x11 100 300) (replicate 78 0)
unfolding cache_computes
tied = refl

earlier : buffer_of (clock 150 0) one (good 0x11 99 300) ≡ one
unfolding cache_computes
earlier = refl

earlier_counts : filed_of (clock 150 0) one (good 0x11 99 300) ≡ Ok 1
unfolding cache_computes
earlier_counts = refl

-- another card: the next place at 200, and the stale one, before the empty ones, at 201; at 201 with tolerance 1 again
-- the next
beside : buffer_of (clock 200 0) one (good 0x33 100 300) ≡ two (good 0x11 100 200) (good 0x33 100 300)
unfolding cache_computes
beside = refl

stale_taken : buffer_of (clock 201 0) one (good 0x33 100 300) ≡ two (good 0x33 100 300) (replicate 78 0)
unfolding cache_computes
stale_taken = refl

tolerated : buffer_of (clock 201 1) one (good 0x33 100 300) ≡ two (good 0x11 100 200) (good 0x33 100 300)
unfolding cache_computes
tolerated = refl

-- the refusals in their order: a short buffer and a bad clock and slip; a bad clock and slip; a refusal's slip
short : (filed_of (clock 0 3601) (replicate 5567 0) [] ≡ Err unfiled.NoCache) × (filed_number (filed_of (clock 0 3601) (replicate 5567 0) []) ≡ 19)
unfolding cache_computes
short = (refl, refl)

bad_clock : (filed_of (clock 0 3601) empty [] ≡ Err unfiled.Clock) × (filed_number (filed_of (clock 0 3601) empty []) ≡ 1)
unfolding cache_computes
bad_clock = (refl, refl)

refusal : (filed_of (clock 0 0) empty (4 ∷ 4 ∷ 6 ∷ []) ≡ Err unfiled.Slip) × (filed_number (filed_of (clock 0 0) empty (4 ∷ 4 ∷ 6 ∷ [])) ≡ 17)
unfolding cache_computes
refusal = (refl, refl)

-- ---- no cache: a card twice, kind 04, an octet behind a slip

card_twice : is_cache (two (good 0x11 100 200) (good 0x11 101 200)) ≡ false
unfolding cache_computes
card_twice = refl

other_kind : is_cache ((4 ∷ 4 ∷ 6 ∷ []) ++ replicate 5565 0) ≡ false
unfolding cache_computes
other_kind = refl

behind : is_cache (good 0x11 100 200 ++ replicate 8 0 ++ (1 ∷ []) ++ replicate 5481 0) ≡ false
unfolding cache_computes
behind = refl

-- ---- asking

told_good : ask_of (clock 200 0) (card 0x11) one ≡ told (saying (Good 100 200) (card 0x11))
unfolding cache_computes
told_good = refl

told_early : ask_of (clock 99 3600) (card 0x11) one ≡ told (refused 15 0)
unfolding cache_computes
told_early = refl

told_late : ask_of (clock 201 0) (card 0x11) one ≡ told (refused 16 0)
unfolding cache_computes
told_late = refl

-- the same serial and key hash under another Name
told_none : ask_of (clock 200 0) (card 0x33) one ≡ not_held
unfolding cache_computes
told_none = refl

told_twice : ask_of (clock 200 3601) (card 0x11) (two (good 0x11 100 200) (good 0x11 101 200)) ≡ told (refused 19 0)
unfolding cache_computes
told_twice = refl

told_range : ask_of (clock 200 3601) (card 0x11) one ≡ told (refused 1 0)
unfolding cache_computes
told_range = refl

-- ---- a full cache

-- 64 cards, good from 100 to 200
fill : ℕ → List ℕ
fill zero = []
fill (suc n) = good (suc n) 100 200 ++ replicate 9 0 ++ fill n

no_place : (filed_of (clock 200 0) (fill 64) (good 0x77 100 300) ≡ Err unfiled.Full) × (filed_number (filed_of (clock 200 0) (fill 64) (good 0x77 100 300)) ≡ 20)
unfolding cache_computes fill
no_place = (refl, refl)

-- a card that is held has its place, and one second later any card has
own_place : filed_of (clock 200 0) (fill 64) (good 7 100 300) ≡ Ok 64
unfolding cache_computes fill
own_place = refl

a_second_later : filed_of (clock 201 0) (fill 64) (good 0x77 100 300) ≡ Ok 64
unfolding cache_computes fill
a_second_later = refl
