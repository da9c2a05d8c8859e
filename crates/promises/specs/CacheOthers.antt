-- The room's cache (document 02, C-11): filing for one card changes no other card's answers, except that a stale slip's
-- place may be taken.
-- others, taken_late; all_kept, since.
-- `ask_of` is what asking a buffer gives, `buffer_of` what a filing leaves, `takes` the place it goes to (cache_rules:
-- Cache); `after_all s l` is what the filings l leave of the buffer s, one after the other, and `ForOthers` says that
-- none of them is for a card (cache_rules: Many); `Has` is in cache_rules: Has.
-- `Octets`, `AllOctets` and `Whole` hold of every buffer, slip and card in code. Assumes nothing.
use Rattle.std.specs.Prelude.{ℕ, ◌⊎◌, ◌≡◌, true}
use Rattle.std.proofs.Common.{inl, inr, ⊎_elim}
use mathlib.Core.List.{List, Memᴰ}
use Rattle.octets.specs.Octets.{Octets}
use Rattle.answer.specs.declared.Card.{Card}
use Rattle.answer.specs.Card.{card_ok}
use Rattle.answer.specs.Verdict.{refused}
use Rattle.freshness.specs.declared.Clock.{Clock}
use Rattle.cache_rules.specs.Place.{is_stale, says_of, WholeCard}
use Rattle.cache_rules.specs.Cache.{place_in, is_cache, takes, buffer_of, told, ask_of}
use Rattle.cache_rules.specs.Has.{Has}
use Rattle.cache_rules.specs.Many.{after_all, AllOctets, ForOthers}
use Rattle.cache_rules.proofs.FileTheorem as filing
use Rattle.cache_rules.proofs.ManyTheorem as many

-- one filing, accepted or refused: for another card every ask, with every time and tolerance, gives what it gave
-- before; or that card's place was stale at the filing's time and is the one taken, and no place has the card
pub others : (clock : Clock) (s t : List ℕ) → Octets t → (card : Card) → WholeCard card → (card ≡ (says_of t).card → ⊥)
    → ((later : Clock) → ask_of later card (buffer_of clock s t) ≡ ask_of later card s)
    ⊎ (Has s (takes clock s t) card
    × (is_stale clock (place_in s (takes clock s t)) ≡ true)
    × ((i : ℕ) → Has (buffer_of clock s t) i card → ⊥))
others clock s t o card z n = ⊎_elim (λ h. inl h) (λ h. inr (h.has, h.stale, h.gone)) (filing.others clock s t o card z n)

-- where the place is taken, asking for the card at the filing's time and tolerance gave 16
pub taken_late : (clock : Clock) (s t : List ℕ) → Octets s → (card : Card) → WholeCard card → card_ok card ≡ true
    → Has s (takes clock s t) card → is_stale clock (place_in s (takes clock s t)) ≡ true → ((i : ℕ) → Has (buffer_of clock s t) i card → ⊥)
    → ask_of clock card s ≡ told (refused 16 0)
taken_late clock s t o card z f h e g = many.taken_late card z f clock s t o (record { has = h; stale = e; gone = g })

-- ── many filings, one after the other ──

-- a cache stays a cache
pub all_kept : (s : List ℕ) (l : List (Clock × List ℕ)) → AllOctets l → is_cache s ≡ true → is_cache (after_all s l) ≡ true
all_kept = many.all_kept

-- for a card that none of them is for every ask, with every time and tolerance, gives what it gave before; or at the
-- time and tolerance of one of them asking for it gave 16, and no place has the card
pub since : (s : List ℕ) (l : List (Clock × List ℕ)) → Octets s → AllOctets l → (card : Card) → WholeCard card → card_ok card ≡ true → ForOthers card l
    → ((later : Clock) → ask_of later card (after_all s l) ≡ ask_of later card s)
    ⊎ (((g : Clock × List ℕ) × Memᴰ g l × (ask_of g.0 card s ≡ told (refused 16 0)))
    × ((i : ℕ) → Has (after_all s l) i card → ⊥))
since s l o p card z f h = many.since card z f s l o p h
