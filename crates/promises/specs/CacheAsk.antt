-- The room's cache (document 02, C-11): asking for a card with a time and a tolerance.
-- told_in_full, not_held_in_full; asked_19, asked_1, not_held_exactly; early_exactly, late_exactly, said_exactly,
-- slip_stands; stale_in_full, stale_exactly; always_answered; asked_number_in_full, asked_numbers.
-- `ask_of clock card s` is what asking the buffer s gives (cache_rules: Cache), `Has s i card` that its place i has a
-- card (Has), `says_at` what the slip in a place says, `this_of` and `next_of` its times (Place), `asked_number` the
-- number of what asking gives (Numbers). An ask leaves the buffer: it is handed a part that it cannot write.
-- `Octets` holds of every buffer in code. Assumes nothing.
use Rattle.std.specs.Prelude.{ℕ, ◌+◌, ◌*◌, ◌≤◌, ◌<◌, ◌⊎◌, ◌↔◌, ◌≡◌, refl, true, false, List, take, drop, Some, None}
use Rattle.std.proofs.Common.{ltb-true, lt-ltb}
use Rattle.octets.specs.Octets.{Octets}
use Rattle.answer.specs.declared.Card.{Card}
use Rattle.answer.specs.declared.Verdict.{Verdict}
use Rattle.answer.specs.declared.Answer.{Answer}
use Rattle.answer.specs.Card.{empty_card, card_ok}
use Rattle.answer.specs.Verdict.{kind_of, number_of, refused}
use Rattle.slip.specs.Slip.{slip_of}
use Rattle.freshness.specs.Clock.{clock_ok}
use Rattle.freshness.specs.declared.Clock.{Clock}
use Rattle.cache_rules.specs.Place.{slip_size, kind_at, says_at, this_of, next_of, stale_at, is_stale}
use Rattle.cache_rules.specs.Cache.{place_in, is_cache, told, not_held, ask_of}
use Rattle.cache_rules.specs.Has.{Has}
use Rattle.cache_rules.specs.Numbers.{asked_number}
use Rattle.cache_rules.proofs.NumberLaws.{asked_number_lem}
use Rattle.cache_rules.proofs.AskTheorem as ask
use Rattle.cache_rules.proofs.OutcomeTheorem as order

-- what is told: an answer or a refusal with its card, which is empty for a refusal; or that the card is not held
pub told_in_full : (a : Answer) → told a ≡ record { asked = Some a.verdict; card = a.card }
unfolding told
told_in_full a = refl

pub not_held_in_full : not_held ≡ record { asked = None; card = empty_card }
unfolding not_held
not_held_in_full = refl

module _ (clock : Clock) (card : Card) (s : List ℕ) (o : Octets s) where
  -- 19 exactly if the buffer is no cache
  pub asked_19 : ask_of clock card s ≡ told (refused 19 0) ↔ is_cache s ≡ false
  asked_19 = order.asking_19 clock card s o

  -- 1 exactly if it is one, and the card, the time or the tolerance is out of document 01's range
  pub asked_1 : ask_of clock card s ≡ told (refused 1 0) ↔ (is_cache s ≡ true) × ((clock_ok clock ≡ false) ⊎ (card_ok card ≡ false))
  asked_1 = order.asking_1 clock card s o

  -- nothing else is given than 19, 1, "not held", 15, 16, and an answer of kind 01, 02 or 03
  pub always_answered : (ask_of clock card s ≡ told (refused 19 0))
      ⊎ (ask_of clock card s ≡ told (refused 1 0))
      ⊎ (ask_of clock card s ≡ not_held)
      ⊎ (ask_of clock card s ≡ told (refused 15 0))
      ⊎ (ask_of clock card s ≡ told (refused 16 0))
      ⊎ ((a : Answer) × (kind_of a.verdict < 4) × (ask_of clock card s ≡ told a))
  always_answered = order.asking_answers clock card s o

  -- the number: 256 exactly if not held, 0 exactly if an answer is said, any other exactly if that is the refusal
  pub asked_numbers : (asked_number (ask_of clock card s).asked ≡ 256 ↔ ask_of clock card s ≡ not_held)
      × (asked_number (ask_of clock card s).asked ≡ 0 ↔ (a : Answer) × (kind_of a.verdict < 4) × (ask_of clock card s ≡ told a))
      × ((n : ℕ) → 0 < n → n < 256 → asked_number (ask_of clock card s).asked ≡ n ↔ ask_of clock card s ≡ told (refused n 0))
  asked_numbers = asked_number_lem clock card s o

  -- ── a call that passes 19 and 1 ──
  module _ (c : is_cache s ≡ true) (k : clock_ok clock ≡ true) (f : card_ok card ≡ true) where
    -- "not held" exactly if no place has the card
    pub not_held_exactly : ask_of clock card s ≡ not_held ↔ ((i : ℕ) → Has s i card → ⊥)
    not_held_exactly = ask.not_held_exactly clock card s o c k f

    -- ── place i has the card ──
    module _ (i : ℕ) (h : Has s i card) where
      abbrev a : Answer
      a = says_at (place_in s i)

      -- 15 exactly if now is before thisUpdate
      pub early_exactly : ask_of clock card s ≡ told (refused 15 0) ↔ clock.now < this_of a.verdict
      early_exactly = ask.early_exactly clock card s o c k f i h

      -- 16 exactly if it is not, and now is past nextUpdate plus tolerance
      pub late_exactly : ask_of clock card s ≡ told (refused 16 0)
          ↔ (this_of a.verdict ≤ clock.now) × (next_of a.verdict + clock.tolerance < clock.now)
      late_exactly = ask.late_exactly clock card s o c k f i h

      -- else, and only then, exactly what the slip says
      pub said_exactly : ask_of clock card s ≡ told a ↔ (this_of a.verdict ≤ clock.now) × (clock.now ≤ next_of a.verdict + clock.tolerance)
      said_exactly = ask.said_exactly clock card s o c k f i h

      -- the slip stands in the buffer from 87 times i, with as many octets as its kind has
      pub slip_stands : take (slip_size (kind_at (place_in s i))) (drop (87 * i) s) ≡ slip_of a
      slip_stands = ask.slip_stands clock card s o c k f i h

      -- for a filing the place is stale exactly if asking then would give 16
      pub stale_exactly : is_stale clock (place_in s i) ≡ true ↔ ask_of clock card s ≡ told (refused 16 0)
      stale_exactly = ask.stale_exactly clock card s o c k f i h

-- stale: past nextUpdate plus tolerance
pub stale_in_full : (clock : Clock) (v : Verdict) → stale_at clock v ≡ true ↔ next_of v + clock.tolerance < clock.now
unfolding stale_at
stale_in_full clock v = (λ e. ltb-true (next_of v + clock.tolerance) clock.now e, λ h. lt-ltb (next_of v + clock.tolerance) clock.now h)

-- ── the number of each case: a refusal's own, 0 of an answer, 256 of "not held" ──
pub asked_number_in_full : (asked_number None ≡ 256) × ((v : Verdict) → asked_number (Some v) ≡ number_of v)
asked_number_in_full = (refl, λ v. refl)
