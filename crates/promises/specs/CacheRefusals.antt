-- The room's cache (document 02, C-11): what a filing refuses, each number exactly when.
-- unchanged, refused_19, refused_1, refused_17, refused_20, accepted_exactly, always_answered; filed_number_in_full,
-- filed_numbers.
-- `filed_of clock s t` is what filing the octets t into the buffer s answers, `buffer_of clock s t` what it leaves there
-- (cache_rules: Cache); `is_said (says_of t)` says that t is a slip that may be filed (CacheForm: slip_in_full), `Full`
-- that no place has a card and none is empty or stale (cache_rules: Has), `filed_number` and `filed_count` are in
-- cache_rules: Numbers. `Octets` holds of every slip in code. Accepted filings are in CacheFile. Assumes nothing.
use Rattle.std.specs.Prelude.{ℕ, ◌<◌, ◌⊎◌, ◌↔◌, ◌≡◌, refl, true, false, List, Ok, Err}
use Rattle.octets.specs.Octets.{Octets}
use Rattle.freshness.specs.Clock.{clock_ok}
use Rattle.freshness.specs.declared.Clock.{Clock}
use Rattle.cache_rules.specs.declared.Unfiled.{Unfiled}
use Rattle.cache_rules.specs.declared.Unfiled.TheVariants as unfiled
use Rattle.cache_rules.specs.Place.{is_said, says_of}
use Rattle.cache_rules.specs.Cache.{is_cache, filed_of, buffer_of}
use Rattle.cache_rules.specs.Has.{Full}
use Rattle.cache_rules.specs.Numbers.{unfiled_number, filed_number, filed_count}
use Rattle.cache_rules.proofs.NumberLaws.{filed_number_lem}
use Rattle.cache_rules.proofs.RefusalTheorem as refusal

module _ (clock : Clock) (s t : List ℕ) where
  -- a refused filing leaves every octet
  pub unchanged : (e : Unfiled) → filed_of clock s t ≡ Err e → buffer_of clock s t ≡ s
  unchanged = refusal.unchanged clock s t

  -- 19 exactly if the buffer is no cache
  pub refused_19 : (filed_of clock s t ≡ Err unfiled.NoCache ↔ is_cache s ≡ false) × (filed_number (filed_of clock s t) ≡ 19 ↔ is_cache s ≡ false)
  refused_19 = refusal.refused_19 clock s t

  -- 1 exactly if it is one, and the time or the tolerance is out of range
  pub refused_1 : (filed_of clock s t ≡ Err unfiled.Clock ↔ (is_cache s ≡ true) × (clock_ok clock ≡ false))
      × (filed_number (filed_of clock s t) ≡ 1 ↔ (is_cache s ≡ true) × (clock_ok clock ≡ false))
  refused_1 = refusal.refused_1 clock s t

  -- 17 exactly if these pass, and the octets are no slip of kind 01, 02 or 03 that keeps the slip rules
  pub refused_17 : (filed_of clock s t ≡ Err unfiled.Slip ↔ (is_cache s ≡ true) × (clock_ok clock ≡ true) × (is_said (says_of t) ≡ false))
      × (filed_number (filed_of clock s t) ≡ 17 ↔ (is_cache s ≡ true) × (clock_ok clock ≡ true) × (is_said (says_of t) ≡ false))
  refused_17 = refusal.refused_17 clock s t

  -- the number: 0 exactly if it is accepted, any other exactly if that is the refusal
  pub filed_numbers : (filed_number (filed_of clock s t) ≡ 0 ↔ (n : ℕ) × (filed_of clock s t ≡ Ok n))
      × ((n : ℕ) → 0 < n → filed_number (filed_of clock s t) ≡ n ↔ (e : Unfiled) × (unfiled_number e ≡ n) × (filed_of clock s t ≡ Err e))
  filed_numbers = filed_number_lem clock s t

  module _ (o : Octets t) where
    -- 20 exactly if these pass, no place has the slip's card, and none is empty or stale
    pub refused_20 : (filed_of clock s t ≡ Err unfiled.Full ↔ (is_cache s ≡ true) × (clock_ok clock ≡ true) × (is_said (says_of t) ≡ true) × Full clock s (says_of t).card)
        × (filed_number (filed_of clock s t) ≡ 20 ↔ (is_cache s ≡ true) × (clock_ok clock ≡ true) × (is_said (says_of t) ≡ true) × Full clock s (says_of t).card)
    refused_20 = refusal.refused_20 clock s t o

    -- accepted exactly if none of this is so
    pub accepted_exactly : ((n : ℕ) × (filed_of clock s t ≡ Ok n))
        ↔ (is_cache s ≡ true) × (clock_ok clock ≡ true) × (is_said (says_of t) ≡ true) × (Full clock s (says_of t).card → ⊥)
    accepted_exactly = refusal.accepted_exactly clock s t o

    -- nothing else is given than a count, 19, 1, 17 and 20
    pub always_answered : ((n : ℕ) × (filed_of clock s t ≡ Ok n))
        ⊎ ((filed_of clock s t ≡ Err unfiled.NoCache) × (filed_number (filed_of clock s t) ≡ 19))
        ⊎ ((filed_of clock s t ≡ Err unfiled.Clock) × (filed_number (filed_of clock s t) ≡ 1))
        ⊎ ((filed_of clock s t ≡ Err unfiled.Slip) × (filed_number (filed_of clock s t) ≡ 17))
        ⊎ ((filed_of clock s t ≡ Err unfiled.Full) × (filed_number (filed_of clock s t) ≡ 20))
    always_answered = refusal.filing_answers clock s t o

-- ── the number of each case: a refusal's own, 19, 1, 17 or 20; 0 where the filing is accepted, and then the count beside it ──
pub filed_number_in_full : (n : ℕ)
    → (filed_number (Ok n) ≡ 0) × (filed_count (Ok n) ≡ n)
    × ((e : Unfiled) → (filed_number (Err e) ≡ unfiled_number e) × (filed_count (Err e) ≡ 0))
    × (unfiled_number unfiled.NoCache ≡ 19)
    × (unfiled_number unfiled.Clock ≡ 1)
    × (unfiled_number unfiled.Slip ≡ 17)
    × (unfiled_number unfiled.Full ≡ 20)
filed_number_in_full n = (refl, refl, λ e. (refl, refl), refl, refl, refl, refl)
