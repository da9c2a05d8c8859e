-- Laws of what a filing refuses: each refusal exactly when, and that a refused filing changes nothing.
-- refusal_exactly; filed_refused, accepted_or_left, refused_keeps, count_accepted, refused_number.
-- The definitions are in Cache. Accepted filings are in FilingLaws. Assumes nothing.
use Rattle.std.specs.Prelude.{ℕ, ◌↔◌, ◌⊎◌, Bool, List, ltb, Option, None, Some, Ok, Err}
use Rattle.std.proofs.Common.{sym, ◌∙◌, inl, inr}
use Rattle.std.proofs.Math.Path.{◌≡◌, refl, ap}
use Rattle.std.proofs.Math.Bool.{true, false, cond}
use mathlib.Core.List.{flatten}
use Rattle.octets.specs.SameLaws.{impossible}
use Rattle.cache_room.specs.Room.{count}
use Rattle.freshness.specs.declared.Clock.{Clock}
use Rattle.cache_rules.specs.declared.Unfiled.{Unfiled}
use Rattle.cache_rules.specs.declared.Unfiled.TheVariants as unfiled
use Rattle.cache_rules.specs.Place.{places, card_at, is_said, says_of}
use Rattle.freshness.specs.Clock.{clock_ok}
use Rattle.cache_rules.specs.Cache.{is_cache, takes, filing_refusal, room_after, filed_by, left_by, filed_of, buffer_of}

module _ (clock : Clock) (s t : List ℕ) where
  -- ---- the refusal, by the tests in their order

  abbrev r : Option Unfiled
  r = filing_refusal clock s t

  abbrev Says : Option Unfiled → Bool → Bool → Bool → Bool → Type 0
  Says n a b c d =
      (n ≡ Some unfiled.NoCache ↔ a ≡ false)
      × (n ≡ Some unfiled.Clock ↔ (a ≡ true) × (b ≡ false))
      × (n ≡ Some unfiled.Slip ↔ (a ≡ true) × (b ≡ true) × (c ≡ false))
      × (n ≡ Some unfiled.Full ↔ (a ≡ true) × (b ≡ true) × (c ≡ true) × (d ≡ false))
      × (n ≡ None ↔ (a ≡ true) × (b ≡ true) × (c ≡ true) × (d ≡ true))

  says : (a b c d : Bool)
      → Says (cond a (cond b (cond c (cond d None (Some unfiled.Full)) (Some unfiled.Slip)) (Some unfiled.Clock)) (Some unfiled.NoCache)) a b c d
  says false b c d = (
    (λ e. refl, λ h. refl),
    (λ e. absurd (cc e), λ h. impossible h.0),
    (λ e. absurd (cc e), λ h. impossible h.0),
    (λ e. absurd (cc e), λ h. impossible h.0),
    (λ e. absurd (cc e), λ h. impossible h.0),
  )
  says true false c d = (
    (λ e. absurd (cc e), λ h. impossible (sym h)),
    (λ e. (refl, refl), λ h. refl),
    (λ e. absurd (cc e), λ h. impossible h.1),
    (λ e. absurd (cc e), λ h. impossible h.1),
    (λ e. absurd (cc e), λ h. impossible h.1),
  )
  says true true false d = (
    (λ e. absurd (cc e), λ h. impossible (sym h)),
    (λ e. absurd (cc e), λ h. impossible (sym h.1)),
    (λ e. (refl, refl, refl), λ h. refl),
    (λ e. absurd (cc e), λ h. impossible h.2),
    (λ e. absurd (cc e), λ h. impossible h.2),
  )
  says true true true false = (
    (λ e. absurd (cc e), λ h. impossible (sym h)),
    (λ e. absurd (cc e), λ h. impossible (sym h.1)),
    (λ e. absurd (cc e), λ h. impossible (sym h.2)),
    (λ e. (refl, refl, refl, refl), λ h. refl),
    (λ e. absurd (cc e), λ h. impossible h.3),
  )
  says true true true true = (
    (λ e. absurd (cc e), λ h. impossible (sym h)),
    (λ e. absurd (cc e), λ h. impossible (sym h.1)),
    (λ e. absurd (cc e), λ h. impossible (sym h.2)),
    (λ e. absurd (cc e), λ h. impossible (sym h.3)),
    (λ e. (refl, refl, refl, refl), λ h. refl),
  )

  -- no such cache; the clock; the slip; no place; none
  pub refusal_exactly : Says r (is_cache s) (clock_ok clock) (is_said (says_of t)) (ltb (takes clock s t) places)
  unfolding filing_refusal
  refusal_exactly = says (is_cache s) (clock_ok clock) (is_said (says_of t)) (ltb (takes clock s t) places)

  -- ---- a refused filing

  pub filed_refused : (e : Unfiled) → r ≡ Some e → (filed_of clock s t ≡ Err e) × (buffer_of clock s t ≡ s)
  unfolding filed_of buffer_of
  filed_refused e h = (
    ap (λ (x : Option Unfiled). filed_by x (count card_at (room_after clock s t))) h,
    ap (λ (x : Option Unfiled). left_by x (flatten (room_after clock s t)) s) h,
  )

  -- a filing is accepted, or leaves the buffer
  pub accepted_or_left : (r ≡ None) ⊎ (buffer_of clock s t ≡ s)
  accepted_or_left = go r refl
    where
      go : (x : Option Unfiled) → r ≡ x → (r ≡ None) ⊎ (buffer_of clock s t ≡ s)
      go None h = inl h
      go (Some e) h = inr (filed_refused e h).1

  -- it answers a number of places exactly if it is accepted
  pub count_accepted : (n : ℕ) → filed_of clock s t ≡ Ok n → r ≡ None
  count_accepted n q = go r refl
    where
      go : (x : Option Unfiled) → r ≡ x → r ≡ None
      go None h = h
      go (Some e) h = let z : Err e ≡ Ok n = sym (filed_refused e h).0 ∙ q in absurd (cc z)

  -- and a refusal exactly if that is its first
  pub refused_number : (e : Unfiled) → filed_of clock s t ≡ Err e ↔ r ≡ Some e
  unfolding filed_of
  refused_number e = (λ q. go r refl q, λ h. (filed_refused e h).0)
    where
      go : (x : Option Unfiled) → r ≡ x → filed_by x (count card_at (room_after clock s t)) ≡ Err e → x ≡ Some e
      go None h q = absurd (cc q)
      go (Some y) h q = let z : y ≡ e = cc q in ap Some z

  pub refused_keeps : (e : Unfiled) → filed_of clock s t ≡ Err e → buffer_of clock s t ≡ s
  refused_keeps e q = (filed_refused e ((refused_number e).0 q)).1
