-- Theorems of what a filing refuses (document 02, C-11), for crate promises to cite.
-- unchanged, refused_19, refused_1, refused_17, refused_20, accepted_exactly, filing_answers.
-- `filed_of clock s t` is what filing the octets t into the buffer s answers, `buffer_of clock s t` what it leaves there, and
-- `filed_number` is its number: each refusal is said by its name and by its number.
-- Accepted filings are in FileTheorem. Assumes nothing.
use Rattle.std.specs.Prelude.{ℕ, ◌⊎◌, ◌↔◌, ◌≡◌, refl, Bool, true, false, ltb, Ok, Err}
use Rattle.std.proofs.Common.{inl, inr, ◌∙◌}
use Rattle.std.proofs.Math.Path.{sym}
use mathlib.Core.List.{List, []}
use Rattle.std.proofs.Math.ListN.{length}
use borrow.Author.Tests.{ltb-false, le-ltb}
use Rattle.octets.specs.Octets.{Octets}
use Rattle.octets.specs.SameLaws.{impossible}
use Rattle.slip.specs.Slip.{card_octets}
use Rattle.cache_room.specs.Room.{count}
use Rattle.cache_room.proofs.TakenLaws.{taken_none}
use Rattle.freshness.specs.declared.Clock.{Clock}
use Rattle.cache_rules.specs.declared.Unfiled.{Unfiled}
use Rattle.cache_rules.specs.declared.Unfiled.TheVariants as unfiled
use Rattle.cache_rules.specs.Place.{places, card_at, is_said, place_of, is_stale, says_of}
use Rattle.cache_rules.proofs.PlaceLaws.{place_card}
use Rattle.freshness.specs.Clock.{clock_ok}
use Rattle.cache_rules.specs.Cache.{room_of, is_cache, takes, filed_of, buffer_of}
use Rattle.cache_rules.proofs.CacheLaws.{room_length}
use Rattle.cache_rules.specs.Numbers.{unfiled_number, filed_number}
use Rattle.cache_rules.proofs.NumberLaws.{number_told}
use Rattle.cache_rules.proofs.RefusalLaws as refusal
use Rattle.cache_rules.proofs.FilingLaws as filing
use Rattle.cache_rules.specs.Has.{Full}

-- what is not false is true
true_from : (b : Bool) → (b ≡ false → ⊥) → b ≡ true
true_from true h = refl
true_from false h = absurd (h refl)

module _ (clock : Clock) (s t : List ℕ) where
  -- a refused filing leaves every octet
  pub unchanged : (e : Unfiled) → filed_of clock s t ≡ Err e → buffer_of clock s t ≡ s
  unchanged = refusal.refused_keeps clock s t

  -- what a refusal comes with, its number comes with
  by_number : {P : Type 0} (e : Unfiled) → filed_of clock s t ≡ Err e ↔ P
      → (filed_of clock s t ≡ Err e ↔ P) × (filed_number (filed_of clock s t) ≡ unfiled_number e ↔ P)
  by_number e x =
      let n = number_told (filed_of clock s t) e in
      (x, (λ q. x.0 (n.0 q), λ h. n.1 (x.1 h)))

  -- each refusal exactly if its test fails and those before it pass: 19 no such cache, 1 the clock, 17 the slip, 20 no place
  pub refused_19 : (filed_of clock s t ≡ Err unfiled.NoCache ↔ is_cache s ≡ false) × (filed_number (filed_of clock s t) ≡ 19 ↔ is_cache s ≡ false)
  refused_19 =
      let n = refusal.refused_number clock s t unfiled.NoCache in
      let x = (refusal.refusal_exactly clock s t).0 in
      by_number unfiled.NoCache (λ e. x.0 (n.0 e), λ h. n.1 (x.1 h))

  pub refused_1 : (filed_of clock s t ≡ Err unfiled.Clock ↔ (is_cache s ≡ true) × (clock_ok clock ≡ false))
      × (filed_number (filed_of clock s t) ≡ 1 ↔ (is_cache s ≡ true) × (clock_ok clock ≡ false))
  refused_1 =
      let n = refusal.refused_number clock s t unfiled.Clock in
      let x = (refusal.refusal_exactly clock s t).1 in
      by_number unfiled.Clock (λ e. x.0 (n.0 e), λ h. n.1 (x.1 h))

  pub refused_17 : (filed_of clock s t ≡ Err unfiled.Slip ↔ (is_cache s ≡ true) × (clock_ok clock ≡ true) × (is_said (says_of t) ≡ false))
      × (filed_number (filed_of clock s t) ≡ 17 ↔ (is_cache s ≡ true) × (clock_ok clock ≡ true) × (is_said (says_of t) ≡ false))
  refused_17 =
      let n = refusal.refused_number clock s t unfiled.Slip in
      let x = (refusal.refusal_exactly clock s t).2 in
      by_number unfiled.Slip (λ e. x.0 (n.0 e), λ h. n.1 (x.1 h))

  module _ (o : Octets t) where
    full_exactly : is_said (says_of t) ≡ true → ltb (takes clock s t) places ≡ false ↔ Full clock s (says_of t).card
    unfolding takes
    full_exactly d =
        let x = taken_none card_at (is_stale clock) (card_at (place_of t)) [] (room_of s) in
        let y : card_at (place_of t) ≡ card_octets (says_of t).card = place_card t o d in
        let l : length (room_of s) ≡ places = room_length s in (
          λ e.
              let h = x.0 (rw l (ltb-false (takes clock s t) places e)) in
              (λ j (b, c). h.0 j (rw l b) (c ∙ sym y), λ j b. h.1 j (rw l b)),
          λ (m, n).
              le-ltb (takes clock s t) places
              (rw l at (x.1 (λ j b c. m j (rw l at b, c ∙ y), λ j b. n j (rw l at b)))),
        )

    pub refused_20 : (filed_of clock s t ≡ Err unfiled.Full ↔ (is_cache s ≡ true) × (clock_ok clock ≡ true) × (is_said (says_of t) ≡ true) × Full clock s (says_of t).card)
        × (filed_number (filed_of clock s t) ≡ 20 ↔ (is_cache s ≡ true) × (clock_ok clock ≡ true) × (is_said (says_of t) ≡ true) × Full clock s (says_of t).card)
    refused_20 =
        let n = refusal.refused_number clock s t unfiled.Full in
        let x = (refusal.refusal_exactly clock s t).3 in
        by_number unfiled.Full (
          λ e. let (a, b, c, d) = x.0 (n.0 e) in (a, b, c, (full_exactly c).0 d),
          λ (a, b, c, d). n.1 (x.1 (a, b, c, (full_exactly c).1 d)),
        )

    -- accepted exactly if no test fails
    pub accepted_exactly : ((n : ℕ) × (filed_of clock s t ≡ Ok n))
        ↔ (is_cache s ≡ true) × (clock_ok clock ≡ true) × (is_said (says_of t) ≡ true) × (Full clock s (says_of t).card → ⊥)
    accepted_exactly =
        let x = (refusal.refusal_exactly clock s t).4 in (
          λ (n, e). let (a, b, c, d) = x.0 (refusal.count_accepted clock s t n e) in (a, b, c, λ h. impossible (sym ((full_exactly c).1 h) ∙ d)),
          λ (a, b, c, d). (
            count card_at (room_of (buffer_of clock s t)),
            filing.filed_count_lem clock s t (x.1 (a, b, c, true_from (ltb (takes clock s t) places) (λ e. d ((full_exactly c).0 e)))) o,
          ),
        )

    -- there is no other refusal
    pub filing_answers : ((n : ℕ) × (filed_of clock s t ≡ Ok n))
        ⊎ ((filed_of clock s t ≡ Err unfiled.NoCache) × (filed_number (filed_of clock s t) ≡ 19))
        ⊎ ((filed_of clock s t ≡ Err unfiled.Clock) × (filed_number (filed_of clock s t) ≡ 1))
        ⊎ ((filed_of clock s t ≡ Err unfiled.Slip) × (filed_number (filed_of clock s t) ≡ 17))
        ⊎ ((filed_of clock s t ≡ Err unfiled.Full) × (filed_number (filed_of clock s t) ≡ 20))
    filing_answers = go (is_cache s) (clock_ok clock) (is_said (says_of t)) (ltb (takes clock s t) places) refl refl refl refl
      where
        go : (a b c d : Bool) → is_cache s ≡ a → clock_ok clock ≡ b → is_said (says_of t) ≡ c → ltb (takes clock s t) places ≡ d
            → ((n : ℕ) × (filed_of clock s t ≡ Ok n))
            ⊎ ((filed_of clock s t ≡ Err unfiled.NoCache) × (filed_number (filed_of clock s t) ≡ 19))
            ⊎ ((filed_of clock s t ≡ Err unfiled.Clock) × (filed_number (filed_of clock s t) ≡ 1))
            ⊎ ((filed_of clock s t ≡ Err unfiled.Slip) × (filed_number (filed_of clock s t) ≡ 17))
            ⊎ ((filed_of clock s t ≡ Err unfiled.Full) × (filed_number (filed_of clock s t) ≡ 20))
        go false b c d x y z w = inr (inl (refused_19.0.1 x, refused_19.1.1 x))
        go true false c d x y z w = inr (inr (inl (refused_1.0.1 (x, y), refused_1.1.1 (x, y))))
        go true true false d x y z w = inr (inr (inr (inl (refused_17.0.1 (x, y, z), refused_17.1.1 (x, y, z)))))
        go true true true false x y z w =
            let full = (full_exactly z).0 w in
            inr (inr (inr (inr (refused_20.0.1 (x, y, z, full), refused_20.1.1 (x, y, z, full)))))
        go true true true true x y z w = inl (accepted_exactly.1 (x, y, z, λ h. impossible (sym ((full_exactly z).1 h) ∙ w)))
