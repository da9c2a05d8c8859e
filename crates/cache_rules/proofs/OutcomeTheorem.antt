-- What asking gives is one of six, by the tests in their order (document 02, C-11), for crate promises to cite.
-- outcome, asking_answers, asking_19, asking_1.
-- `ask_of clock card s` is what asking the buffer s gives. Held and not held are in AskTheorem. Assumes nothing.
use Rattle.std.specs.Prelude.{ℕ, ◌<◌, ◌⊎◌, ◌↔◌, ◌≡◌, refl, Bool, true, false, List}
use Rattle.std.proofs.Common.{arith, inl, inr, ⊎_elim, sym, ◌∙◌}
use Rattle.octets.specs.Octets.{Octets}
use Rattle.octets.specs.SameLaws.{impossible}
use Rattle.answer.specs.declared.Card.{Card}
use Rattle.answer.specs.declared.Answer.{Answer}
use Rattle.answer.specs.Card.{card_ok}
use Rattle.answer.specs.Verdict.{kind_of, refused}
use Rattle.freshness.specs.Clock.{clock_ok}
use Rattle.freshness.specs.declared.Clock.{Clock}
use Rattle.cache_rules.specs.Place.{says_at, is_said}
use Rattle.cache_rules.proofs.PlaceLaws.{said_kind}
use Rattle.cache_rules.specs.Cache.{place_in, is_cache, told, not_held, ask_of}
use Rattle.cache_rules.proofs.AskLaws as asking
use Rattle.cache_rules.proofs.HeldLaws as held
use Rattle.cache_rules.specs.Has.{Has}
use Rattle.cache_rules.proofs.AskTheorem.{three}

module _ (clock : Clock) (card : Card) (s : List ℕ) (o : Octets s) where
  -- what asking gives is one of six
  pub outcome : (P : Type 0)
      → (is_cache s ≡ false → ask_of clock card s ≡ told (refused 19 0) → P)
      → (is_cache s ≡ true → (clock_ok clock ≡ false) ⊎ (card_ok card ≡ false) → ask_of clock card s ≡ told (refused 1 0) → P)
      → (ask_of clock card s ≡ not_held → P)
      → (ask_of clock card s ≡ told (refused 15 0) → P)
      → (ask_of clock card s ≡ told (refused 16 0) → P)
      → ((i : ℕ) → Has s i card → card_ok card ≡ true → is_said (says_at (place_in s i)) ≡ true → ask_of clock card s ≡ told (says_at (place_in s i)) → P)
      → P
  outcome P broken outside none early late within = go (is_cache s) (clock_ok clock) (card_ok card) refl refl refl
    where
      go : (t u v : Bool) → is_cache s ≡ t → clock_ok clock ≡ u → card_ok card ≡ v → P
      go false u v c k f = broken c (asking.ask_19 clock card s c)
      go true false v c k f = outside c (inl k) (asking.ask_clock clock card s c k)
      go true true false c k f = outside c (inr f) (asking.ask_card clock card s c k f)
      go true true true c k f =
          ⊎_elim
          (λ (i, b, h).
          three clock card s o c k f i (b, h) P
          (λ g q. early q)
          (λ g l q. late q)
          (λ g l q. within i (b, h) f (held.here_said card s o c i b h) q))
          (λ h. none (asking.ask_none clock card s c k f h))
          (held.somewhere card s o c)

  -- there is no other answer and no other refusal
  pub asking_answers : (ask_of clock card s ≡ told (refused 19 0))
      ⊎ (ask_of clock card s ≡ told (refused 1 0))
      ⊎ (ask_of clock card s ≡ not_held)
      ⊎ (ask_of clock card s ≡ told (refused 15 0))
      ⊎ (ask_of clock card s ≡ told (refused 16 0))
      ⊎ ((a : Answer) × (kind_of a.verdict < 4) × (ask_of clock card s ≡ told a))
  asking_answers =
      outcome _
      (λ c q. inl q)
      (λ c h q. inr (inl q))
      (λ q. inr (inr (inl q)))
      (λ q. inr (inr (inr (inl q))))
      (λ q. inr (inr (inr (inr (inl q)))))
      (λ i h f d q. inr (inr (inr (inr (inr (says_at (place_in s i), said_kind (says_at (place_in s i)) d, q))))))

  -- 19 exactly if the buffer is no cache
  pub asking_19 : ask_of clock card s ≡ told (refused 19 0) ↔ is_cache s ≡ false
  asking_19 = (
    λ e.
        outcome (is_cache s ≡ false)
        (λ c q. c)
        (λ c h q. absurd (omega (arith, asking.told_number 19 1 (sym e ∙ q))))
        (λ q. absurd (asking.told_held (refused 19 0) (sym e ∙ q)))
        (λ q. absurd (omega (arith, asking.told_number 19 15 (sym e ∙ q))))
        (λ q. absurd (omega (arith, asking.told_number 19 16 (sym e ∙ q))))
        (λ i h f d q. absurd (asking.said_refusal (says_at (place_in s i)) 19 d (sym q ∙ e))),
    asking.ask_19 clock card s,
  )

  -- 1 exactly if it is one, and the card, the time or the tolerance is out of range
  pub asking_1 : ask_of clock card s ≡ told (refused 1 0) ↔ (is_cache s ≡ true) × ((clock_ok clock ≡ false) ⊎ (card_ok card ≡ false))
  asking_1 = (
    λ e.
        outcome ((is_cache s ≡ true) × ((clock_ok clock ≡ false) ⊎ (card_ok card ≡ false)))
        (λ c q. absurd (omega (arith, asking.told_number 1 19 (sym e ∙ q))))
        (λ c h q. (c, h))
        (λ q. absurd (asking.told_held (refused 1 0) (sym e ∙ q)))
        (λ q. absurd (omega (arith, asking.told_number 1 15 (sym e ∙ q))))
        (λ q. absurd (omega (arith, asking.told_number 1 16 (sym e ∙ q))))
        (λ i h f d q. absurd (asking.said_refusal (says_at (place_in s i)) 1 d (sym q ∙ e))),
    λ (c, h). back c h (clock_ok clock) refl,
  )
    where
      back : is_cache s ≡ true → (clock_ok clock ≡ false) ⊎ (card_ok card ≡ false) → (t : Bool) → clock_ok clock ≡ t → ask_of clock card s ≡ told (refused 1 0)
      back c h false k = asking.ask_clock clock card s c k
      back c h true k = ⊎_elim (λ z. impossible (sym z ∙ k)) (λ z. asking.ask_card clock card s c k z) h
