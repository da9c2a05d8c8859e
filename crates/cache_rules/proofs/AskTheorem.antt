-- Theorems of asking for a card (document 02, C-11), for crate promises to cite.
-- has_exactly, not_held_exactly; three, early_exactly, late_exactly, said_exactly, slip_stands, stale_exactly.
-- The order of the answers is in OutcomeTheorem, filing in FileTheorem; as against the check, in crate cache_check.
-- `ask_of clock card s` is what asking the buffer s gives, `place_in s i` its place i, `says_at` what the slip in a place
-- says, and `Has s i card` that place i has a card. Assumes nothing.
use Rattle.std.specs.Prelude.{ℕ, ◌+◌, ◌*◌, ◌≤◌, ◌<◌, ◌↔◌, ◌≡◌, true, List, take, drop}
use Rattle.std.proofs.Common.{arith, ◌∙◌}
use Rattle.std.proofs.Math.Path.{sym, ap}
use Rattle.std.proofs.Math.Seq.{take-take}
use borrow.Author.Tests.{ltb-true, lt-ltb}
use Rattle.octets.specs.Octets.{Octets}
use Rattle.answer.specs.declared.Card.{Card}
use Rattle.answer.specs.declared.Answer.{Answer}
use Rattle.answer.specs.Card.{card_ok}
use Rattle.answer.specs.Verdict.{refused}
use Rattle.slip.specs.Slip.{card_octets, slip_of}
use Rattle.freshness.specs.Clock.{clock_ok}
use Rattle.freshness.specs.declared.Clock.{Clock}
use Rattle.cache_rules.specs.Place.{width, places, slip_size, kind_at, slip_in, says_at, is_said, this_of, next_of, stale_at, is_stale, WholeCard}
use Rattle.cache_rules.specs.Cache.{place_in, is_cache, told, not_held, said_at, ask_of}
use Rattle.cache_rules.proofs.FitLaws.{held_card, held_slip}
use Rattle.cache_rules.proofs.CacheLaws.{place_at, place_octets}
use Rattle.cache_rules.proofs.AskLaws as asking
use Rattle.cache_rules.proofs.HeldLaws as held
use Rattle.cache_rules.specs.Has.{Has}
use Rattle.cache_rules.proofs.OtherCardLaws.{place_own}

-- a place of a cache has a card exactly if its slip is about that card
pub has_exactly : (s : List ℕ) (i : ℕ) (card : Card) → Octets s → is_cache s ≡ true → WholeCard card → card_ok card ≡ true
    → Has s i card ↔ (i < places) × (is_said (says_at (place_in s i)) ≡ true) × ((says_at (place_in s i)).card ≡ card)
has_exactly s i card o c z f = (
  λ (b, h).
      let d = held.here_said card s o c i b h in
      (b, d, place_own (place_in s i) (place_octets s i b o) d card z f h),
  λ (b, d, e). (b, held_card (place_in s i) (place_octets s i b o) d ∙ ap card_octets e),
)

module _ (clock : Clock) (card : Card) (s : List ℕ) (o : Octets s) (c : is_cache s ≡ true) (k : clock_ok clock ≡ true) (f : card_ok card ≡ true) where
  -- not held exactly if no place has the card
  pub not_held_exactly : ask_of clock card s ≡ not_held ↔ ((i : ℕ) → Has s i card → ⊥)
  not_held_exactly = (
    λ e i (b, h). asking.told_held (said_at clock (says_at (place_in s i))) (sym (held.ask_here card s o c clock k f i b h) ∙ e),
    λ h. held.ask_nowhere card s o c clock k f (λ i b e. h i (b, e)),
  )

  module _ (i : ℕ) (h : Has s i card) where
    abbrev a : Answer
    a = says_at (place_in s i)

    abbrev this : ℕ
    this = this_of a.verdict

    abbrev next : ℕ
    next = next_of a.verdict

    -- what is told is one of three, which differ
    pub three : (P : Type 0)
        → (clock.now < this → ask_of clock card s ≡ told (refused 15 0) → P)
        → (this ≤ clock.now → next + clock.tolerance < clock.now → ask_of clock card s ≡ told (refused 16 0) → P)
        → (this ≤ clock.now → clock.now ≤ next + clock.tolerance → ask_of clock card s ≡ told a → P)
        → P
    three P early late within =
        held.ask_three card s o c clock k f i h.0 h.1 P
        (λ g. early g (held.ask_early card s o c clock k f i h.0 h.1 g))
        (λ g l. late g l (held.ask_late card s o c clock k f i h.0 h.1 g l))
        (λ g l. within g l (held.ask_within card s o c clock k f i h.0 h.1 g l))

    is_said_lem : is_said a ≡ true
    is_said_lem = held.here_said card s o c i h.0 h.1

    -- 15 exactly if now is before the slip's thisUpdate
    pub early_exactly : ask_of clock card s ≡ told (refused 15 0) ↔ clock.now < this
    early_exactly = (
      λ e.
          three (clock.now < this)
          (λ g q. g)
          (λ g l q. absurd (omega (arith, asking.told_number 15 16 (sym e ∙ q))))
          (λ g l q. absurd (asking.said_refusal a 15 is_said_lem (sym q ∙ e))),
      λ g. held.ask_early card s o c clock k f i h.0 h.1 g,
    )

    -- 16 exactly if it is not, and now is past nextUpdate plus tolerance
    pub late_exactly : ask_of clock card s ≡ told (refused 16 0) ↔ (this ≤ clock.now) × (next + clock.tolerance < clock.now)
    late_exactly = (
      λ e.
          three ((this ≤ clock.now) × (next + clock.tolerance < clock.now))
          (λ g q. absurd (omega (arith, asking.told_number 16 15 (sym e ∙ q))))
          (λ g l q. (g, l))
          (λ g l q. absurd (asking.said_refusal a 16 is_said_lem (sym q ∙ e))),
      λ (g, l). held.ask_late card s o c clock k f i h.0 h.1 g l,
    )

    -- else what the slip says, which is no refusal
    pub said_exactly : ask_of clock card s ≡ told a ↔ (this ≤ clock.now) × (clock.now ≤ next + clock.tolerance)
    said_exactly = (
      λ e.
          three ((this ≤ clock.now) × (clock.now ≤ next + clock.tolerance))
          (λ g q. absurd (asking.said_refusal a 15 is_said_lem (sym e ∙ q)))
          (λ g l q. absurd (asking.said_refusal a 16 is_said_lem (sym e ∙ q)))
          (λ g l q. (g, l)),
      λ (g, l). held.ask_within card s o c clock k f i h.0 h.1 g l,
    )

    -- where the slip stands in the buffer: from 87 times the place's position, as many octets as its kind has
    pub slip_stands : take (slip_size (kind_at (place_in s i))) (drop (width * i) s) ≡ slip_of a
    unfolding slip_in
    slip_stands =
        let x = held_slip (place_in s i) (place_octets s i h.0 o) is_said_lem in
        sym
        (x.0
        ∙ ap (take (slip_size (kind_at (place_in s i)))) (place_at s i h.0)
        ∙ take-take (slip_size (kind_at (place_in s i))) width (drop (width * i) s) x.1)

    -- its place is stale exactly if asking gives 16
    pub stale_exactly : is_stale clock (place_in s i) ≡ true ↔ ask_of clock card s ≡ told (refused 16 0)
    unfolding stale_at
    stale_exactly = (
      λ e.
          let l : next + clock.tolerance < clock.now = ltb-true (next + clock.tolerance) clock.now e in
          late_exactly.1 (omega (arith, held.here_times card s o c i h.0 h.1), l),
      λ e. lt-ltb (next + clock.tolerance) clock.now (late_exactly.0 e).1,
    )
