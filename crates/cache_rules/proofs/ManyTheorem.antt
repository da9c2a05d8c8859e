-- Theorems of many filings (document 02, C-11), for crate promises to cite: a cache stays one, and asking for a card
-- that none of them is for gives what it gave, until its place is taken stale.
-- all_octets, all_kept; taken_late, gone_all, since.
-- One filing is in FileTheorem. Assumes nothing.
use Rattle.std.specs.Prelude.{ℕ, ◌⊎◌, ◌≡◌, true}
use Rattle.std.proofs.Math.Logic.{inl, inr, ⊎_elim}
use Rattle.std.proofs.Math.Path.{refl, sym}
use Rattle.std.proofs.Common.{ap, ◌∙◌}
use mathlib.Core.List.{List, [], ◌∷◌, Memᴰ}
use Rattle.octets.specs.Octets.{Octets}
use Rattle.answer.specs.declared.Card.{Card}
use Rattle.answer.specs.Card.{card_ok}
use Rattle.answer.specs.Verdict.{refused}
use Rattle.freshness.specs.declared.Clock.{Clock}
use Rattle.cache_rules.specs.Place.{card_at, says_of, WholeCard}
use Rattle.cache_rules.proofs.PlaceLaws.{read_sized, place_card}
use Rattle.cache_rules.specs.Cache.{place_in, is_cache, takes, buffer_of, told, ask_of}
use Rattle.cache_rules.proofs.RefusalLaws.{accepted_or_left}
use Rattle.cache_rules.proofs.FilingLaws.{was_cache, was_clock, was_said, after_cache}
use Rattle.cache_rules.proofs.AskLaws.{cards_same}
use Rattle.cache_rules.proofs.AfterLaws.{after_either, after_octets}
use Rattle.cache_rules.specs.Has.{Has, PlaceTaken}
use Rattle.cache_rules.proofs.OtherCardLaws.{slip_card_ok, others_either}
use Rattle.cache_rules.proofs.AskTheorem.{stale_exactly}
use Rattle.cache_rules.specs.Many.{after_all, AllOctets, ForOthers}

-- ── what is left ──

pub all_octets : (s : List ℕ) (l : List (Clock × List ℕ)) → Octets s → AllOctets l → Octets (after_all s l)
unfolding after_all
all_octets s [] o h = o
all_octets s (f ∷ l) o h = all_octets (buffer_of f.0 s f.1) l (after_octets f.0 s f.1 o h.0) h.1

one_kept : (clock : Clock) (s t : List ℕ) → Octets t → is_cache s ≡ true → is_cache (buffer_of clock s t) ≡ true
one_kept clock s t o c = ⊎_elim (λ e. after_cache clock s t e o) (λ (e : buffer_of clock s t ≡ s). rw e c) (accepted_or_left clock s t)

-- filings leave a cache
pub all_kept : (s : List ℕ) (l : List (Clock × List ℕ)) → AllOctets l → is_cache s ≡ true → is_cache (after_all s l) ≡ true
unfolding after_all
all_kept s [] h c = c
all_kept s (f ∷ l) h c = all_kept (buffer_of f.0 s f.1) l h.1 (one_kept f.0 s f.1 h.0 c)

-- ── another card ──

module _ (card : Card) (z : WholeCard card) (f : card_ok card ≡ true) where
  -- a card whose place is taken was stale: asking for it then gives 16
  pub taken_late : (clock : Clock) (s t : List ℕ) → Octets s → PlaceTaken clock s t card → ask_of clock card s ≡ told (refused 16 0)
  taken_late clock s t o h =
      ⊎_elim
      (λ e. (stale_exactly clock card s o (was_cache clock s t e) (was_clock clock s t e) f (takes clock s t) h.has).0 h.stale)
      (λ (e : buffer_of clock s t ≡ s). absurd (h.gone (takes clock s t) (rw e h.has)))
      (accepted_or_left clock s t)

  -- a card that no place has gets none by a filing for another
  gone_stays : (clock : Clock) (s t : List ℕ) → Octets t → (card ≡ (says_of t).card → ⊥) → ((i : ℕ) → Has s i card → ⊥)
      → (i : ℕ) → Has (buffer_of clock s t) i card → ⊥
  gone_stays clock s t o n h i (b, e) =
      ⊎_elim
      (λ r.
      let d = was_said clock s t r in
      ⊎_elim
      (λ (x : place_in (buffer_of clock s t) i ≡ place_in s i). h i (b, ap card_at (sym x) ∙ e))
      (λ x. n (cards_same card (says_of t).card z (read_sized t) f (slip_card_ok t o d) (sym e ∙ ap card_at x.1 ∙ place_card t o d)))
      (after_either clock s t r o i))
      (λ (q : buffer_of clock s t ≡ s). h i (b, ap (λ (u : List ℕ). card_at (place_in u i)) (sym q) ∙ e))
      (accepted_or_left clock s t)

  -- nor by many
  pub gone_all : (s : List ℕ) (l : List (Clock × List ℕ)) → AllOctets l → ForOthers card l → ((i : ℕ) → Has s i card → ⊥)
      → (i : ℕ) → Has (after_all s l) i card → ⊥
  unfolding after_all
  gone_all s [] o h n = n
  gone_all s (g ∷ l) o h n = gone_all (buffer_of g.0 s g.1) l o.1 h.1 (gone_stays g.0 s g.1 o.0 h.0 n)

  -- after filings for other cards asking gives at any time and with any tolerance what it gave before; or asking for
  -- the card at the time of one of them would have given 16, and no place has it any more
  pub since : (s : List ℕ) (l : List (Clock × List ℕ)) → Octets s → AllOctets l → ForOthers card l
      → ((later : Clock) → ask_of later card (after_all s l) ≡ ask_of later card s)
      ⊎ (((g : Clock × List ℕ) × Memᴰ g l × (ask_of g.0 card s ≡ told (refused 16 0)))
      × ((i : ℕ) → Has (after_all s l) i card → ⊥))
  unfolding after_all
  since s [] p o h = inl (λ later. refl)
  since s (g ∷ l) p o h =
      ⊎_elim
      (λ x.
      ⊎_elim
      (λ y. inl (λ later. y later ∙ x later))
      (λ ((k, m, e), y). inr ((k, Memᴰ.tail m, sym (x k.0) ∙ e), y))
      (since (buffer_of g.0 s g.1) l (after_octets g.0 s g.1 p o.0) o.1 h.1))
      (λ x.
      inr ((g, Memᴰ.head refl, taken_late g.0 s g.1 p x), gone_all (buffer_of g.0 s g.1) l o.1 h.1 x.gone))
      (others_either g.0 s g.1 o.0 card z h.0)
