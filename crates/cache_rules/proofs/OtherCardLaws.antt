-- What a filing does to asking for another card: nothing, or its stale place is taken.
-- slip_card_ok, place_own; ask_by; others_either.
-- The definitions are in Cache and Has. Assumes nothing.
use Rattle.std.specs.Prelude.{ℕ, ◌<◌, ◌⊎◌, ◌≡◌, refl, Bool, true, false, None}
use Rattle.std.proofs.Common.{arith, inl, inr, ⊎_elim, sym, ap, ◌∙◌}
use mathlib.Core.List.{List, []}
use Rattle.std.proofs.Math.ListN.{length}
use Rattle.octets.specs.Octets.{Octets}
use Rattle.octets.specs.OctetsLaws.{octets_take}
use Rattle.answer.specs.declared.Card.{Card}
use Rattle.answer.specs.Card.{card_ok}
use Rattle.slip.specs.Slip.{card_octets}
use Rattle.slip.specs.SlipLaws.{slip_parts}
use Rattle.cache_room.specs.Room.{held_at}
use Rattle.cache_room.proofs.FirstLaws.{held_there}
use Rattle.cache_room.proofs.FirstLaws as first
use Rattle.cache_room.proofs.OtherLaws.{Kept, Taken, other_either}
use Rattle.freshness.specs.declared.Clock.{Clock}
use Rattle.cache_rules.specs.Place.{places, kind_at, slip_in, card_at, says_at, is_said, place_of, is_stale, wins_of, says_of, slip_size, WholeCard}
use Rattle.cache_rules.proofs.PlaceLaws.{read_sized, slip_back, slip_carded, place_card}
use Rattle.cache_rules.proofs.FitLaws.{held_card}
use Rattle.cache_rules.specs.Cache.{room_of, place_in, is_cache, takes, filing_refusal, room_after, buffer_of, ask_of}
use Rattle.cache_rules.specs.Has.{PlaceTaken}
use Rattle.cache_rules.proofs.CacheLaws.{cache_exactly, room_length}
use Rattle.cache_rules.proofs.RefusalLaws.{accepted_or_left}
use Rattle.cache_rules.proofs.FilingLaws.{was_cache, was_said, takes_one, takes_inside, new_card, after_room, after_cache}
use Rattle.cache_rules.proofs.AskLaws.{cards_same}
use Rattle.cache_rules.proofs.HeldLaws.{card_nonempty}

-- the card of a slip of kind 01 to 03 keeps the serial rule
pub slip_card_ok : (t : List ℕ) → Octets t → is_said (says_of t) ≡ true → card_ok (says_of t).card ≡ true
slip_card_ok t o h = (slip_parts (says_of t) (slip_back t o h).0).1 (slip_carded t o h)

-- the card of what a place says is the one that the place has
pub place_own : (p : List ℕ) → Octets p → is_said (says_at p) ≡ true → (card : Card) → WholeCard card → card_ok card ≡ true
    → card_at p ≡ card_octets card → (says_at p).card ≡ card
unfolding says_at slip_in
place_own p o h card z f e =
    let t : Octets (slip_in p) = octets_take (slip_size (kind_at p)) p o in
    cards_same (says_at p).card card (read_sized (slip_in p)) z (slip_card_ok (slip_in p) t h) f (sym (held_card p o h) ∙ e)

-- two caches that have a card at one place, and the same there, answer alike
ask_by : (clock : Clock) (card : Card) (s u : List ℕ) → is_cache s ≡ true → is_cache u ≡ true
    → held_at card_at (card_octets card) (room_of u) ≡ held_at card_at (card_octets card) (room_of s)
    → place_in u (held_at card_at (card_octets card) (room_of s)) ≡ place_in s (held_at card_at (card_octets card) (room_of s))
    → ask_of clock card u ≡ ask_of clock card s
unfolding ask_of
ask_by clock card s u c d e f = rw (c, d, e, f)

-- a card out of range gives 1 in any cache
ask_broken : (clock : Clock) (card : Card) (s u : List ℕ) → is_cache s ≡ true → is_cache u ≡ true → card_ok card ≡ false → ask_of clock card u ≡ ask_of clock card s
unfolding ask_of
ask_broken clock card s u c d f = rw (c, d, f)

module _ (clock : Clock) (s t : List ℕ) (o : Octets t) (card : Card) (z : WholeCard card) (other : card ≡ (says_of t).card → ⊥) where
  abbrev after : List ℕ
  after = buffer_of clock s t

  abbrev c : List ℕ
  c = card_octets card

  module _ (e : filing_refusal clock s t ≡ None) where
    cache : is_cache s ≡ true
    cache = was_cache clock s t e

    cache_after : is_cache after ≡ true
    cache_after = after_cache clock s t e o

    apart : card_ok card ≡ true → c ≡ card_at (place_of t) → ⊥
    apart f q =
        other
        (cards_same card (says_of t).card z (read_sized t) f (slip_card_ok t o (was_said clock s t e)) (q ∙ place_card t o (was_said clock s t e)))

    of_kept : Kept card_at (is_stale clock) wins_of (place_of t) (room_of s) [] c → (later : Clock) → ask_of later card after ≡ ask_of later card s
    unfolding room_after
    of_kept h later = ask_by later card s after cache cache_after (rw (after_room clock s t e o) h.place) (rw (after_room clock s t e o) h.same)

    of_taken : Taken card_at (is_stale clock) wins_of (place_of t) (room_of s) [] c → PlaceTaken clock s t card
    unfolding room_after takes
    of_taken h =
        let i : held_at card_at c (room_of s) ≡ takes clock s t = h.place in
        let b : takes clock s t < places = takes_one clock s t e in
        record {
          has = (b, rw i at (first.held_card card_at c [] (room_of s) (rw (i, room_length s) b)));
          stale = rw i at h.old;
          gone = λ j (l, q).
              let g : held_at card_at c (room_of after) ≡ length (room_of s) = rw (after_room clock s t e o) h.gone in
              omega (arith, room_length s, held_there card_at c [] (room_of after) j q);
        }

    accepted : (f : Bool) → card_ok card ≡ f → ((later : Clock) → ask_of later card after ≡ ask_of later card s) ⊎ PlaceTaken clock s t card
    accepted false f = inl (λ later. ask_broken later card s after cache cache_after f)
    accepted true f =
        ⊎_elim
        (λ h. inl (of_kept h))
        (λ h. inr (of_taken h))
        (other_either card_at (is_stale clock) wins_of (place_of t) (room_of s) [] c (takes_inside clock s t e) (new_card clock s t e o)
        ((cache_exactly s).0 cache).2 (card_nonempty card) (apart f))

  pub others_either : ((later : Clock) → ask_of later card after ≡ ask_of later card s) ⊎ PlaceTaken clock s t card
  others_either =
      ⊎_elim
      (λ e. accepted e (card_ok card) refl)
      (λ (e : after ≡ s). inl (λ later. ap (ask_of later card) e))
      (accepted_or_left clock s t)
