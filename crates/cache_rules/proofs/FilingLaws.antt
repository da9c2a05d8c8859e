-- Laws of a filing that is accepted: the cache that it leaves, what it writes, and what it counts.
-- filed_buffer, was_cache, was_clock, was_said, takes_one, takes_inside; new_card, kept_place, after_room, after_cache,
-- after_put, filed_count_lem, count_grows.
-- The definitions are in Cache. Refused filings are in RefusalLaws, place by place in AfterLaws. Assumes nothing.
use Rattle.std.specs.Prelude.{ℕ, suc, ◌*◌, ◌<◌, ◌⊎◌, ◌≡◌, refl, Bool, true, length, Option, None, Ok}
use Rattle.std.proofs.Common.{inl, inr, sym, ◌∙◌, ltb-true}
use Rattle.std.proofs.Math.Path.{ap}
use Rattle.std.proofs.Math.Bool.{false}
use mathlib.Core.List.{List, [], flatten}
use Rattle.octets.specs.Buffer.{put_in}
use Rattle.octets.specs.SameLaws.{same_true, same_refl}
use Rattle.octets.specs.Octets.{Octets}
use Rattle.cache_room.specs.Parts.{parts_of, Wide}
use Rattle.cache_room.proofs.PartsLaws.{parts_wide, set_wide, wide_at, join_length, join_parts, parts_put}
use Rattle.cache_room.specs.Room.{is_empty, held_at, count, taken_at, kept_in, filed_in}
use Rattle.cache_room.proofs.SingleLaws.{Single}
use Rattle.cache_room.proofs.FiledLaws.{kept_either, kept_card, filed_length, filed_single}
use Rattle.cache_room.proofs.CountLaws.{count_more, count_same}
use Rattle.freshness.specs.Clock.{clock_ok}
use Rattle.freshness.specs.declared.Clock.{Clock}
use Rattle.cache_rules.specs.declared.Unfiled.{Unfiled}
use Rattle.cache_rules.specs.Place.{width, places, card_at, is_said, place_ok, place_of, is_stale, wins_of, says_of}
use Rattle.cache_rules.proofs.PlaceLaws.{place_length, place_card, place_fits, card_some}
use Rattle.cache_rules.specs.Cache.{room_of, place_in, all_fit, is_cache, takes, filing_refusal, room_after, filed_by, left_by, filed_of, buffer_of}
use Rattle.cache_rules.proofs.CacheLaws.{fit_at, fit_set, cache_exactly, room_length}
use Rattle.cache_rules.proofs.RefusalLaws.{refusal_exactly}

module _ (clock : Clock) (s t : List ℕ) (e : filing_refusal clock s t ≡ None) where
  pub filed_buffer : buffer_of clock s t ≡ flatten (room_after clock s t)
  unfolding buffer_of
  filed_buffer = ap (λ (x : Option Unfiled). left_by x (flatten (room_after clock s t)) s) e

  pub was_cache : is_cache s ≡ true
  was_cache = ((refusal_exactly clock s t).4.0 e).0

  pub was_clock : clock_ok clock ≡ true
  was_clock = ((refusal_exactly clock s t).4.0 e).1

  pub was_said : is_said (says_of t) ≡ true
  was_said = ((refusal_exactly clock s t).4.0 e).2

  pub takes_one : takes clock s t < places
  takes_one = ltb-true (takes clock s t) places ((refusal_exactly clock s t).4.0 e).3

  cache : (length s ≡ width * places) × (all_fit (room_of s) ≡ true) × Single card_at [] (room_of s)
  cache = (cache_exactly s).0 was_cache

  pub takes_inside : taken_at card_at (is_stale clock) (card_at (place_of t)) (room_of s) < length (room_of s)
  unfolding takes
  takes_inside = rw (room_length s) takes_one

  module _ (o : Octets t) where
    pub new_card : card_at (place_of t) ≡ [] → ⊥
    new_card z = card_some t (sym (place_card t o was_said) ∙ z)

    room_wide : Wide width (room_of s)
    unfolding room_of
    room_wide = parts_wide width places s cache.0

    -- what the place holds then: it fits and has its width
    pub kept_place : (place_ok (kept_in card_at wins_of (place_of t) (room_of s)) ≡ true) × (length (kept_in card_at wins_of (place_of t) (room_of s)) ≡ width)
    kept_place = go (kept_either card_at wins_of (place_of t) (room_of s) [])
      where
        go : (kept_in card_at wins_of (place_of t) (room_of s) ≡ place_of t)
            ⊎ ((held_at card_at (card_at (place_of t)) (room_of s) < length (room_of s))
            × (kept_in card_at wins_of (place_of t) (room_of s) ≡ place_in s (held_at card_at (card_at (place_of t)) (room_of s)))
            × (wins_of (place_of t) (place_in s (held_at card_at (card_at (place_of t)) (room_of s))) ≡ false))
            → (place_ok (kept_in card_at wins_of (place_of t) (room_of s)) ≡ true) × (length (kept_in card_at wins_of (place_of t) (room_of s)) ≡ width)
        go (inl i) = (rw i (place_fits t o was_said), rw i (place_length t o was_said))
        go (inr (b, i, w)) = (rw i (fit_at (room_of s) [] _ cache.1 b), rw i (wide_at width (room_of s) [] _ room_wide b))

    after_wide : Wide width (room_after clock s t)
    unfolding room_after filed_in
    after_wide = set_wide width (room_of s) (taken_at card_at (is_stale clock) (card_at (place_of t)) (room_of s)) _ room_wide kept_place.1

    after_length : length (room_after clock s t) ≡ places
    unfolding room_after
    after_length = filed_length card_at (is_stale clock) wins_of (place_of t) (room_of s) ∙ room_length s

    -- the places of the buffer that it leaves
    pub after_room : room_of (buffer_of clock s t) ≡ room_after clock s t
    unfolding room_of
    after_room =
        ap (parts_of width places) filed_buffer
        ∙ ap (λ (n : ℕ). parts_of width n (flatten (room_after clock s t))) (sym after_length)
        ∙ join_parts width (room_after clock s t) after_wide

    -- no card is there twice
    after_single : Single card_at [] (room_after clock s t)
    unfolding room_after
    after_single = filed_single card_at (is_stale clock) wins_of (place_of t) (room_of s) [] takes_inside new_card cache.2

    after_fits : all_fit (room_after clock s t) ≡ true
    unfolding room_after filed_in
    after_fits = fit_set (room_of s) (taken_at card_at (is_stale clock) (card_at (place_of t)) (room_of s)) _ cache.1 kept_place.0

    -- it is a cache
    pub after_cache : is_cache (buffer_of clock s t) ≡ true
    after_cache =
        (cache_exactly (buffer_of clock s t)).1 (
          ap length filed_buffer ∙ join_length width (room_after clock s t) after_wide ∙ ap (λ (n : ℕ). width * n) after_length,
          rw after_room after_fits,
          rw after_room after_single,
        )

    -- what is written, octet by octet: the place that is taken, and nothing else
    pub after_put : buffer_of clock s t ≡ put_in s (width * takes clock s t) (kept_in card_at wins_of (place_of t) (room_of s))
    unfolding room_after filed_in room_of takes
    after_put = filed_buffer ∙ parts_put width places s _ (takes clock s t) takes_one kept_place.1 cache.0

    -- the count is that of the buffer that it leaves
    pub filed_count_lem : filed_of clock s t ≡ Ok (count card_at (room_of (buffer_of clock s t)))
    unfolding filed_of
    filed_count_lem = ap (λ (x : Option Unfiled). filed_by x (count card_at (room_after clock s t))) e ∙ ap (λ (l : List (List ℕ)). filed_by None (count card_at l)) (sym after_room)

    empty_not : (x : List ℕ) → (card_at x ≡ [] → ⊥) → is_empty card_at x ≡ false
    empty_not x h = go (is_empty card_at x) refl
      where
        go : (b : Bool) → is_empty card_at x ≡ b → is_empty card_at x ≡ false
        go true q = absurd (h (same_true (card_at x) [] q))
        go false q = q

    -- which is one more than before where an empty place is taken, else the same
    pub count_grows : (card_at (place_in s (takes clock s t)) ≡ [] → count card_at (room_of (buffer_of clock s t)) ≡ suc (count card_at (room_of s)))
        × ((card_at (place_in s (takes clock s t)) ≡ [] → ⊥) → count card_at (room_of (buffer_of clock s t)) ≡ count card_at (room_of s))
    unfolding room_after filed_in takes
    count_grows =
        let x = kept_in card_at wins_of (place_of t) (room_of s) in
        let f : is_empty card_at x ≡ false = empty_not x (λ z. new_card (sym (kept_card card_at wins_of (place_of t) (room_of s)) ∙ z)) in (
          λ z. ap (count card_at) after_room ∙ count_more card_at [] x f (room_of s) (takes clock s t) takes_inside (rw z (same_refl [])),
          λ z. ap (count card_at) after_room ∙ count_same card_at [] x f (room_of s) (takes clock s t) (empty_not (place_in s (takes clock s t)) z),
        )
