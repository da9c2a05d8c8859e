-- A filing in parts is the filing: in a cache, for a slip that may be filed, at a time in range.
-- own_card; held_filed_lem, held_left; new_filed_lem, new_left.
-- The definitions are in Put, the filing in crate cache_rules. Assumes nothing.
use Rattle.std.specs.Prelude.{ℕ, ◌*◌, ◌≤◌, ◌<◌, ◌≡◌, Bool, get_or, None, Some, Ok, Err}
use Rattle.std.proofs.Common.{arith, ◌∙◌}
use Rattle.std.proofs.Math.Path.{refl, sym, ap}
use Rattle.std.proofs.Math.Bool.{true, false, cond}
use mathlib.Core.List.{List, [], append-nil}
use Rattle.std.proofs.Math.Dec.{leb, ltb}
use borrow.Author.Tests.{lt-ltb, le-ltb, ltb-true, ltb-false, leb-true, leb-false}
use Rattle.octets.specs.Octets.{Octets}
use Rattle.octets.specs.SameLaws.{same_false}
use Rattle.octets.specs.Buffer.{put_in}
use Rattle.freshness.specs.declared.Clock.{Clock}
use Rattle.freshness.specs.Clock.{clock_ok}
use Rattle.slip.specs.Slip.{card_octets}
use Rattle.cache_room.specs.Room.{is_empty, held_at, count, is_free, free_at, kept_in}
use Rattle.cache_room.proofs.FirstLaws.{first_same, held_card}
use Rattle.cache_room.proofs.TakenLaws.{taken_held, taken_free}
use Rattle.cache_rules.specs.declared.Unfiled.TheVariants as unfiled
use Rattle.cache_rules.specs.Place.{places, card_at, says_at, is_said, place_of, this_of, is_stale, wins_of, says_of}
use Rattle.cache_rules.proofs.PlaceLaws.{place_card, card_there, card_some}
use Rattle.cache_rules.proofs.FitLaws.{full_said}
use Rattle.cache_rules.specs.Cache.{room_of, place_in, is_cache, takes, filing_refusal, filed_by, filed_of, buffer_of}
use Rattle.cache_rules.proofs.CacheLaws.{cache_exactly, room_length, place_octets, place_fit}
use Rattle.cache_rules.proofs.RefusalLaws.{refusal_exactly, filed_refused}
use Rattle.cache_rules.proofs.FilingLaws.{after_cache, after_put, filed_count_lem}
use Rattle.cache_rules.proofs.AfterLaws.{new_kept, later_kept, nothing_written}
use Rattle.cache_place.specs.Times.{this_at, late_at}
use Rattle.cache_place.specs.TimesLaws.{slip_times, place_times, late_stale}
use Rattle.cache_places.specs.Evenly.{evenly}
use Rattle.cache_places.specs.EvenlyLaws.{even_room}
use Rattle.cache_file.specs.Put.{held_filed, buffer_held, new_at, new_filed, new_in}

module _ (clock : Clock) (s t : List ℕ) (p : Octets s) (o : Octets t) (c : is_cache s ≡ true) (k : clock_ok clock ≡ true) (d : is_said (says_of t) ≡ true) where
  room : evenly s ≡ room_of s
  room = even_room s ((cache_exactly s).0 c).0

  -- the card of the slip, alone and in a place
  alone : card_at t ≡ card_octets (says_of t).card
  alone = ap card_at (sym (append-nil t)) ∙ card_there t o d []

  own_card : card_at t ≡ card_at (place_of t)
  own_card = alone ∙ sym (place_card t o d)

  -- its thisUpdate
  own_this : this_at t ≡ this_of (says_of t).verdict
  own_this = ap this_at (sym (append-nil t)) ∙ (slip_times t o d []).0

  -- ---- accepted: what is left, and its count

  module _ (e : filing_refusal clock s t ≡ None) where
    after : evenly (buffer_of clock s t) ≡ room_of (buffer_of clock s t)
    after = even_room (buffer_of clock s t) ((cache_exactly (buffer_of clock s t)).0 (after_cache clock s t e o)).0

    counted : (x : List ℕ) → x ≡ buffer_of clock s t → Ok (count card_at (evenly x)) ≡ filed_of clock s t
    counted x q = ap (λ (y : List ℕ). filed_by None (count card_at (evenly y))) q ∙ ap (λ (l : List (List ℕ)). filed_by None (count card_at l)) after ∙ sym (filed_count_lem clock s t e o)

    written : (i : ℕ) → takes clock s t ≡ i → kept_in card_at wins_of (place_of t) (room_of s) ≡ place_of t → put_in s (87 * i) (place_of t) ≡ buffer_of clock s t
    written i q w = sym (after_put clock s t e o ∙ rw (q, w))

  -- ---- a card that has a place

  module _ (i : ℕ) (h : i ≡ held_at card_at (card_at t) (evenly s)) (b : i < 64) where
    held : held_at card_at (card_at t) (room_of s) ≡ i
    held = ap (held_at card_at (card_at t)) (sym room) ∙ sym h

    there : held_at card_at (card_octets (says_of t).card) (room_of s) ≡ i
    there = ap (λ (x : List ℕ). held_at card_at x (room_of s)) (sym alone) ∙ held

    taken : takes clock s t ≡ i
    unfolding takes
    taken =
        let q : held_at card_at (card_at (place_of t)) (room_of s) ≡ i = ap (λ (x : List ℕ). held_at card_at x (room_of s)) (sym own_card) ∙ held in
        taken_held card_at (is_stale clock) (card_at (place_of t)) (room_of s) (omega (arith, room_length s)) ∙ q

    accepted : filing_refusal clock s t ≡ None
    accepted = (refusal_exactly clock s t).4.1 (c, k, d, lt-ltb (takes clock s t) places (omega (arith, taken)))

    -- the slip that the place holds, and its thisUpdate
    has : card_at (place_in s i) ≡ card_octets (says_of t).card
    has = rw there at (held_card card_at (card_octets (says_of t).card) [] (room_of s) (omega (arith, there, room_length s)))

    held_this : this_at (get_or (evenly s) i []) ≡ this_of (says_at (place_in s i)).verdict
    held_this =
        let x = place_octets s i b p in
        ap (λ (l : List (List ℕ)). this_at (get_or l i [])) room
        ∙ (place_times (place_in s i) x (full_said (place_in s i) x (place_fit s i b c) (λ z. card_some t (sym has ∙ z)))).0

    pub held_left : buffer_held s i t ≡ buffer_of clock s t
    unfolding buffer_held
    held_left = go (ltb (this_at t) (this_at (get_or (evenly s) i []))) refl
      where
        go : (u : Bool) → ltb (this_at t) (this_at (get_or (evenly s) i [])) ≡ u → cond u s (put_in s (87 * i) (place_of t)) ≡ buffer_of clock s t
        go true q =
            let l = ltb-true (this_at t) (this_at (get_or (evenly s) i [])) q in
            sym (nothing_written clock s t accepted o i b there (rw (own_this, held_this) at l))
        go false q =
            let l = ltb-false (this_at t) (this_at (get_or (evenly s) i [])) q in
            written accepted i taken (later_kept clock s t accepted o i b there (rw (own_this, held_this) at l))

    pub held_filed_lem : held_filed s i t ≡ filed_of clock s t
    unfolding held_filed
    held_filed_lem = counted accepted (buffer_held s i t) held_left

  -- ---- a card that has none

  module _ (h : 64 ≤ held_at card_at (card_at t) (evenly s)) where
    nowhere : places ≤ held_at card_at (card_octets (says_of t).card) (room_of s)
    nowhere = rw (room, alone) at h

    -- late and stale are the same here
    free : new_at clock s t ≡ free_at card_at (is_stale clock) (room_of s)
    unfolding new_at free_at
    free =
        ap (λ (l : List (List ℕ)). free_at card_at (late_at clock) l) room
        ∙ first_same (is_free card_at (late_at clock)) (is_free card_at (is_stale clock)) [] (room_of s) (λ j b. agree j (rw (room_length s) at b) (is_empty card_at (place_in s j)) refl)
      where
        agree : (j : ℕ) → j < places → (u : Bool) → is_empty card_at (place_in s j) ≡ u
            → cond u true (late_at clock (place_in s j)) ≡ cond u true (is_stale clock (place_in s j))
        agree j b true q = refl
        agree j b false q = late_stale (place_in s j) (place_octets s j b p) (place_fit s j b c) (same_false (card_at (place_in s j)) [] q) clock

    taken_new : takes clock s t ≡ new_at clock s t
    unfolding takes
    taken_new =
        taken_free card_at (is_stale clock) (card_at (place_of t)) (room_of s) (rw (room_length s, place_card t o d) nowhere) ∙ sym free

    full : 64 ≤ new_at clock s t → filing_refusal clock s t ≡ Some unfiled.Full
    full l = (refusal_exactly clock s t).3.1 (c, k, d, le-ltb (takes clock s t) places (omega (arith, taken_new)))

    accepted_new : new_at clock s t < 64 → filing_refusal clock s t ≡ None
    accepted_new l = (refusal_exactly clock s t).4.1 (c, k, d, lt-ltb (takes clock s t) places (omega (arith, taken_new)))

    pub new_left : new_in clock s t ≡ buffer_of clock s t
    unfolding new_in
    new_left = go (leb 64 (new_at clock s t)) refl
      where
        go : (u : Bool) → leb 64 (new_at clock s t) ≡ u → cond u s (put_in s (87 * new_at clock s t) (place_of t)) ≡ buffer_of clock s t
        go true q = let r = full (leb-true 64 (new_at clock s t) q) in sym (filed_refused clock s t unfiled.Full r).1
        go false q =
            let e = accepted_new (leb-false 64 (new_at clock s t) q) in
            written e (new_at clock s t) taken_new (new_kept clock s t e o nowhere)

    pub new_filed_lem : new_filed clock s t ≡ filed_of clock s t
    unfolding new_filed
    new_filed_lem = go (leb 64 (new_at clock s t)) refl
      where
        go : (u : Bool) → leb 64 (new_at clock s t) ≡ u → cond u (Err unfiled.Full) (Ok (count card_at (evenly (new_in clock s t)))) ≡ filed_of clock s t
        go true q = sym (filed_refused clock s t unfiled.Full (full (leb-true 64 (new_at clock s t) q))).0
        go false q = counted (accepted_new (leb-false 64 (new_at clock s t) q)) (new_in clock s t) new_left
