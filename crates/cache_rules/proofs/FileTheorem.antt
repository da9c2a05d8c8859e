-- Theorems of a filing that is accepted (document 02, C-11), for crate promises to cite.
-- kept, counted, count_grown, one_place, one_written; filed_own, filed_new, first_free, filed_same, filed_later,
-- filed_older, filed_either, new_says; others.
-- Refusals are in RefusalTheorem, many filings in ManyTheorem; filing and asking as against the check are in crate
-- cache_check. `filed_of clock s t` is what filing the octets t into the buffer s answers, `buffer_of clock s t` what it
-- leaves there, and `takes clock s t` the place it goes to. Assumes nothing.
use Rattle.std.specs.Prelude.{ℕ, suc, ◌*◌, ◌≤◌, ◌<◌, ◌⊎◌, ◌≡◌, true, length, None, Ok}
use Rattle.std.proofs.Common.{arith, sym, ap, ◌∙◌}
use mathlib.Core.List.{List, []}
use Rattle.octets.specs.Octets.{Octets}
use Rattle.octets.specs.Buffer.{put_in}
use Rattle.answer.specs.declared.Card.{Card}
use Rattle.slip.specs.Slip.{card_octets}
use Rattle.cache_room.specs.Room.{held_at, count, kept_in}
use Rattle.cache_room.proofs.FirstLaws.{held_none}
use Rattle.cache_room.proofs.TakenLaws.{taken_first}
use Rattle.freshness.specs.declared.Clock.{Clock}
use Rattle.cache_rules.specs.Place.{width, places, card_at, says_at, place_of, this_of, is_stale, wins_of, says_of, WholeCard}
use Rattle.cache_rules.proofs.PlaceLaws.{place_says, place_card}
use Rattle.cache_rules.specs.Cache.{room_of, place_in, is_cache, takes, filing_refusal, filed_by, filed_of, buffer_of, ask_of}
use Rattle.cache_rules.proofs.CacheLaws.{room_length}
use Rattle.cache_rules.proofs.RefusalLaws as refusal
use Rattle.cache_rules.proofs.FilingLaws as filing
use Rattle.cache_rules.proofs.AfterLaws as after
use Rattle.cache_rules.proofs.HeldLaws.{here}
use Rattle.cache_rules.specs.Has.{Has, Free, PlaceTaken}
use Rattle.cache_rules.proofs.OtherCardLaws.{others_either}

module _ (clock : Clock) (s t : List ℕ) (o : Octets t) where
  module _ (n : ℕ) (accepted : filed_of clock s t ≡ Ok n) where
    e : filing_refusal clock s t ≡ None
    e = refusal.count_accepted clock s t n accepted

    abbrev left : List ℕ
    left = buffer_of clock s t

    abbrev k : ℕ
    k = takes clock s t

    -- it leaves a cache
    pub kept : is_cache left ≡ true
    kept = filing.after_cache clock s t e o

    -- it answers how many places are then not empty
    pub counted : n ≡ count card_at (room_of left)
    counted = let h : filed_by None n ≡ filed_by None (count card_at (room_of left)) = sym accepted ∙ filing.filed_count_lem clock s t e o in cc h

    -- which is one more than before where it takes an empty place, else the same
    pub count_grown : (card_at (place_in s k) ≡ [] → n ≡ suc (count card_at (room_of s))) × ((card_at (place_in s k) ≡ [] → ⊥) → n ≡ count card_at (room_of s))
    count_grown = let (x, y) = filing.count_grows clock s t e o in (λ z. counted ∙ x z, λ z. counted ∙ y z)

    -- and writes no other place than one
    pub one_place : (k < places) × ((j : ℕ) → (j ≡ k → ⊥) → place_in left j ≡ place_in s j)
    one_place = (filing.takes_one clock s t e, after.after_same clock s t e o)

    -- 87 octets from 87 times its position, and none before or after them
    pub one_written : (x : List ℕ) × (length x ≡ width) × (left ≡ put_in s (width * k) x)
    one_written = (kept_in card_at wins_of (place_of t) (room_of s), (filing.kept_place clock s t e o).1, filing.after_put clock s t e o)

    -- its place has the card then
    pub filed_own : Has left k (says_of t).card
    filed_own = (filing.takes_one clock s t e, after.after_own clock s t e o)

    -- a card that no place has gets a place with the slip in it: the first that is empty or stale
    module _ (h : (j : ℕ) → Has s j (says_of t).card → ⊥) where
      nowhere : places ≤ held_at card_at (card_octets (says_of t).card) (room_of s)
      nowhere =
          let q = held_none card_at (card_octets (says_of t).card) [] (room_of s) (λ j b c. h j (rw (room_length s) at b, c)) in
          omega (arith, room_length s)

      pub filed_new : place_in left k ≡ place_of t
      filed_new = after.place_new clock s t e o nowhere

      pub first_free : Free clock s k × ((j : ℕ) → j < k → Free clock s j → ⊥)
      unfolding takes
      first_free =
          taken_first card_at (is_stale clock) (card_at (place_of t)) [] (room_of s)
          (rw (room_length s, place_card t o (filing.was_said clock s t e)) nowhere)
          (filing.takes_inside clock s t e)

    -- a card that a place has keeps it
    module _ (i : ℕ) (h : Has s i (says_of t).card) (p : Octets s) where
      held_here : held_at card_at (card_octets (says_of t).card) (room_of s) ≡ i
      held_here = here (says_of t).card s p (filing.was_cache clock s t e) i h.0 h.1

      pub filed_same : k ≡ i
      filed_same = after.place_held clock s t e o i h.0 held_here

      -- with the new slip, unless the one held is later: then no octet changes
      pub filed_later : this_of (says_at (place_in s i)).verdict ≤ this_of (says_of t).verdict → place_in left i ≡ place_of t
      filed_later l = ap (place_in left) (sym filed_same) ∙ after.place_later clock s t e o i h.0 held_here l

      pub filed_older : this_of (says_of t).verdict < this_of (says_at (place_in s i)).verdict → left ≡ s
      filed_older l = after.nothing_written clock s t e o i h.0 held_here l

    -- each place is as it was, or holds the new slip
    pub filed_either : (j : ℕ) → (place_in left j ≡ place_in s j) ⊎ ((j ≡ k) × (place_in left j ≡ place_of t))
    filed_either = after.after_either clock s t e o

    -- what the place of a slip says
    pub new_says : says_at (place_of t) ≡ says_of t
    new_says = place_says t o (filing.was_said clock s t e)

  -- ── other cards ──

  -- asking for another card gives at any time and with any tolerance what it gave before; or its place was stale at the
  -- filing's time and is the one taken, and no place has it then. A refused filing changes nothing
  pub others : (card : Card) → WholeCard card → (card ≡ (says_of t).card → ⊥)
      → ((later : Clock) → ask_of later card (buffer_of clock s t) ≡ ask_of later card s) ⊎ PlaceTaken clock s t card
  others = others_either clock s t o
