-- Laws of the buffer after a filing that is accepted: place by place, and its octets.
-- after_same, after_own, after_either; new_kept, place_new, place_held, later_kept, place_later, place_older,
-- nothing_written; after_octets.
-- The definitions are in Cache. Assumes nothing.
use Rattle.std.specs.Prelude.{ℕ, zero, suc, ◌+◌, ◌*◌, ◌-◌, ◌≤◌, ◌<◌, ◌⊎◌, ◌≡◌, refl, Bool, true, false, cond, eqb, length, take, set, replicate, None}
use Rattle.std.proofs.Common.{inl, inr, ⊎_elim, sym, ◌∙◌, lit<}
use Rattle.std.proofs.Math.Path.{ap}
use mathlib.Core.List.{List, [], flatten}
use Rattle.std.proofs.Math.Seq.{set-get_or}
use borrow.Author.Tests.{le-leb, lt-leb, eqb-true, eqb-false}
use Rattle.octets.specs.Octets.{Octets}
use Rattle.octets.specs.OctetsLaws.{octets_append, octets_take, octets_drop}
use Rattle.octets.specs.Buffer.{room_for, put_in, splice}
use Rattle.slip.specs.Slip.{card_octets}
use Rattle.cache_room.proofs.PartsLaws.{parts_join}
use Rattle.cache_room.specs.Room.{held_at, kept_in, filed_in}
use Rattle.cache_room.proofs.TakenLaws.{taken_held}
use Rattle.cache_room.proofs.FiledLaws.{kept_held, kept_new, kept_either, kept_card, filed_at, filed_same}
use Rattle.freshness.specs.declared.Clock.{Clock}
use Rattle.cache_rules.specs.Place.{width, places, card_at, says_at, place_of, this_of, is_stale, wins_of, says_of}
use Rattle.cache_rules.proofs.PlaceLaws.{place_says, place_card}
use Rattle.cache_rules.specs.Cache.{room_of, place_in, takes, filing_refusal, room_after, buffer_of}
use Rattle.cache_rules.proofs.CacheLaws.{cache_exactly, room_length, place_octets}
use Rattle.cache_rules.proofs.RefusalLaws.{accepted_or_left}
use Rattle.cache_rules.proofs.FilingLaws.{filed_buffer, was_cache, was_said, takes_inside, after_room, after_put}

-- zeros are octets
zeros : (n : ℕ) → Octets (replicate n 0)
zeros zero = tt
zeros (suc n) = (lit< tt, zeros n)

new_octets : (t : List ℕ) → Octets t → Octets (place_of t)
unfolding place_of
new_octets t o = octets_append t _ o (zeros (width - length t))

put_octets : (s x : List ℕ) (at : ℕ) → Octets s → Octets x → Octets (put_in s at x)
unfolding put_in
put_octets s x at p q = go (room_for (length s) at (length x))
  where
    go : (t : Bool) → Octets (cond t (splice s at x) s)
    go true = octets_append (take at s) _ (octets_take at s p) (octets_append x _ q (octets_drop (at + length x) s p))
    go false = p

module _ (clock : Clock) (s t : List ℕ) (e : filing_refusal clock s t ≡ None) (o : Octets t) where
  abbrev after : List ℕ
  after = buffer_of clock s t

  abbrev k : ℕ
  k = takes clock s t

  -- the octets of the card that is filed
  abbrev own : List ℕ
  own = card_octets (says_of t).card

  own_card : card_at (place_of t) ≡ own
  own_card = place_card t o (was_said clock s t e)

  -- no other place changes
  pub after_same : (j : ℕ) → (j ≡ k → ⊥) → place_in after j ≡ place_in s j
  unfolding room_after takes
  after_same j h = rw (after_room clock s t e o) (filed_same card_at (is_stale clock) wins_of (place_of t) (room_of s) [] j h)

  kept_at : place_in after k ≡ kept_in card_at wins_of (place_of t) (room_of s)
  unfolding room_after takes
  kept_at = rw (after_room clock s t e o) (filed_at card_at (is_stale clock) wins_of (place_of t) (room_of s) [] (takes_inside clock s t e))

  -- the place taken has the card
  pub after_own : card_at (place_in after k) ≡ own
  after_own = ap card_at kept_at ∙ kept_card card_at wins_of (place_of t) (room_of s) ∙ own_card

  -- a card that was not held: its place holds the new slip
  pub new_kept : places ≤ held_at card_at own (room_of s) → kept_in card_at wins_of (place_of t) (room_of s) ≡ place_of t
  new_kept h = kept_new card_at wins_of (place_of t) (room_of s) (rw (own_card, room_length s) h)

  pub place_new : places ≤ held_at card_at own (room_of s) → place_in after k ≡ place_of t
  place_new h = kept_at ∙ new_kept h

  module _ (i : ℕ) (b : i < places) (h : held_at card_at own (room_of s) ≡ i) where
    held_at_lem : held_at card_at (card_at (place_of t)) (room_of s) ≡ i
    held_at_lem = rw own_card h

    inside : held_at card_at (card_at (place_of t)) (room_of s) < length (room_of s)
    inside = rw (held_at_lem, room_length s) b

    -- one that was held keeps its place
    pub place_held : k ≡ i
    unfolding takes
    place_held = taken_held card_at (is_stale clock) (card_at (place_of t)) (room_of s) inside ∙ held_at_lem

    winner_at : kept_in card_at wins_of (place_of t) (room_of s) ≡ cond (wins_of (place_of t) (place_in s i)) (place_of t) (place_in s i)
    winner_at = rw held_at_lem at (kept_held card_at wins_of (place_of t) (room_of s) [] inside)

    -- which holds the new slip where the one held is not later
    pub later_kept : this_of (says_at (place_in s i)).verdict ≤ this_of (says_of t).verdict → kept_in card_at wins_of (place_of t) (room_of s) ≡ place_of t
    unfolding wins_of
    later_kept l = winner_at ∙ rw (place_says t o (was_said clock s t e), le-leb _ _ l)

    pub place_later : this_of (says_at (place_in s i)).verdict ≤ this_of (says_of t).verdict → place_in after k ≡ place_of t
    place_later l = kept_at ∙ later_kept l

    -- else the one held
    pub place_older : this_of (says_of t).verdict < this_of (says_at (place_in s i)).verdict → kept_in card_at wins_of (place_of t) (room_of s) ≡ place_in s i
    unfolding wins_of
    place_older l = winner_at ∙ rw (place_says t o (was_said clock s t e), lt-leb _ _ l)

    -- and no octet changes
    pub nothing_written : this_of (says_of t).verdict < this_of (says_at (place_in s i)).verdict → after ≡ s
    unfolding room_after filed_in room_of takes
    nothing_written l =
        filed_buffer clock s t e
        ∙ ap flatten
        (ap (set (room_of s) k) (place_older l ∙ ap (place_in s) (sym place_held)) ∙ set-get_or (room_of s) k [])
        ∙ parts_join width places s ((cache_exactly s).0 (was_cache clock s t e)).0

  at_held : held_at card_at (card_at (place_of t)) (room_of s) < length (room_of s) → k ≡ held_at card_at (card_at (place_of t)) (room_of s)
  unfolding takes
  at_held h = taken_held card_at (is_stale clock) (card_at (place_of t)) (room_of s) h

  -- each place is as it was, or holds the new slip
  pub after_either : (j : ℕ) → (place_in after j ≡ place_in s j) ⊎ ((j ≡ k) × (place_in after j ≡ place_of t))
  after_either j = go (eqb j k) refl
    where
      at_k : (j ≡ k) → (place_in after j ≡ place_in s j) ⊎ ((j ≡ k) × (place_in after j ≡ place_of t))
      at_k q =
          ⊎_elim
          (λ (n : kept_in card_at wins_of (place_of t) (room_of s) ≡ place_of t). inr (q, ap (place_in after) q ∙ kept_at ∙ n))
          (λ m. inl (ap (place_in after) q ∙ kept_at ∙ m.1 ∙ ap (place_in s) (sym (q ∙ at_held m.0))))
          (kept_either card_at wins_of (place_of t) (room_of s) [])

      go : (u : Bool) → eqb j k ≡ u → (place_in after j ≡ place_in s j) ⊎ ((j ≡ k) × (place_in after j ≡ place_of t))
      go true q = at_k (eqb-true j k q)
      go false q = inl (after_same j (eqb-false j k q))

-- what is left are octets
pub after_octets : (clock : Clock) (s t : List ℕ) → Octets s → Octets t → Octets (buffer_of clock s t)
after_octets clock s t p o =
    ⊎_elim
    (λ (e : filing_refusal clock s t ≡ None). rw (after_put clock s t e o) (put_octets s _ (width * takes clock s t) p (kept e)))
    (λ (e : buffer_of clock s t ≡ s). rw e p)
    (accepted_or_left clock s t)
  where
    kept : filing_refusal clock s t ≡ None → Octets (kept_in card_at wins_of (place_of t) (room_of s))
    kept e =
        ⊎_elim
        (λ (n : kept_in card_at wins_of (place_of t) (room_of s) ≡ place_of t). rw n (new_octets t o))
        (λ m. rw m.1 (place_octets s (held_at card_at (card_at (place_of t)) (room_of s)) (rw (room_length s) at m.0) p))
        (kept_either card_at wins_of (place_of t) (room_of s) [])
