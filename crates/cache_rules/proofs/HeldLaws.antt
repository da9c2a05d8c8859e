-- Laws of asking for a card by the place that has it.
-- card_nonempty; here, here_said, here_times, somewhere; ask_nowhere, ask_here, ask_early, ask_late, ask_within,
-- ask_three.
-- The definitions are in Cache. Assumes nothing.
use Rattle.std.specs.Prelude.{ℕ, ◌+◌, ◌≤◌, ◌<◌, ◌⊎◌, ◌≡◌, refl, Bool, true, false, List, [], ◌++◌, ltb, length}
use Rattle.std.proofs.Common.{arith, inl, inr, sym, ap, ◌∙◌, append-nil, length-append, ltb-true, ltb-false}
use Rattle.octets.specs.Octets.{Octets}
use Rattle.octets.specs.Number.{octets_of}
use Rattle.octets.specs.NumberLaws.{octets_length}
use Rattle.answer.specs.declared.Card.{Card}
use Rattle.answer.specs.Card.{card_ok}
use Rattle.answer.specs.Verdict.{refused}
use Rattle.slip.specs.Slip.{card_octets}
use Rattle.slip.specs.CardOctetsLaws.{card_octets_lem}
use Rattle.cache_room.specs.Room.{held_at}
use Rattle.cache_room.proofs.FirstLaws.{held_card, held_none}
use Rattle.cache_room.proofs.SingleLaws.{held_single}
use Rattle.freshness.specs.declared.Clock.{Clock}
use Rattle.cache_rules.specs.Place.{places, card_at, says_at, is_said, this_of, next_of}
use Rattle.cache_rules.proofs.FitLaws.{full_said, full_times}
use Rattle.freshness.specs.Clock.{clock_ok}
use Rattle.cache_rules.specs.Cache.{room_of, place_in, is_cache, told, not_held, said_at, ask_of}
use Rattle.cache_rules.proofs.CacheLaws.{cache_exactly, room_length, place_octets, place_fit}
use Rattle.cache_rules.proofs.AskLaws.{ask_none, ask_held, said_early, said_late, said_within}

-- a card has octets
pub card_nonempty : (card : Card) → card_octets card ≡ [] → ⊥
card_nonempty card e =
    let z = ap length (sym (card_octets_lem card []) ∙ append-nil (card_octets card) ∙ e) in
    omega (
      arith,
      length-append card.name (card.key ++ (octets_of 1 card.size ++ (card.serial ++ []))),
      length-append card.key (octets_of 1 card.size ++ (card.serial ++ [])),
      length-append (octets_of 1 card.size) (card.serial ++ []),
      octets_length 1 card.size,
    )

module _ (card : Card) (s : List ℕ) (o : Octets s) (c : is_cache s ≡ true) where
  -- the place that has the card
  module _ (i : ℕ) (b : i < places) (e : card_at (place_in s i) ≡ card_octets card) where
    pub here : held_at card_at (card_octets card) (room_of s) ≡ i
    here =
        rw e
        at
        (held_single card_at [] (room_of s) ((cache_exactly s).0 c).2 i (rw (room_length s) b) (λ z. card_nonempty card (sym e ∙ z)))

    pub here_said : is_said (says_at (place_in s i)) ≡ true
    here_said = full_said (place_in s i) (place_octets s i b o) (place_fit s i b c) (λ z. card_nonempty card (sym e ∙ z))

    pub here_times : this_of (says_at (place_in s i)).verdict ≤ next_of (says_at (place_in s i)).verdict
    here_times = full_times (place_in s i) (place_octets s i b o) (place_fit s i b c) (λ z. card_nonempty card (sym e ∙ z))

  -- some place has it, or none
  pub somewhere : ((i : ℕ) × (i < places) × (card_at (place_in s i) ≡ card_octets card)) ⊎ (places ≤ held_at card_at (card_octets card) (room_of s))
  somewhere = go (ltb (held_at card_at (card_octets card) (room_of s)) places) refl
    where
      go : (t : Bool) → ltb (held_at card_at (card_octets card) (room_of s)) places ≡ t
          → ((i : ℕ) × (i < places) × (card_at (place_in s i) ≡ card_octets card)) ⊎ (places ≤ held_at card_at (card_octets card) (room_of s))
      go true q =
          let b = ltb-true (held_at card_at (card_octets card) (room_of s)) places q in
          inl (held_at card_at (card_octets card) (room_of s), b, held_card card_at (card_octets card) [] (room_of s) (rw (room_length s) b))
      go false q = inr (ltb-false (held_at card_at (card_octets card) (room_of s)) places q)

  module _ (clock : Clock) (k : clock_ok clock ≡ true) (f : card_ok card ≡ true) where
    -- where no place has it, it is not held
    pub ask_nowhere : ((i : ℕ) → i < places → card_at (place_in s i) ≡ card_octets card → ⊥) → ask_of clock card s ≡ not_held
    ask_nowhere h =
        ask_none clock card s c k f
        (let e = held_none card_at (card_octets card) [] (room_of s) (λ i b. h i (rw (room_length s) at b)) in omega (arith, room_length s))

    module _ (i : ℕ) (b : i < places) (e : card_at (place_in s i) ≡ card_octets card) where
      pub ask_here : ask_of clock card s ≡ told (said_at clock (says_at (place_in s i)))
      ask_here = ask_held clock card s c k f i b (here i b e)

      abbrev this : ℕ
      this = this_of (says_at (place_in s i)).verdict

      abbrev next : ℕ
      next = next_of (says_at (place_in s i)).verdict

      -- 15 before thisUpdate, 16 past nextUpdate plus tolerance, else what the slip says
      pub ask_early : clock.now < this → ask_of clock card s ≡ told (refused 15 0)
      ask_early h = ask_here ∙ ap told (said_early clock (says_at (place_in s i)) (here_times i b e) h)

      pub ask_late : this ≤ clock.now → next + clock.tolerance < clock.now → ask_of clock card s ≡ told (refused 16 0)
      ask_late g h = ask_here ∙ ap told (said_late clock (says_at (place_in s i)) (here_times i b e) g h)

      pub ask_within : this ≤ clock.now → clock.now ≤ next + clock.tolerance → ask_of clock card s ≡ told (says_at (place_in s i))
      ask_within g h = ask_here ∙ ap told (said_within clock (says_at (place_in s i)) (here_times i b e) g h)

      -- one of the three
      pub ask_three : (P : Type 0)
          → (clock.now < this → P)
          → (this ≤ clock.now → next + clock.tolerance < clock.now → P)
          → (this ≤ clock.now → clock.now ≤ next + clock.tolerance → P)
          → P
      ask_three P early late within = go (ltb clock.now this) (ltb (next + clock.tolerance) clock.now) refl refl
        where
          go : (t u : Bool) → ltb clock.now this ≡ t → ltb (next + clock.tolerance) clock.now ≡ u → P
          go true u p q = early (ltb-true clock.now this p)
          go false true p q = late (ltb-false clock.now this p) (ltb-true (next + clock.tolerance) clock.now q)
          go false false p q = within (ltb-false clock.now this p) (ltb-false (next + clock.tolerance) clock.now q)
