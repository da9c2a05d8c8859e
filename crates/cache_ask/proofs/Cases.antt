-- What the code knows at each return, and what follows there.
-- card_short, card_long; misses; found_none, found_here, found_missed; find_19, find_clock, find_card, find_there;
-- tell_here, tell_none, tell_refused, tell_says; card_slip, asks; found_cases, find_cases, tell_cases.
-- Assumes nothing.
use Prim.Native.Nat.{ℕ, ◌-◌, ◌≤◌, ◌<◌}
use mathlib.Core.Path.{◌≡◌, refl, sym, ap, ◌∙◌}
use mathlib.Core.Bool.{Bool, true, false, not}
use mathlib.Core.List.{List, []}
use Rattle.std.specs.Prelude.{None, Some}
use lib.ListN.{length, get_or, take, drop, replicate}
use borrow.Author.Tests.{eq-eqb, ne_eqb, le-leb, lt-leb, not-true, not-false}
use mir.Syntax.{w8}
use mir.Val.{Fits}
use Rattle.octets.specs.OctetsLaws.{octets_from}
use Rattle.freshness.specs.declared.Clock.{Clock}
use Rattle.freshness.specs.Clock.{clock_ok}
use Rattle.freshness.specs.Fresh.{Freshness, fresh_of, fresh_refusal}
use Rattle.answer.specs.declared.Card.{Card}
use Rattle.answer.specs.declared.Answer.{Answer}
use Rattle.answer.specs.Card.{card_ok, empty_card}
use Rattle.answer.specs.Verdict.{refused}
use Rattle.fields.specs.Field.{card_in}
use Rattle.fields.specs.Output.{output_in}
use Rattle.slip.specs.Slip.{slip_of, slip_refusal, read_of, Sized}
use Rattle.cache_room.specs.Room.{held_at}
use Rattle.cache_rules.specs.declared.Told.{Told}
use Rattle.cache_rules.specs.Place.{slip_in, card_at, says_at}
use Rattle.cache_rules.specs.Cache.{is_cache, told, not_held, ask_of}
use Rattle.cache_place.specs.Times.{this_at, next_at}
use Rattle.cache_places.specs.Evenly.{evenly}
use Rattle.cache_ask.specs.declared.Sought.{Sought}
use Rattle.cache_ask.specs.declared.Sought.TheVariants.{At, NotHeld, Refused}
use Rattle.cache_ask.specs.Found.{card_in_range, card_or_zeros, misses_at, found_in, ask_found, told_in}
use Rattle.cache_ask.specs.FoundLaws.{good, slip_card, found_told_lem}

-- ---- a card's octets

module _ (c : List ℕ) where
  pub card_short : (length c ≡ 61 → ⊥) → false ≡ card_in_range c
  unfolding card_in_range
  card_short h = sym (rw (ne_eqb (length c) 61 h))

  pub card_long : length c ≡ 61 → (card : Card) → card ≡ card_in 20 c → (b : Bool) → b ≡ card_ok card → b ≡ card_in_range c
  unfolding card_in_range
  card_long h card e b f = sym (rw (eq-eqb (length c) 61 h, ← e) (sym f))

-- ---- its times

pub misses : (clock : Clock) (p : List ℕ) (this next : ℕ) → this ≡ this_at p → next ≡ next_at p
    → (fresh : Freshness) → fresh ≡ fresh_of this (Some next) clock.now clock.tolerance → (r : ℕ) → r ≡ fresh_refusal fresh → r ≡ misses_at clock p
unfolding misses_at
misses clock p this next a b fresh e r f = f ∙ ap fresh_refusal e ∙ rw (a, b)

-- ---- a place

module _ (clock : Clock) (s : List ℕ) (i : ℕ) where
  pub found_none : 64 ≤ i → NotHeld ≡ found_in clock s i
  unfolding found_in
  found_none h = sym (rw (le-leb 64 i h))

  module _ (h : i < 64) (p : List ℕ) (e : p ≡ get_or (evenly s) i []) (n : ℕ) (f : n ≡ misses_at clock p) where
    pub found_here : n ≡ 0 → At i ≡ found_in clock s i
    unfolding found_in
    found_here z = sym (rw (lt-leb 64 i h, ← e, ← f, eq-eqb n 0 z))

    pub found_missed : (n ≡ 0 → ⊥) → Refused n ≡ found_in clock s i
    unfolding found_in
    found_missed z = sym (rw (lt-leb 64 i h, ← e, ← f, ne_eqb n 0 z))

-- ---- the order of refusals

module _ (clock : Clock) (c s : List ℕ) (a : Bool) (e : a ≡ is_cache s) where
  pub find_19 : not a ≡ true → Refused 19 ≡ ask_found clock c s
  unfolding ask_found
  find_19 h = sym (rw (← e, not-true a h))

  module _ (h : not a ≡ false) (b : Bool) (f : b ≡ clock_ok clock) where
    pub find_clock : not b ≡ true → Refused 1 ≡ ask_found clock c s
    unfolding ask_found
    find_clock g = sym (rw (← e, not-false a h, ← f, not-true b g))

    module _ (g : not b ≡ false) (d : Bool) (q : d ≡ card_in_range c) where
      pub find_card : not d ≡ true → Refused 1 ≡ ask_found clock c s
      unfolding ask_found
      find_card k = sym (rw (← e, not-false a h, ← f, not-false b g, ← q, not-true d k))

      pub find_there : not d ≡ false → (i : ℕ) → i ≡ held_at card_at c (evenly s) → (r : Sought) → r ≡ found_in clock s i → r ≡ ask_found clock c s
      unfolding ask_found
      find_there k i p r o = o ∙ ap (found_in clock s) p ∙ sym (rw (← e, not-false a h, ← f, not-false b g, ← q, not-false d k))

-- ---- what is told

pub tell_here : (s : List ℕ) (found : Sought) (i : ℕ) → found ≡ At i → (p : List ℕ) → p ≡ get_or (evenly s) i [] → (t : List ℕ) → t ≡ slip_in p
    → (a : Answer) → a ≡ read_of 20 t → (r : Told) → r ≡ told a → r ≡ told_in s found
unfolding told_in says_at
tell_here s found i e p f t g a h r q = q ∙ ap told (h ∙ ap (read_of 20) (g ∙ ap slip_in f)) ∙ ap (told_in s) (sym e)

pub tell_none : (s : List ℕ) (found : Sought) → found ≡ NotHeld → (card : Card) → card ≡ empty_card
    → record { asked = None; card = card } ≡ told_in s found
unfolding told_in not_held
tell_none s found e card f = ap (λ (x : Card). record { asked = None; card = x }) f ∙ ap (told_in s) (sym e)

pub tell_refused : (s : List ℕ) (found : Sought) (n : ℕ) → found ≡ Refused n → (a : Answer) → a ≡ refused n 0 → (r : Told) → r ≡ told a → r ≡ told_in s found
unfolding told_in
tell_refused s found n e a f r q = q ∙ ap told f ∙ ap (told_in s) (sym e)

pub tell_says : (a : Answer) → record { asked = Some a.verdict; card = a.card } ≡ told a
unfolding told
tell_says a = refl

-- ---- the card in its slip, and asking

module _ (card : Card) (a : length card.name ≡ 20) (b : length card.key ≡ 20) (c : length card.serial ≡ 20) where
  sized : Sized 20 card
  sized = record { name = a; key = b; serial = c }

  pub card_slip : (out : List ℕ) → out ≡ output_in (slip_refusal (good card)) (replicate 78 0) (slip_of (good card)) → take 61 (drop 1 out) ≡ card_or_zeros card
  card_slip out e = ap (λ (x : List ℕ). take 61 (drop 1 x)) e ∙ slip_card card sized

  pub asks : (clock : Clock) (s : List ℕ) → ((i : ℕ) → Fits w8 (get_or s i 0)) → (slip : List ℕ) → take 61 (drop 1 slip) ≡ card_or_zeros card
      → (found : Sought) → found ≡ ask_found clock (take (62 - 1) (drop 1 slip)) s → (r : Told) → r ≡ told_in s found → r ≡ ask_of clock card s
  asks clock s known slip e found f r q =
      q ∙ ap (told_in s) (f ∙ ap (λ (x : List ℕ). ask_found clock x s) e) ∙ found_told_lem clock s (octets_from s (λ i l. (known i).fits)) card sized

-- ---- what each function needs

pub ruleset found_cases = (found_none, found_here, found_missed)

pub ruleset find_cases = (find_19, find_clock, find_card, find_there)

pub ruleset tell_cases = (tell_here, tell_none, tell_refused)
