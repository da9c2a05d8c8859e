-- The line tells what asking gives: an ask the slip of the answer or a number, a list the mark of each place.
-- found_reply_lem, ask_tells; marks_at, mark_none, mark_tells.
-- The definitions are in Told, Reply and Marks; asking is in crate cache_rules. `Octets` and `Sized` hold of every value in code.
-- Assumes nothing.
use Rattle.std.specs.Prelude.{ℕ, zero, suc, ◌+◌, ◌<◌, Bool, eqb, ltb, get_or}
use Rattle.std.proofs.Common.{not-suc-le-zero, le_of_suc-le-suc, arith, sym, ◌∙◌}
use Rattle.std.proofs.Math.Path.{◌≡◌, refl, ap}
use Rattle.std.proofs.Math.Bool.{true, false, cond}
use mathlib.Core.List.{List, [], ◌∷◌}
use Rattle.std.proofs.Math.Dec.{leb}
use Rattle.std.proofs.Math.ListN.{length}
use borrow.Author.Tests.{eqb-true, leb-false, lt-ltb, le-ltb}
use Rattle.octets.specs.Octets.{Octets}
use Rattle.octets.specs.Same.{same_of}
use Rattle.freshness.specs.declared.Clock.{Clock}
use Rattle.freshness.specs.Clock.{clock_ok}
use Rattle.answer.specs.declared.Card.{Card}
use Rattle.answer.specs.declared.Answer.{Answer}
use Rattle.answer.specs.Card.{card_ok}
use Rattle.fields.specs.Field.{card_in}
use Rattle.answer.specs.Verdict.{number_of, refused}
use Rattle.slip.specs.Slip.{slip_of, Sized}
use Rattle.cache_room.specs.Room.{held_at}
use Rattle.cache_room.proofs.FirstLaws.{held_card}
use Rattle.cache_rules.specs.Place.{places, slip_in, card_at, says_at, is_said, this_of, next_of, stale_at}
use Rattle.cache_rules.proofs.FitLaws.{held_slip, full_said}
use Rattle.cache_rules.specs.Cache.{room_of, place_in, is_cache, told, not_held, ask_of}
use Rattle.cache_rules.proofs.CacheLaws.{cache_exactly, place_octets, place_fit}
use Rattle.cache_rules.proofs.HeldLaws.{card_nonempty, here_said}
use Rattle.cache_rules.specs.Has.{Has}
use Rattle.cache_rules.proofs.AskTheorem.{three}
use Rattle.cache_place.specs.TimesLaws.{place_times, late_stale}
use Rattle.cache_places.specs.Evenly.{evenly}
use Rattle.cache_places.specs.EvenlyLaws.{even_length, even_room}
use Rattle.cache_ask.specs.declared.Sought.{Sought}
use Rattle.cache_ask.specs.declared.Sought.TheVariants.{At, NotHeld, Refused}
use Rattle.cache_ask.specs.Found.{card_in_range, card_or_zeros, misses_at, found_in, ask_found, told_in}
use Rattle.cache_ask.specs.FoundLaws.{found_told_lem}
use Rattle.cache_line.specs.Marks.{mark_at, marks_of}
use Rattle.cache_line.specs.Reply.{numbered, accepted_reply, found_reply}
use Rattle.cache_line.specs.Told.{asked_reply, told_reply, asked_mark, told_mark}

-- ---- an ask

module _ (clock : Clock) (c s : List ℕ) where
  -- where the card is held, and the number of the rule that the times there miss
  abbrev h : ℕ
  h = held_at card_at c (evenly s)

  abbrev m : ℕ
  m = misses_at clock (get_or (evenly s) h [])

  -- a place that was found is one of a cache, and has the card
  found_has : (i : ℕ) → ask_found clock c s ≡ At i → (is_cache s ≡ true) × (i < places) × (card_at (get_or (evenly s) i []) ≡ c) × (c ≡ [] → ⊥)
  unfolding ask_found card_in_range found_in
  found_has i e = go (is_cache s) (clock_ok clock) (eqb (length c) 61) (card_ok (card_in 20 c)) refl refl e
    where
      inner : (q : is_cache s ≡ true) → length c ≡ 61 → (a b : Bool) → leb 64 h ≡ a → cond a NotHeld (cond b (At h) (Refused m)) ≡ At i
          → (is_cache s ≡ true) × (i < places) × (card_at (get_or (evenly s) i []) ≡ c) × (c ≡ [] → ⊥)
      inner q l true b g e = let z : ◌≡◌ {A = ℕ} 0 1 = cc e in absurd (omega arith)
      inner q l false false g e = let z : ◌≡◌ {A = ℕ} 0 1 = cc e in absurd (omega arith)
      inner q l false true g e =
          let j : h ≡ i = cc e in
          let k : h < places = leb-false 64 h g in
          (q, rw j at k, rw j at (held_card card_at c [] (evenly s) (omega (arith, even_length s))), λ z. absurd (omega (arith, ap length z)))

      go : (a b d f : Bool) → is_cache s ≡ a → eqb (length c) 61 ≡ d
          → cond a (cond b (cond (cond d f false) (found_in clock s h) (Refused 1)) (Refused 1)) (Refused 19) ≡ At i
          → (is_cache s ≡ true) × (i < places) × (card_at (get_or (evenly s) i []) ≡ c) × (c ≡ [] → ⊥)
      go false b d f q l e = let z : ◌≡◌ {A = ℕ} 0 1 = cc e in absurd (omega arith)
      go true false d f q l e = let z : ◌≡◌ {A = ℕ} 0 1 = cc e in absurd (omega arith)
      go true true false f q l e = let z : ◌≡◌ {A = ℕ} 0 1 = cc e in absurd (omega arith)
      go true true true false q l e = let z : ◌≡◌ {A = ℕ} 0 1 = cc e in absurd (omega arith)
      go true true true true q l e = inner q (eqb-true (length c) 61 l) (leb 64 h) (eqb m 0) refl e

  -- the reply by what is told of what was found
  found_reply_lem : Octets s → (f : Sought) → ask_found clock c s ≡ f → found_reply s f ≡ told_reply (told_in s f)
  unfolding found_reply told_reply asked_reply told_in told not_held is_said refused slip_of
  found_reply_lem o NotHeld e = refl
  found_reply_lem o (Refused n) e = refl
  found_reply_lem o (At i) e =
      let (q, b, h, n) = found_has i e in
      let r : evenly s ≡ room_of s = even_room s ((cache_exactly s).0 q).0 in
      let x : Octets (place_in s i) = place_octets s i b o in
      let k : is_said (says_at (place_in s i)) ≡ true = full_said (place_in s i) x (place_fit s i b q) (λ z. n (sym (rw r at h) ∙ z)) in
      rw r (slip (place_in s i) k (held_slip (place_in s i) x k).0)
    where
      slip : (p : List ℕ) → is_said (says_at p) ≡ true → slip_of (says_at p) ≡ slip_in p
          → accepted_reply (slip_in p) ≡ cond (is_said (says_at p)) (accepted_reply (slip_of (says_at p))) (numbered (number_of (says_at p).verdict))
      slip p k l = rw k (ap accepted_reply (sym l))

-- the line of an ask is that of what asking gives
pub ask_tells : (clock : Clock) (card : Card) (s : List ℕ) → Octets s → Sized 20 card
    → found_reply s (ask_found clock (card_or_zeros card) s) ≡ told_reply (ask_of clock card s)
ask_tells clock card s o h =
    found_reply_lem clock (card_or_zeros card) s o (ask_found clock (card_or_zeros card) s) refl ∙ ap told_reply (found_told_lem clock s o card h)

-- ---- a list

-- the mark of each place stands in its position
pub marks_at : (clock : Clock) (l : List (List ℕ)) (i : ℕ) → i < length l → get_or (marks_of clock l) i 0 ≡ mark_at clock (get_or l i [])
unfolding marks_of
marks_at clock [] i h = absurd (not-suc-le-zero h)
marks_at clock (p ∷ l) zero h = refl
marks_at clock (p ∷ l) (suc i) h = marks_at clock l i (le_of_suc-le-suc h)

-- an empty place
pub mark_none : (clock : Clock) (p : List ℕ) → card_at p ≡ [] → mark_at clock p ≡ 0
unfolding mark_at same_of
mark_none clock p e = rw e

some : (c : List ℕ) → (c ≡ [] → ⊥) → same_of c [] ≡ false
unfolding same_of
some [] n = absurd (n refl)
some (x ∷ c) n = refl

-- a place that has a card: what asking for the card gives
module _ (clock : Clock) (card : Card) (s : List ℕ) (o : Octets s) (c : is_cache s ≡ true) (k : clock_ok clock ≡ true) (f : card_ok card ≡ true)
    (i : ℕ) (h : Has s i card) where
  abbrev p : List ℕ
  p = place_in s i

  x : Octets (place_in s i)
  x = place_octets s i h.0 o

  full : card_at (place_in s i) ≡ [] → ⊥
  full z = card_nonempty card (sym h.1 ∙ z)

  said : is_said (says_at (place_in s i)) ≡ true
  said = here_said card s o c i h.0 h.1

  by_times : mark_at clock p
      ≡ cond (ltb clock.now (this_of (says_at p).verdict)) 15 (cond (ltb (next_of (says_at p).verdict + clock.tolerance) clock.now) 16 1)
  unfolding mark_at stale_at
  by_times = rw (some (card_at p) full, (place_times p x said).0, late_stale p x (place_fit s i h.0 c) full clock)

  pub mark_tells : mark_at clock (place_in s i) ≡ told_mark (ask_of clock card s)
  unfolding told_mark asked_mark told refused is_said
  mark_tells =
      three clock card s o c k f i h (mark_at clock (place_in s i) ≡ told_mark (ask_of clock card s))
      (λ g q. by_times ∙ rw (lt-ltb clock.now (this_of (says_at p).verdict) g) (sym (ap told_mark q)))
      (λ g l q.
      by_times
      ∙ rw (le-ltb clock.now (this_of (says_at p).verdict) g, lt-ltb (next_of (says_at p).verdict + clock.tolerance) clock.now l)
      (sym (ap told_mark q)))
      (λ g l q.
      by_times
      ∙ rw (le-ltb clock.now (this_of (says_at p).verdict) g, le-ltb (next_of (says_at p).verdict + clock.tolerance) clock.now l)
      (sym (ap told_mark q ∙ one (says_at p) said)))
    where
      one : (a : Answer) → is_said a ≡ true → told_mark (told a) ≡ 1
      one a e = rw e
