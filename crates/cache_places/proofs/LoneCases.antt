-- No card twice: what one place more tells, by the marks that were met and by the cards themselves.
-- lone_empty, marks_empty; lone_met; mark_inside, marks_next, lone_new; Apart, apart_start, marks_start, apart_stop, apart_next,
-- apart_end; lone_cases, apart_turns.
-- Assumes nothing.
use Prim.Native.Nat.{ℕ, suc, ◌+◌, ◌≤◌, ◌<◌}
use native.Mathlib.Nat.{not-suc-le-zero, mod-lt}
use native.Mathlib.Omega.{arith}
use mathlib.Core.Path.{◌≡◌, refl, sym, ap, ◌∙◌}
use mathlib.Core.Bool.{Bool, true, false, cond, not}
use mathlib.Core.List.{List, []}
use lib.Dec.{eqb, leb}
use lib.ListN.{length, get_or, set, take, replicate, length-set, length-replicate}
use lib.Seq.{length-take-le, get_or-take, get_or-set_same, get_or-set_other}
use borrow.Author.Tests.{eqb-true, eqb-false, le-leb, leb-true, leb-false, not-true, not-false}
use Rattle.octets.specs.SameLaws.{impossible, same_true, same_false}
use Rattle.cache_room.specs.Room.{is_empty, held_at, cards_once}
use Rattle.cache_room.proofs.FirstLaws.{held_card, held_there, held_none}
use Rattle.cache_room.proofs.SingleLaws.{single_true, single_from}
use Rattle.cache_rules.specs.Place.{card_at}
use Rattle.cache_places.specs.Evenly.{evenly}
use Rattle.cache_places.specs.EvenlyLaws.{even_length}
use Rattle.cache_places.specs.Marks.{mark_of, Marked, lone_of}
use Rattle.cache_places.proofs.Cases.{no_octets, some_octets}

-- ---- one place more

mark_lt : (c : List ℕ) → mark_of c < 1021
unfolding mark_of
mark_lt c = mod-lt _ (omega arith)

module _ (s : List ℕ) (i : ℕ) (b : i < 64) (marks : List ℕ) (m : Marked (evenly s) i marks) where
  front : length (take i (evenly s)) ≡ i
  front = length-take-le i (evenly s) (omega (arith, even_length s))

  module _ (x card : List ℕ) (e : x ≡ get_or (evenly s) i []) (f : card ≡ card_at x) where
    own : card_at (get_or (evenly s) i []) ≡ card
    own = sym (f ∙ ap card_at e)

    -- an empty place
    pub lone_empty : length card ≡ 0 → true ≡ lone_of (evenly s) i
    unfolding lone_of
    lone_empty h = sym (rw (own, no_octets card h))

    pub marks_empty : length card ≡ 0 → Marked (evenly s) (suc i) marks
    marks_empty h = record { size = m.size; met = λ j g n. m.met j (before j g n) n }
      where
        before : (j : ℕ) → j < suc i → (card_at (get_or (evenly s) j []) ≡ [] → ⊥) → j < i
        before j g n = go (eqb j i) refl
          where
            go : (t : Bool) → eqb j i ≡ t → j < i
            go true q = absurd (n (ap (λ (k : ℕ). card_at (get_or (evenly s) k [])) (eqb-true j i q) ∙ own ∙ same_true card [] (no_octets card h)))
            go false q = omega (arith, eqb-false j i q)

    -- a card: those before it decide
    pub lone_met : (length card ≡ 0 → ⊥) → (at : ℕ) → at ≡ held_at card_at card (take i (evenly s)) → leb i at ≡ lone_of (evenly s) i
    unfolding lone_of
    lone_met n at h = sym (rw (own, some_octets card n, ← h))

    module _ (mark : ℕ) (g : mark ≡ mark_of card) where
      pub mark_inside : mark < length marks
      mark_inside = omega (arith, mark_lt card, m.size)

      -- its mark is in the table then
      pub marks_next : Marked (evenly s) (suc i) (set marks mark 1)
      marks_next = record {
        size = length-set marks mark 1 ∙ m.size;
        met = λ j h k. go j h k (eqb (mark_of (card_at (get_or (evenly s) j []))) mark) refl;
      }
        where
          go : (j : ℕ) → j < suc i → (card_at (get_or (evenly s) j []) ≡ [] → ⊥) → (t : Bool) → eqb (mark_of (card_at (get_or (evenly s) j []))) mark ≡ t
              → get_or (set marks mark 1) (mark_of (card_at (get_or (evenly s) j []))) 0 ≡ 1
          go j h k true q = rw (eqb-true (mark_of (card_at (get_or (evenly s) j []))) mark q) (get_or-set_same marks mark 1 0 mark_inside)
          go j h k false q =
              let d = eqb-false (mark_of (card_at (get_or (evenly s) j []))) mark q in
              let j<i : j < i = earlier d in
              get_or-set_other marks mark (mark_of (card_at (get_or (evenly s) j []))) 1 0 d ∙ m.met j j<i k
            where
              earlier : (mark_of (card_at (get_or (evenly s) j [])) ≡ mark → ⊥) → j < i
              earlier d = at (eqb j i) refl
                where
                  at : (t : Bool) → eqb j i ≡ t → j < i
                  at true r = absurd (d (ap (λ (k : ℕ). mark_of (card_at (get_or (evenly s) k []))) (eqb-true j i r) ∙ ap mark_of own ∙ sym g))
                  at false r = omega (arith, eqb-false j i r)

      module _ (n : length card ≡ 0 → ⊥) (met : ℕ) (q : met ≡ get_or marks mark 0) where
        -- a mark that was not met: no place before has the card
        pub lone_new : met ≡ 0 → true ≡ lone_of (evenly s) i
        unfolding lone_of
        lone_new z = sym (rw (own, some_octets card n) (le-leb i (held_at card_at card (take i (evenly s))) (omega (arith, none, front))))
          where
            none : held_at card_at card (take i (evenly s)) ≡ length (take i (evenly s))
            none = held_none card_at card [] (take i (evenly s)) (λ j h c.
                let j<i : j < i = omega (arith, front) in
                let same : card_at (get_or (evenly s) j []) ≡ card = ap card_at (sym (get_or-take i (evenly s) j [] j<i)) ∙ c in
                let one : get_or marks mark 0 ≡ 1 = rw (same, ← g) at (m.met j j<i (λ k. n (ap length (sym same ∙ k)))) in
                omega (arith, q, z))

-- ---- all places

module _ (s : List ℕ) where
  -- two of the first i places with one card are one place
  unfoldable pub Apart : ℕ → Type 0
  Apart i =
      (j k : ℕ) → j < i → k < i → card_at (get_or (evenly s) j []) ≡ card_at (get_or (evenly s) k []) → (card_at (get_or (evenly s) j []) ≡ [] → ⊥) → j ≡ k

  pub apart_start : Apart 0
  unfolding Apart
  apart_start j k p = absurd (not-suc-le-zero p)

  pub marks_start : Marked (evenly s) 0 (replicate 1021 0)
  marks_start = record { size = length-replicate {A = ℕ} 1021 0; met = λ j p. absurd (not-suc-le-zero p) }

  module _ (i : ℕ) (h : i < 64) (a : Apart i) (r : Bool) (e : r ≡ lone_of (evenly s) i) where
    ahead : length (take i (evenly s)) ≡ i
    ahead = length-take-le i (evenly s) (omega (arith, even_length s))

    -- its card is in none before
    lonely : lone_of (evenly s) i ≡ true → (card_at (get_or (evenly s) i []) ≡ [] → ⊥) → (k : ℕ) → k < i
        → card_at (get_or (evenly s) k []) ≡ card_at (get_or (evenly s) i []) → ⊥
    unfolding lone_of
    lonely t n k b c = go (is_empty card_at (get_or (evenly s) i [])) refl t
      where
        go : (z : Bool) → is_empty card_at (get_or (evenly s) i []) ≡ z
            → cond z true (leb i (held_at card_at (card_at (get_or (evenly s) i [])) (take i (evenly s)))) ≡ true → ⊥
        go true q t = n (same_true (card_at (get_or (evenly s) i [])) [] q)
        go false q t =
            let at = held_there card_at (card_at (get_or (evenly s) i [])) [] (take i (evenly s)) k (ap card_at (get_or-take i (evenly s) k [] b) ∙ c) in
            omega (arith, leb-true i (held_at card_at (card_at (get_or (evenly s) i [])) (take i (evenly s))) t)

    pub apart_next : not r ≡ false → Apart (i + 1)
    unfolding Apart
    apart_next t j k p q c n = go (eqb j i) (eqb k i) refl refl
      where
        one : lone_of (evenly s) i ≡ true
        one = sym e ∙ not-false r t

        go : (u v : Bool) → eqb j i ≡ u → eqb k i ≡ v → j ≡ k
        go true true u v = eqb-true j i u ∙ sym (eqb-true k i v)
        go true false u v =
            let f : j ≡ i = eqb-true j i u in
            absurd (lonely one (λ z. n (ap (λ (y : ℕ). card_at (get_or (evenly s) y [])) f ∙ z)) k (omega (arith, eqb-false k i v))
            (sym c ∙ ap (λ (y : ℕ). card_at (get_or (evenly s) y [])) f))
        go false true u v =
            let f : k ≡ i = eqb-true k i v in
            absurd (lonely one (λ z. n (c ∙ ap (λ (y : ℕ). card_at (get_or (evenly s) y [])) f ∙ z)) j (omega (arith, eqb-false j i u))
            (c ∙ ap (λ (y : ℕ). card_at (get_or (evenly s) y [])) f))
        go false false u v = a j k (omega (arith, eqb-false j i u)) (omega (arith, eqb-false k i v)) c n

    -- its card is in one before
    twice : lone_of (evenly s) i ≡ false → cards_once card_at (evenly s) ≡ true → ⊥
    unfolding lone_of
    twice t y = go (is_empty card_at (get_or (evenly s) i [])) refl t
      where
        go : (z : Bool) → is_empty card_at (get_or (evenly s) i []) ≡ z
            → cond z true (leb i (held_at card_at (card_at (get_or (evenly s) i [])) (take i (evenly s)))) ≡ false → ⊥
        go true q t = impossible (sym t)
        go false q t =
            let k : ℕ = held_at card_at (card_at (get_or (evenly s) i [])) (take i (evenly s)) in
            let b : k < i = leb-false i k t in
            let c : card_at (get_or (evenly s) k []) ≡ card_at (get_or (evenly s) i []) =
            ap card_at (sym (get_or-take i (evenly s) k [] b)) ∙ held_card card_at (card_at (get_or (evenly s) i [])) [] (take i (evenly s)) (omega (arith, ahead)) in
            let d = single_true card_at [] (evenly s) y k i (omega (arith, even_length s)) (omega (arith, even_length s)) c
            (λ z. same_false (card_at (get_or (evenly s) i [])) [] q (sym c ∙ z)) in
            omega arith

    pub apart_stop : not r ≡ true → false ≡ cards_once card_at (evenly s)
    apart_stop t = go (cards_once card_at (evenly s)) refl
      where
        go : (y : Bool) → cards_once card_at (evenly s) ≡ y → false ≡ cards_once card_at (evenly s)
        go true q = absurd (twice (sym e ∙ not-true r t) q)
        go false q = sym q

  pub apart_end : (i : ℕ) → 64 ≤ i → Apart i → true ≡ cards_once card_at (evenly s)
  unfolding Apart
  apart_end i h a = sym (single_from card_at [] (evenly s) (λ j k p q. a j k (omega (arith, even_length s)) (omega (arith, even_length s))))

-- ---- what one place needs, and the loop

pub ruleset lone_cases = (lone_empty, marks_empty, mark_inside, lone_new, lone_met)

pub ruleset apart_turns = (apart_start, marks_start, apart_stop, apart_next, apart_end)
