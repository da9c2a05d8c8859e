-- What the code knows of the marks: at each return of a place's mark, and at each turn of the loop.
-- mark_empty, mark_early, mark_late, mark_counts; Marked, marked_start, marked_next, marked_end; mark_cases,
-- marked_turns.
-- Assumes nothing.
use Prim.Native.Nat.{ℕ, suc, ◌+◌, ◌≤◌, ◌<◌}
use native.Mathlib.Numerals.{add-one}
use native.Mathlib.Omega.{arith}
use mathlib.Core.Path.{◌≡◌, refl, sym, ap, ◌∙◌}
use mathlib.Core.Bool.{Bool, true, false}
use mathlib.Core.List.{List, [], ◌∷◌, ◌++◌, append-nil, append_assoc}
use lib.ListN.{length, get_or, set, take, drop, replicate, length-set, drop_of_length-le}
use lib.Seq.{take_all, take-suc-set, drop-cons}
use borrow.Author.Tests.{lt-ltb, le-ltb}
use Rattle.octets.specs.Same.{same_of}
use Rattle.octets.specs.SameLaws.{same_short}
use Rattle.freshness.specs.declared.Clock.{Clock}
use Rattle.cache_rules.specs.Place.{card_at}
use Rattle.cache_place.specs.Times.{this_at, late_at}
use Rattle.cache_places.specs.Evenly.{evenly}
use Rattle.cache_places.specs.EvenlyLaws.{even_length}
use Rattle.cache_line.specs.Marks.{mark_at, marks_of}

-- ---- a place

none : (c : List ℕ) → length c ≡ 0 → same_of c [] ≡ true
unfolding same_of
none [] h = refl
none (x ∷ c) h = absurd (omega arith)

module _ (p : List ℕ) (clock : Clock) (card : List ℕ) (e : card ≡ card_at p) where
  pub mark_empty : length card ≡ 0 → 0 ≡ mark_at clock p
  unfolding mark_at
  mark_empty h = sym (rw (← e, none card h))

  module _ (h : length card ≡ 0 → ⊥) (this : ℕ) (f : this ≡ this_at p) where
    pub mark_early : clock.now < this → 15 ≡ mark_at clock p
    unfolding mark_at
    mark_early l = sym (rw (← e, same_short card [] h, ← f, lt-ltb clock.now this l))

    module _ (l : this ≤ clock.now) (b : Bool) (g : b ≡ late_at clock p) where
      pub mark_late : b ≡ true → 16 ≡ mark_at clock p
      unfolding mark_at
      mark_late q = sym (rw (← e, same_short card [] h, ← f, le-ltb clock.now this l, ← g, q))

      pub mark_counts : b ≡ false → 1 ≡ mark_at clock p
      unfolding mark_at
      mark_counts q = sym (rw (← e, same_short card [] h, ← f, le-ltb clock.now this l, ← g, q))

-- ---- the loop: the marks of the first i places are there

module _ (s : List ℕ) (clock : Clock) where
  unfoldable pub Marked : List ℕ → ℕ → Type 0
  Marked marks i = (length marks ≡ 64) × (marks_of clock (evenly s) ≡ take i marks ++ marks_of clock (drop i (evenly s)))

  pub marked_start : Marked (replicate 64 0) 0
  unfolding Marked
  marked_start = (refl, refl)

  module _ (marks : List ℕ) (i : ℕ) (k : Marked marks i) where
    pub marked_next : i < 64 → (p : List ℕ) → p ≡ get_or (evenly s) i [] → (mark : ℕ) → mark ≡ mark_at clock p
        → Marked (set marks i mark) (i + 1)
    unfolding Marked marks_of
    marked_next h p e mark f =
        let l : i < length marks = omega (arith, k.0) in (
          length-set marks i mark ∙ k.0,
          k.1
              ∙ ap (λ (r : List (List ℕ)). take i marks ++ marks_of clock r) (drop-cons (evenly s) i [] (omega (arith, even_length s)))
              ∙ ap (λ (m : ℕ). take i marks ++ (m ∷ marks_of clock (drop (suc i) (evenly s)))) (ap (mark_at clock) (sym e) ∙ sym f)
              ∙ sym (append_assoc (take i marks) (mark ∷ []) (marks_of clock (drop (suc i) (evenly s))))
              ∙ ap (λ (r : List ℕ). r ++ marks_of clock (drop (suc i) (evenly s))) (sym (take-suc-set marks i mark l))
              ∙ ap (λ (j : ℕ). take j (set marks i mark) ++ marks_of clock (drop j (evenly s))) (sym (add-one i)),
        )

    pub marked_end : 64 ≤ i → marks ≡ marks_of clock (evenly s)
    unfolding Marked marks_of
    marked_end h =
        sym
        (k.1
        ∙ ap (λ (r : List (List ℕ)). take i marks ++ marks_of clock r) (drop_of_length-le (evenly s) {i = i} (omega (arith, even_length s)))
        ∙ append-nil (take i marks)
        ∙ take_all i marks (omega (arith, k.0)))

-- ---- what a place's mark needs, and the loop

pub ruleset mark_cases = (mark_empty, mark_early, mark_late, mark_counts)

pub ruleset marked_turns = (marked_start, marked_next, marked_end)
