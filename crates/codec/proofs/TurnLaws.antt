-- Laws of a loop over the elements of a list, up to its end: it is at a place up to which k elements are
-- met, and the answer for the list is made of the answer for what is left. The bound is the most elements
-- that are allowed, or there is none.
-- Telling, what code tells of a reading; fits, that they fit or the place that is wrong; OneMore, rest; Turns,
-- where the loop is. turn_start, turn_end, turn_over, turn_bad, turn_next: its turns. turn_place,
-- turn_inside, turn_sum, turn_less: that a place is in the list, and that less is left.
-- The readings are in Many and Any, the answers in Views.
-- The laws stand here, and what is made of them; the definitions in specs/TurnLaws.
-- Assumes nothing.
use Prim.Native.Nat.{ℕ, zero, suc, ◌+◌, ◌-◌, ◌^◌, ◌≤◌, ◌<◌}
use Rattle.std.proofs.Common.{arith, sym, ap, ◌∙◌, length-drop, drop_of_length-le, drop-drop}
use Rattle.std.specs.Prelude.{◌≡◌, length, take, drop, Ok, Err}
use Rattle.std.proofs.Math.Path.{refl}
use mathlib.Core.List.{List, [], ◌∷◌}
use Rattle.std.proofs.Math.Option.{Option, some, none}
use Rattle.std.specs.Int.{w64}
use mir.Val as val
use Rattle.octets.specs.LentLaws.{rest_is}
use Rattle.element.specs.declared.Misfit.{Misfit}
use Rattle.element.specs.Places.{misfit}
use Rattle.codec.specs.Codec.{Read, read, broke, got, bad, Element}
use Rattle.codec.specs.Outcome.{further}
use Rattle.codec.specs.Many.{many_dec}
use Rattle.codec.proofs.Many.{many_got, many_bad, many_over}
use Rattle.codec.proofs.Any.{all, all_none, all_got, all_bad}
use Rattle.codec.specs.Views.{step_of, fit_of, later}
use Rattle.codec.proofs.ViewLaws.{step_taken, step_bad, fit_further, later_later}
use Rattle.codec.specs.Steps.{Step, Fit}
use Rattle.codec.specs.TurnLaws.{OneMore, Telling}

-- the start is no octets further on
later_start : (x : Fit) → x ≡ later 0 x
unfolding later
later_start (Ok x) = refl
later_start (Err p) = ap (λ (j : ℕ). Err (misfit j)) (omega arith)

-- that they fit, or the place that is wrong
pub fits : (A : Type 0) → Telling {A = A} fit_of (λ at k. later at) (λ k. Ok tt) (λ p. Err (misfit p))
unfolding fit_of later
fits A = record {
  start = later_start;
  ends = λ at k. refl;
  stops = λ at k p. refl;
  next = λ at k n a o. ap (later at) (fit_further n (λ l. a ∷ l) o) ∙ later_later at n (fit_of o);
}

one_less : (hi k : ℕ) → OneMore (some hi) k → hi - k ≡ suc (hi - (k + 1))
one_less hi k m = omega (arith, m.0, m.1)

module _ {A : Type 0} (e : Element A) where
  -- the reading of what is left after k elements
  abbrev pub rest : Option ℕ → ℕ → List ℕ → Read (List A)
  rest (some hi) k s = many_dec e.dec 0 (hi - k) s
  rest none k s = (all e).dec s

  -- at the end; at an element that is wrong; after an element
  rest_none : (b : Option ℕ) (k : ℕ) → rest b k [] ≡ read []
  unfolding many_dec
  rest_none none k = all_none e
  rest_none (some hi) k = go (hi - k)
    where
      go : (j : ℕ) → many_dec e.dec 0 j [] ≡ read []
      go zero = refl
      go (suc j) = refl

  rest_bad : (b : Option ℕ) (k : ℕ) → OneMore b k → (s : List ℕ) (p : ℕ) → 0 < length s → e.dec s ≡ bad p → rest b k s ≡ broke p
  rest_bad none k m s p h q = all_bad e s p h q
  rest_bad (some hi) k m s p h q = rw (one_less hi k m) (many_bad e.dec 0 (hi - (k + 1)) s p h q)

  rest_got : (b : Option ℕ) (k : ℕ) → OneMore b k → (s : List ℕ) (a : A) (n : ℕ) → 0 < length s → e.dec s ≡ got a n
      → rest b k s ≡ further n (λ l. a ∷ l) (rest b (k + 1) (drop n s))
  rest_got none k m s a n h q = all_got e s a n q
  rest_got (some hi) k m s a n h q = rw (one_less hi k m) (many_got e.dec 0 (hi - (k + 1)) s a n h q)

-- the answer for the element at the head of what is left, as code lends it
module _ {A : Type 0} (e : Element A) (s : List ℕ) (at : ℕ) (x : Step) (q : x ≡ step_of (e.dec (take (length s - at) (drop at s)))) where
  here : step_of (e.dec (drop at s)) ≡ x
  here = rw (rest_is at s) at (sym q)

  pub turn_place : at ≤ length s → (p : Misfit) → x ≡ Err p → length s < 2 ^ 64 → val.Fits w64 (at + p.place)
  turn_place le p f z =
      let v = (step_bad e (drop at s) p.place (here ∙ f)).1 in
      record { fits = omega (arith, length-drop at s) }

  module _ (n : ℕ) (f : x ≡ Ok n) where
    taken : (0 < n) × (at + n ≤ length s)
    taken = let v = step_taken e (drop at s) n (here ∙ f) in omega (arith, v.2, v.3, length-drop at s)

    pub turn_inside : at + n ≤ length s
    turn_inside = taken.1

    pub turn_sum : length s < 2 ^ 64 → val.Fits w64 (at + n)
    turn_sum z = record { fits = omega (arith, taken.1) }

    pub turn_less : length s - (at + n) < length s - at
    turn_less = omega (arith, taken.0, taken.1)

-- the turns of the loop, by what code tells
module _ {A R : Type 0} {of : Read (List A) → R} {past : ℕ → ℕ → R → R} {met wrong : ℕ → R} (v : Telling of past met wrong) where
  -- it is at a place up to which k elements are met
  abbrev pub Turns : Option ℕ → Element A → List ℕ → ℕ → ℕ → Type 0
  Turns b e s at k = of (rest e b 0 s) ≡ past at k (of (rest e b k (drop at s)))

  module _ (b : Option ℕ) (e : Element A) (s : List ℕ) where
    -- at the start; at the end; at an element that is wrong; after an element
    pub turn_start : Turns b e s 0 0
    turn_start = v.start (of (rest e b 0 s))

    module _ (at k : ℕ) (i : Turns b e s at k) where
      pub turn_end : length s ≤ at → met k ≡ of (rest e b 0 s)
      turn_end le = sym (i ∙ rw (drop_of_length-le s le, rest_none e b k) (v.ends at k))

      stopped : (p : ℕ) → rest e b k (drop at s) ≡ broke p → wrong (at + p) ≡ of (rest e b 0 s)
      stopped p j = sym (i ∙ rw j (v.stops at k p))

      module _ (x : Step) (q : x ≡ step_of (e.dec (take (length s - at) (drop at s)))) (m : OneMore b k) where
        pub turn_bad : at < length s → (p : Misfit) → x ≡ Err p → wrong (at + p.place) ≡ of (rest e b 0 s)
        turn_bad lt p f =
            let g = (step_bad e (drop at s) p.place (here e s at x q ∙ f)).0 in
            stopped p.place (rest_bad e b k m (drop at s) p.place (simp length-drop (omega arith)) g)

        pub turn_next : (n : ℕ) → x ≡ Ok n → Turns b e s (at + n) (k + 1)
        turn_next n f =
            let (a, g, pos, inside) = step_taken e (drop at s) n (here e s at x q ∙ f) in
            i ∙ rw (rest_got e b k m (drop at s) a n (omega arith) g)
            (v.next at k n a (rest e b (k + 1) (drop n (drop at s))) ∙ rw (drop-drop n at s))

  -- one too many
  pub turn_over : (hi : ℕ) (e : Element A) (s : List ℕ) (at k : ℕ) → Turns (some hi) e s at k → k ≡ hi → at < length s
      → wrong at ≡ of (rest e (some hi) 0 s)
  turn_over hi e s at k i j lt =
      let z : hi - k ≡ 0 = omega arith in
      let o : at + 0 ≡ at = omega arith in
      rw o at (stopped (some hi) e s at k i 0 (rw z (many_over e.dec 0 (drop at s) (simp length-drop (omega arith)))))
