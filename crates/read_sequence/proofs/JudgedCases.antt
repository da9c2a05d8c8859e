-- The cases of an answer made of answers: what each return has learned of the part's answer.
-- first_none, first_is, in first_cases; place_least; filled_bad, filled_same, filled_left, in filled_cases;
-- after_fits, after_breaks, in after_cases; closed_fits, closed_breaks, in closed_cases.
-- Assumes nothing.
use Rattle.std.specs.Prelude.{ℕ, ◌+◌, ◌≤◌, ◌<◌, ◌≡◌, refl, min, Bool, true, false, cond, not, eqb, leb, List, length, get_or, Ok, Err}
use Rattle.std.proofs.Common.{arith, sym, ◌∙◌, Fits}
use Rattle.std.proofs.Math.Nat.{min-eq_left, min-eq_right}
use Rattle.std.specs.Int.{w64}
use borrow.Author.Tests.{leb-true, leb-false, eq-eqb, ne_eqb}
use Rattle.element.specs.Places.{misfit}
use Rattle.element.specs.declared.Misfit.{Misfit}
use Rattle.codec.specs.Starts.{starts_with}
use Rattle.codec.proofs.Starts.{starts_none, starts_first}
use Rattle.codec.specs.Steps.{Step, Fit}
use Rattle.read_content.specs.ExpectLaws.{never}
use Rattle.read_sequence.specs.Judged.{place_within, filled_by, closed_by, after_by}

-- the first octet
module _ (t : ℕ) (s : List ℕ) where
  pub first_none : length s ≡ 0 → not (eqb (length s) 0) ≡ starts_with t s
  first_none h = rw (eq-eqb (length s) 0 h) (sym (starts_none t s h))

  pub first_is : (length s ≡ 0 → ⊥) → eqb (get_or s 0 0) t ≡ starts_with t s
  first_is o = sym (starts_first t s (omega arith))

pub ruleset first_cases = (first_none, first_is)

-- a place: the lesser of the sum, held to 64 bits, and the end
module _ (start end p : ℕ) where
  pub place_least : Fits w64 end → (x : ℕ) → x ≡ min (start + p) 18446744073709551615 → (y : ℕ) → y ≡ min x end → y ≡ place_within start end p
  unfolding place_within
  place_least h x e y f = f ∙ go (leb (start + p) end) refl
    where
      go : (b : Bool) → leb (start + p) end ≡ b → min x end ≡ cond b (start + p) end
      go true i =
          let j : start + p ≤ end = leb-true (start + p) end i in
          let k : start + p ≤ 18446744073709551615 = omega arith in
          rw (e, min-eq_left k) (min-eq_left j)
      go false i = let j : end < start + p = leb-false (start + p) end i in min-eq_right (rw e (omega arith))

-- an element that fills its holder
module _ (size : ℕ) (x : Step) where
  pub filled_bad : (p : Misfit) → x ≡ Err p → Err p ≡ filled_by size x
  unfolding filled_by
  filled_bad p f = rw f

  module _ (n : ℕ) (f : x ≡ Ok n) where
    pub filled_same : n ≡ size → Ok tt ≡ filled_by size x
    unfolding filled_by
    filled_same o = rw (f, eq-eqb n size o)

    pub filled_left : (n ≡ size → ⊥) → Err (misfit n) ≡ filled_by size x
    unfolding filled_by
    filled_left o = rw (f, ne_eqb n size o)

pub ruleset filled_cases = (filled_bad, filled_same, filled_left)

-- what holds the part: a list, or an element
module _ (start end : ℕ) (x : Fit) where
  pub after_fits : x ≡ Ok tt → Ok tt ≡ after_by start end x
  unfolding after_by
  after_fits f = rw f

  pub after_breaks : (p : Misfit) → x ≡ Err p → (n : ℕ) → n ≡ place_within start end p.place → Err (misfit n) ≡ after_by start end x
  unfolding after_by
  after_breaks p f n q = rw (f, ← q)

  module _ (r : Fit) (q : r ≡ after_by start end x) where
    pub closed_fits : (u : Unit) → r ≡ Ok u → Ok end ≡ closed_by start end x
    unfolding after_by closed_by
    closed_fits u f = go x (sym f ∙ q)
      where
        go : (y : Fit) → Ok u ≡ after_by start end y → Ok end ≡ closed_by start end y
        go (Ok a) i = refl
        go (Err p) i = never (cc)

    pub closed_breaks : (p : Misfit) → r ≡ Err p → Err p ≡ closed_by start end x
    unfolding after_by closed_by
    closed_breaks p f = go x (sym f ∙ q)
      where
        go : (y : Fit) → Err p ≡ after_by start end y → Err p ≡ closed_by start end y
        go (Ok a) i = never (cc)
        go (Err w) i = let j : p ≡ misfit (place_within start end w.place) = cc in rw j

pub ruleset after_cases = (after_fits, after_breaks)

pub ruleset closed_cases = (closed_fits, closed_breaks)
