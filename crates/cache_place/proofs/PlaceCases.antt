-- What the code knows at each return of the functions that judge a place, and what follows there.
-- rest_none, rest_any, rest_other, rest_last; place_none, place_zero, end_inside, place_broken, place_tail.
-- Assumes nothing.
use Prim.Native.Nat.{ℕ, suc, ◌+◌, ◌-◌, ◌≤◌}
use native.Mathlib.Omega.{arith}
use mathlib.Core.Path.{◌≡◌, refl, sym, ap, ◌∙◌}
use mathlib.Core.Bool.{Bool, true, false, cond, not}
use mathlib.Core.List.{List, [], ◌∷◌}
use lib.Dec.{eqb, ltb, lit≤}
use lib.ListN.{length, get_or, take, drop, length-drop, drop_of_length-le, take-append-drop}
use lib.Seq.{drop-cons, drop-drop, length-take-le, take_all}
use borrow.Author.Tests.{ltb-true, ltb-false, eq-eqb, ne_eqb, not-true, not-false}
use Rattle.answer.specs.Card.{all_zero}
use Rattle.answer.specs.CardLaws.{zero_append, zero_value}
use Rattle.fields.specs.Field.{value_at}
use Rattle.fields.specs.FieldLaws.{value_there}
use Rattle.slip.specs.Numbers.{total}
use Rattle.slip.specs.Table.{row_in, row_of, body_size, size_of}
use Rattle.cache_rules.specs.Place.{slip_size, kind_at, slip_in, says_at, is_said, place_ok, says_of}
use Rattle.cache_place.specs.Said.{slip_said}
use Rattle.cache_place.specs.SaidLaws.{said_at}

-- ---- the octets behind a slip

module _ (p : List ℕ) (end : ℕ) where
  pub rest_none : length p ≡ end → true ≡ all_zero (drop end p)
  unfolding all_zero
  rest_none h = sym (ap all_zero (drop_of_length-le p {i = end} (omega arith)))

  pub rest_any : (z : Bool) → z ≡ all_zero (take (length p - end) (drop end p)) → z ≡ all_zero (drop end p)
  rest_any z q = q ∙ ap all_zero (take_all (length p - end) (drop end p) (omega (arith, length-drop end p)))

  -- nine: the number of eight, and one more
  module _ (h : end ≤ length p) (l : length p - end ≡ 9) (n : ℕ) (q : n ≡ value_at p end 8) where
    nine : all_zero (drop end p) ≡ cond (eqb n 0) (eqb (get_or p (end + 8) 0) 0) false
    unfolding all_zero
    nine =
        let one : drop 8 (drop end p) ≡ get_or p (end + 8) 0 ∷ [] =
        drop-drop 8 end p
        ∙ drop-cons p (end + 8) 0 (omega arith)
        ∙ ap (λ (t : List ℕ). get_or p (end + 8) 0 ∷ t) (drop_of_length-le p {i = suc (end + 8)} (omega arith)) in
        ap all_zero (sym (take-append-drop 8 (drop end p)))
        ∙ zero_append (take 8 (drop end p)) (drop 8 (drop end p))
        ∙ rw (one, q, value_there p end 8 (lit≤ tt) (omega arith), zero_value (take 8 (drop end p))) (same (all_zero (take 8 (drop end p))) (eqb (get_or p (end + 8) 0) 0))
      where
        same : (a b : Bool) → cond a (cond b true false) false ≡ cond a b false
        same true true = refl
        same true false = refl
        same false b = refl

    pub rest_other : (n ≡ 0 → ⊥) → false ≡ all_zero (drop end p)
    rest_other e = sym (nine ∙ rw (ne_eqb n 0 e))

    pub rest_last : n ≡ 0 → eqb (get_or p (end + 8) 0) 0 ≡ all_zero (drop end p)
    rest_last e = sym (nine ∙ rw (eq-eqb n 0 e))

-- ---- a place

-- what is behind a part's first n octets, or behind all of it where it has fewer
cut_at : (n : ℕ) (p : List ℕ) (end : ℕ) → end ≡ length (take n p) → (end ≤ length p) × (drop end p ≡ drop n p)
cut_at n p end e = go (ltb (length p) n) refl
  where
    go : (b : Bool) → ltb (length p) n ≡ b → (end ≤ length p) × (drop end p ≡ drop n p)
    go true q =
        let l = ltb-true (length p) n q in
        let f : end ≡ length p = e ∙ ap length (take_all n p (omega arith)) in
        (omega arith, drop_of_length-le p {i = end} (omega arith) ∙ sym (drop_of_length-le p {i = n} (omega arith)))
    go false q =
        let l = ltb-false (length p) n q in
        let f : end ≡ n = e ∙ length-take-le n p l in
        (omega arith, ap (λ (k : ℕ). drop k p) f)

module _ (p : List ℕ) where
  pub place_none : length p ≡ 0 → true ≡ place_ok p
  unfolding place_ok all_zero
  place_none h = go p h
    where
      go : (p : List ℕ) → length p ≡ 0 → true ≡ place_ok p
      go [] h = refl
      go (x ∷ p) h = absurd (omega arith)

  -- a first octet 0 is no kind of a slip
  unsaid : get_or p 0 0 ≡ 0 → is_said (says_of (take 1 p)) ≡ false
  unfolding slip_said row_of row_in
  unsaid h = go p h
    where
      go : (p : List ℕ) → get_or p 0 0 ≡ 0 → is_said (says_of (take 1 p)) ≡ false
      go [] h = said_at []
      go (x ∷ p) h = said_at (x ∷ []) ∙ rw h

  one : get_or p 0 0 ≡ 0 → size_of 20 (get_or p 0 0) ≡ 1
  unfolding size_of body_size total row_of row_in
  one h = ap (size_of 20) h

  pub place_zero : get_or p 0 0 ≡ 0 → (z : Bool) → z ≡ all_zero p → z ≡ place_ok p
  unfolding place_ok says_at slip_in
  place_zero h z q = q ∙ rw (one h) (either (all_zero p) (is_said (says_of (take 1 p))) (all_zero (drop 1 p)) (unsaid h))
    where
      either : (a b c : Bool) → b ≡ false → a ≡ cond a true (cond b c false)
      either true b c e = refl
      either false b c e = rw e

  module _ (h : get_or p 0 0 ≡ 0 → ⊥) where
    filled : all_zero p ≡ false
    unfolding all_zero
    filled = go p h
      where
        go : (p : List ℕ) → (get_or p 0 0 ≡ 0 → ⊥) → all_zero p ≡ false
        go [] h = absurd (h refl)
        go (x ∷ p) h = rw (ne_eqb x 0 h)

    module _ (slip : List ℕ) (e : slip ≡ slip_in p) where
      cut : (length slip ≤ length p) × (drop (length slip) p ≡ drop (slip_size (kind_at p)) p)
      unfolding slip_in
      cut = cut_at (slip_size (kind_at p)) p (length slip) (ap length e)

      pub end_inside : length slip ≤ length p
      end_inside = cut.0

      module _ (b : Bool) (r : b ≡ is_said (says_of slip)) where
        pub place_broken : not b ≡ true → false ≡ place_ok p
        unfolding place_ok says_at
        place_broken f = sym (rw (filled, ← e, ← r, not-true b f))

        pub place_tail : not b ≡ false → (t : Bool) → t ≡ all_zero (drop (length slip) p) → t ≡ place_ok p
        unfolding place_ok says_at
        place_tail f t g = sym (rw (filled, ← e, ← r, not-false b f) (sym (g ∙ ap all_zero cut.1)))

-- ---- what each function needs

pub ruleset rest_cases = (rest_none, rest_any, rest_other, rest_last)

pub ruleset place_cases = (place_none, place_zero, end_inside, place_broken, place_tail)
