-- Laws of ascending places: how they are joined and moved on, and that the first is the least.
-- ascend_end, ascend_from, ascend_append, ascend_shift, ascend_later, ascend_unless, ascend_cond; first_least,
-- least_first, first_none.
-- Assumes nothing.
use Rattle.std.specs.Prelude.{ℕ, ◌+◌, ◌≤◌, ◌≡◌, refl, Bool, true, false, cond, List, [], ◌∷◌, ◌++◌, Ok, Err}
use Rattle.std.proofs.Common.{arith, ap, inl, inr}
use Rattle.element.specs.Places.{misfit}
use Rattle.element.specs.PlacesLaws.{same_place}
use Rattle.faults.specs.Faults.{shift, unless}
use Rattle.faults.specs.Order.{Ascending, leftmost, Among, Least}

-- ── joined and moved on ──
pub ascend_end : (a b c : ℕ) (l : List ℕ) → Ascending a l b → b ≤ c → Ascending a l c
ascend_end a b c [] h le = omega arith
ascend_end a b c (p ∷ l) h le = (h.0, ascend_end p b c l h.1 le)

pub ascend_from : (a b c : ℕ) (l : List ℕ) → a ≤ b → Ascending b l c → Ascending a l c
ascend_from a b c [] le h = omega arith
ascend_from a b c (p ∷ l) le h = (omega (arith, h.0), h.1)

pub ascend_append : (a b c : ℕ) (k l : List ℕ) → Ascending a k b → Ascending b l c → Ascending a (k ++ l) c
ascend_append a b c [] l h i = ascend_from a b c l h i
ascend_append a b c (p ∷ k) l h i = (h.0, ascend_append p b c k l h.1 i)

pub ascend_shift : (n a b : ℕ) (l : List ℕ) → Ascending a l b → Ascending (n + a) (shift n l) (n + b)
ascend_shift n a b [] h = omega arith
ascend_shift n a b (p ∷ l) h = (omega (arith, h.0), ascend_shift n p b l h.1)

pub ascend_later : (n m k : ℕ) (l : List ℕ) → Ascending 0 l m → n + m ≤ k → Ascending n (shift n l) k
ascend_later n m k l h le =
    ascend_end n (n + m) k (shift n l) (ascend_from n (n + 0) (n + m) (shift n l) (omega arith) (ascend_shift n 0 m l h)) le

pub ascend_unless : (b : Bool) (n : ℕ) → Ascending 0 (unless b) n
ascend_unless true n = omega arith
ascend_unless false n = (omega arith, omega arith)

pub ascend_cond : (b : Bool) (k l : List ℕ) (n : ℕ) → Ascending 0 k n → Ascending 0 l n → Ascending 0 (cond b k l) n
ascend_cond true k l n v w = v
ascend_cond false k l n v w = w

-- ── the first ──
-- none is before where they start
ascend_least : (a b : ℕ) (l : List ℕ) → Ascending a l b → (q : ℕ) → Among q l → a ≤ q
ascend_least a b [] h q x = elim x [ ]
ascend_least a b (p ∷ l) h q (inl e) = omega (arith, h.0)
ascend_least a b (p ∷ l) h q (inr m) = let i = ascend_least p b l h.1 q m in omega (arith, h.0)

pub first_least : (a b : ℕ) (l : List ℕ) → Ascending a l b → (p : ℕ) → leftmost l ≡ Err (misfit p) → Least p l
unfolding leftmost
first_least a b [] h p e = let z : ◌≡◌ {A = ℕ} 0 1 = cc in absurd (omega arith)
first_least a b (x ∷ l) h p e =
    let i : x ≡ p = same_place e in
    rw (← i) (inl refl, go)
  where
    go : (q : ℕ) → Among q (x ∷ l) → x ≤ q
    go q (inl e) = omega arith
    go q (inr m) = ascend_least x b l h.1 q m

pub least_first : (a b : ℕ) (l : List ℕ) → Ascending a l b → (p : ℕ) → Least p l → leftmost l ≡ Err (misfit p)
unfolding leftmost
least_first a b [] h p m = absurd m.0
least_first a b (x ∷ l) h p m =
    let i = first_least a b (x ∷ l) h x refl in
    ap (λ (j : ℕ). Err (misfit j)) (omega (arith, i.1 p m.0, m.1 x (inl refl)))

pub first_none : (l : List ℕ) → leftmost l ≡ Ok tt → l ≡ []
unfolding leftmost
first_none [] e = refl
first_none (x ∷ l) e = let z : ◌≡◌ {A = ℕ} 0 1 = cc in absurd (omega arith)
