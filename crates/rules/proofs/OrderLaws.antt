-- Laws of the order of refusals: what is given is the first test that applies, and nothing where none does.
-- first_none, first_some; row_low, first_row, first_no_row, first_most; tests_numbered, tests_first, tests_none, tests_most.
-- The definitions are in Order and Rows. Assumes nothing.
use Rattle.std.specs.Prelude.{ℕ, suc, ◌+◌, ◌≤◌, ◌<◌, ◌↔◌, ◌≡◌, refl, Bool, true, false, cond, List, [], ◌∷◌, ◌++◌, eqb, ltb, length}
use Rattle.std.proofs.Common.{zero-le, arith, ⊎_elim, sym, ap, ◌∙◌, eqb-true, ltb-true, ltb-false, eq-eqb, ne_eqb}
use mathlib.Core.List.Memᴰ
use Rattle.std.proofs.lemmas.Bool.{eqb-false}
use Rattle.octets.specs.SameLaws.{impossible}
use Rattle.rules.specs.Order.{Case, tests, first_of}
use Rattle.rules.specs.Rows.{NoneOf, Nonzero, First, test_of, Numbered}

-- ---- any table

-- none of the rows, where the first and the others do not apply
none_cons : (t : ℕ × Bool) (l : List (ℕ × Bool)) → t.1 ≡ false → NoneOf l → NoneOf (t ∷ l)
none_cons t l e h u m = ⊎_elim (λ (p : u ≡ t). ap (λ (v : ℕ × Bool). v.1) p ∙ e) (h u) (Memᴰ.cases_cons m)

-- 0 exactly when every test is false
pub first_none : (l : List (ℕ × Bool)) → Nonzero l → first_of l ≡ 0 ↔ NoneOf l
unfolding first_of
first_none [] z = (λ e t m. absurd (Memᴰ.not-nil m), λ h. refl)
first_none (t ∷ l) z = go t.1 refl (first_none l (λ u m. z u (Memᴰ.tail m)))
  where
    go : (b : Bool) → t.1 ≡ b → (first_of l ≡ 0 ↔ NoneOf l) → cond t.1 t.0 (first_of l) ≡ 0 ↔ NoneOf (t ∷ l)
    go true e r = (
      λ f. absurd (z t (Memᴰ.head refl) (rw e at f)),
      λ h. impossible (sym (h t (Memᴰ.head refl)) ∙ e),
    )
    go false e r = (
      λ f. none_cons t l e (r.0 (rw e at f)),
      λ h. rw e (r.1 (λ u m. h u (Memᴰ.tail m))),
    )

-- what is given is the first
first_after : (n : ℕ) (before after : List (ℕ × Bool)) → NoneOf before → first_of (before ++ ((n, true) ∷ after)) ≡ n
unfolding first_of
first_after n [] after h = refl
first_after n (t ∷ l) after h = rw (h t (Memᴰ.head refl)) (first_after n l after (λ u m. h u (Memᴰ.tail m)))

first_found : (n : ℕ) (l : List (ℕ × Bool)) → (n ≡ 0 → ⊥) → first_of l ≡ n → First n l
unfolding first_of
first_found n [] z e = absurd (z (sym e))
first_found n (t ∷ l) z e = go t.1 refl (λ f. first_found n l z f)
  where
    go : (b : Bool) → t.1 ≡ b → (first_of l ≡ n → First n l) → First n (t ∷ l)
    go true p r =
        let i : t.0 ≡ n = rw p at e in
        record { before = []; after = l; row = λ j. (i j, p j) ∷ l; earlier = λ u m. absurd (Memᴰ.not-nil m) }
    go false p r =
        let f = r (rw p at e) in
        record { before = t ∷ f.before; after = f.after; row = ap (λ (k : List (ℕ × Bool)). t ∷ k) f.row; earlier = none_cons t f.before p f.earlier }

-- a number other than 0 exactly when its row is the first that applies
pub first_some : (n : ℕ) (l : List (ℕ × Bool)) → (n ≡ 0 → ⊥) → first_of l ≡ n ↔ First n l
first_some n l z = (first_found n l z, λ f. ap first_of f.row ∙ first_after n f.before f.after f.earlier)

-- ---- a table whose rows are numbered one by one

-- a number below the first row's has no row
pub row_low : (k : ℕ) (l : List (ℕ × Bool)) → Numbered k l → (m : ℕ) → m < k → test_of m l ≡ false
unfolding test_of
row_low k [] h m p = refl
row_low k (t ∷ l) h m p = rw (ne_eqb t.0 m (λ e. omega (arith, h.0))) (row_low (suc k) l h.1 m (omega arith))

-- the first row's test, and the others'
row_first : (t : ℕ × Bool) (l : List (ℕ × Bool)) (m : ℕ) → t.0 ≡ m → test_of m (t ∷ l) ≡ t.1
unfolding test_of
row_first t l m e = rw (eq-eqb t.0 m e)

row_other : (t : ℕ × Bool) (l : List (ℕ × Bool)) (m : ℕ) → (t.0 ≡ m → ⊥) → test_of m (t ∷ l) ≡ test_of m l
unfolding test_of
row_other t l m e = rw (ne_eqb t.0 m e)

module _ (k : ℕ) (t : ℕ × Bool) (l : List (ℕ × Bool)) (h : Numbered k (t ∷ l)) where
  -- a first row that does not apply says nothing
  row_skip : t.1 ≡ false → (m : ℕ) → test_of m (t ∷ l) ≡ test_of m l
  row_skip p m = go (eqb t.0 m) refl
    where
      go : (b : Bool) → eqb t.0 m ≡ b → test_of m (t ∷ l) ≡ test_of m l
      go false e = row_other t l m (eqb-false t.0 m e)
      go true e =
          let i : t.0 ≡ m = eqb-true t.0 m e in
          row_first t l m i ∙ p ∙ sym (row_low (suc k) l h.1 m (omega (arith, h.0)))

  -- one that applies is the first
  row_takes : t.1 ≡ true → (n : ℕ) → test_of n (t ∷ l) ≡ true → ((m : ℕ) → m < n → test_of m (t ∷ l) ≡ false) → t.0 ≡ n
  row_takes p n a b = go (ltb t.0 n) (ltb n t.0) refl refl
    where
      go : (u v : Bool) → ltb t.0 n ≡ u → ltb n t.0 ≡ v → t.0 ≡ n
      go true v e f = impossible (sym (b t.0 (ltb-true t.0 n e)) ∙ row_first t l t.0 refl ∙ p)
      go false true e f =
          let q : n < t.0 = ltb-true n t.0 f in
          impossible (sym (row_low (suc k) l h.1 n (omega (arith, h.0))) ∙ sym (row_other t l n (λ i. omega arith)) ∙ a)
      go false false e f = omega (arith, ltb-false t.0 n e, ltb-false n t.0 f)

-- the number of a row exactly when that row applies and none with a smaller number does
pub first_row : (k : ℕ) (l : List (ℕ × Bool)) → Numbered k l → (n : ℕ) → (n ≡ 0 → ⊥)
    → first_of l ≡ n ↔ (test_of n l ≡ true) × ((m : ℕ) → m < n → test_of m l ≡ false)
unfolding first_of test_of
first_row k [] h n z = (λ e. absurd (z (sym e)), λ (a, b). impossible a)
first_row k (t ∷ l) h n z = go t.1 refl (first_row (suc k) l h.1 n z)
  where
    go : (b : Bool) → t.1 ≡ b → (first_of l ≡ n ↔ (test_of n l ≡ true) × ((m : ℕ) → m < n → test_of m l ≡ false))
        → cond t.1 t.0 (first_of l) ≡ n ↔ (test_of n (t ∷ l) ≡ true) × ((m : ℕ) → m < n → test_of m (t ∷ l) ≡ false)
    go true p r = (
      λ f.
          let i : t.0 ≡ n = rw p at f in
          (row_first t l n i ∙ p, λ m q. row_other t l m (λ j. omega arith) ∙ row_low (suc k) l h.1 m (omega (arith, h.0))),
      λ (a, b). rw p (row_takes k t l h p n a b),
    )
    go false p r = (
      λ f. let g = r.0 (rw p at f) in (row_skip k t l h p n ∙ g.0, λ m q. row_skip k t l h p m ∙ g.1 m q),
      λ (a, b). rw p (r.1 (sym (row_skip k t l h p n) ∙ a, λ m q. sym (row_skip k t l h p m) ∙ b m q)),
    )

-- 0 exactly when no row applies
pub first_no_row : (k : ℕ) (l : List (ℕ × Bool)) → Numbered (suc k) l → first_of l ≡ 0 ↔ ((m : ℕ) → test_of m l ≡ false)
unfolding first_of test_of
first_no_row k [] h = (λ e m. refl, λ e. refl)
first_no_row k (t ∷ l) h = go t.1 refl (first_no_row (suc k) l h.1)
  where
    go : (b : Bool) → t.1 ≡ b → (first_of l ≡ 0 ↔ ((m : ℕ) → test_of m l ≡ false))
        → cond t.1 t.0 (first_of l) ≡ 0 ↔ ((m : ℕ) → test_of m (t ∷ l) ≡ false)
    go true p r = (
      λ f. let i : t.0 ≡ 0 = rw p at f in absurd (omega (arith, h.0)),
      λ g. impossible (sym (g t.0) ∙ row_first t l t.0 refl ∙ p),
    )
    go false p r = (
      λ f m. row_skip (suc k) t l h p m ∙ r.0 (rw p at f) m,
      λ g. rw p (r.1 (λ m. sym (row_skip (suc k) t l h p m) ∙ g m)),
    )

-- what is given is no larger than the last row's number
pub first_most : (k : ℕ) (l : List (ℕ × Bool)) → Numbered (suc k) l → first_of l ≤ k + length l
unfolding first_of
first_most k [] h = zero-le
first_most k (t ∷ l) h = go t.1 (first_most (suc k) l h.1)
  where
    go : (b : Bool) → first_of l ≤ suc k + length l → cond b t.0 (first_of l) ≤ k + suc (length l)
    go true r = omega (arith, h.0)
    go false r = omega arith

-- ---- document 01's table

module _ (c : Case) where
  -- its rows are numbered from 1 on
  pub tests_numbered : Numbered 1 (tests c)
  unfolding tests
  tests_numbered = (refl, (refl, (refl, (refl, (refl, (refl, (refl, (refl, (refl, (refl, (refl, (refl, (refl, (refl, (refl, (refl, tt))))))))))))))))

  -- and there are sixteen
  pub tests_most : first_of (tests c) ≤ 16
  unfolding tests
  tests_most = first_most 0 (tests c) tests_numbered

  -- the check gives the first of 1 to 16 that applies
  pub tests_first : (n : ℕ) → (n ≡ 0 → ⊥)
      → first_of (tests c) ≡ n ↔ (test_of n (tests c) ≡ true) × ((m : ℕ) → m < n → test_of m (tests c) ≡ false)
  tests_first n z = first_row 1 (tests c) tests_numbered n z

  -- and none exactly when none does
  pub tests_none : first_of (tests c) ≡ 0 ↔ ((m : ℕ) → test_of m (tests c) ≡ false)
  tests_none = first_no_row 0 (tests c) tests_numbered
