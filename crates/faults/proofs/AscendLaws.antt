-- The faults of a layout ascend from the head of the list to its end, whatever the list is.
-- item_ascends, line_ascends.
-- Assumes nothing.
use Rattle.std.specs.Prelude.{ℕ, zero, suc, ◌+◌, ◌-◌, ◌≤◌, ◌≡◌, refl, Bool, cond, eqb, length, take, Ok, Err}
use native.Mathlib.Omega.{arith}
use Rattle.std.proofs.Math.Bool.{true, false}
use mathlib.Core.List.{List, [], ◌∷◌, ◌++◌}
use Rattle.std.proofs.Math.ListN.{drop, length-drop}
use Rattle.std.proofs.Common.{length-take-le}
use Rattle.element.specs.Header.{header_of}
use Rattle.element.specs.HeaderLaws.{header_inside, header_within}
use Rattle.element.specs.Places.{HeaderRead}
use Rattle.codec.specs.Starts.{starts_with}
use Rattle.codec.specs.Keys.{new_test}
use Rattle.codec.specs.Tree.{constructed}
use Rattle.faults.specs.Description.{Item, leaf, around, either, free, free_with, Line, nothing, then, perhaps, one_or_none, several, distinct, depending}
use Rattle.faults.specs.Faults.{shift, unless, content_at, after_in, then_faults, end_faults, perhaps_faults, one_faults, several_faults, any_faults, keys_at, distinct_faults, tagged_in, leaf_faults, around_faults, free_in, free_faults, free_with_faults, keyed_faults, item_faults, line_faults}
use Rattle.faults.specs.Order.{Ascending}
use Rattle.faults.proofs.OrderLaws.{ascend_from, ascend_append, ascend_later, ascend_unless, ascend_cond}

-- ── rows ──
-- where the element at the head ends, or the list where its header is refused
abbrev end_in : List ℕ → HeaderRead → ℕ
end_in s (Ok h) = h.start + h.len
end_in s (Err p) = length s

abbrev HeadAscends : (List ℕ → List ℕ) → Type 0
HeadAscends f = (s : List ℕ) → Ascending 0 (f s) (end_in s (header_of s))

abbrev WholeAscends : (List ℕ → List ℕ) → Type 0
WholeAscends g = (s : List ℕ) → Ascending 0 (g s) (length s)

end_ascends : WholeAscends end_faults
unfolding end_faults
end_ascends [] = omega arith
end_ascends (x ∷ s) = (omega arith, omega arith)

module _ (f : List ℕ → List ℕ) (heads : HeadAscends f) where
  then_ascends : (g : List ℕ → List ℕ) → WholeAscends g → WholeAscends (then_faults f g)
  unfolding then_faults
  then_ascends g tails s =
      ascend_append 0 (end_in s (header_of s)) (length s) (f s) (after_in g s (header_of s)) (heads s) (go (header_of s) refl)
    where
      go : (x : HeaderRead) → header_of s ≡ x → Ascending (end_in s x) (after_in g s x) (length s)
      go (Err p) ex = omega arith
      go (Ok h) ex =
          let i = header_inside s h.tag h.start h.len ex in
          let r = drop (h.start + h.len) s in
          ascend_later (h.start + h.len) (length r) (length s) (g r) (tails r) (simp length-drop (omega arith))

  perhaps_ascends : (t : ℕ) (g : List ℕ → List ℕ) → WholeAscends g → WholeAscends (perhaps_faults t f g)
  unfolding perhaps_faults
  perhaps_ascends t g tails s = go (starts_with t s)
    where
      go : (b : Bool) → Ascending 0 (cond b (then_faults f g s) (g s)) (length s)
      go true = then_ascends g tails s
      go false = tails s

  one_ascends : WholeAscends (one_faults f)
  unfolding one_faults
  one_ascends [] = omega arith
  one_ascends (x ∷ s) = then_ascends end_faults end_ascends (x ∷ s)

several_ascends : (f : List ℕ → List ℕ) → HeadAscends f → (lo k : ℕ) → WholeAscends (several_faults f lo k)
unfolding several_faults
several_ascends f heads lo zero [] = ascend_unless (eqb lo 0) 0
several_ascends f heads lo zero (x ∷ s) = (omega arith, omega arith)
several_ascends f heads lo (suc k) [] = ascend_unless (eqb lo 0) 0
several_ascends f heads lo (suc k) (x ∷ s) = then_ascends f heads (several_faults f (lo - 1) k) (several_ascends f heads (lo - 1) k) (x ∷ s)

any_ascends : (f : List ℕ → List ℕ) → HeadAscends f → WholeAscends (any_faults f)
unfolding any_faults
any_ascends f heads s = several_ascends f heads 0 (length s) s

distinct_ascends : (keys : List ℕ → List (List ℕ)) (f : List (List ℕ) → List ℕ → List ℕ) → ((seen : List (List ℕ)) → HeadAscends (f seen))
    → (seen : List (List ℕ)) (lo k : ℕ) → WholeAscends (distinct_faults keys f seen lo k)
unfolding distinct_faults
distinct_ascends keys f heads seen lo zero [] = ascend_unless (eqb lo 0) 0
distinct_ascends keys f heads seen lo zero (x ∷ s) = (omega arith, omega arith)
distinct_ascends keys f heads seen lo (suc k) [] = ascend_unless (eqb lo 0) 0
distinct_ascends keys f heads seen lo (suc k) (x ∷ s) =
    then_ascends (f seen) (heads seen) (distinct_faults keys f (keys (x ∷ s) ++ seen) (lo - 1) k)
    (distinct_ascends keys f heads (keys (x ∷ s) ++ seen) (lo - 1) k) (x ∷ s)

-- ── elements ──
content_size : (s : List ℕ) (h n : ℕ) → h + n ≤ length s → length (take n (drop h s)) ≡ n
content_size s h n le = length-take-le n (drop h s) (simp length-drop (omega arith))

tagged_ascends : (u : ℕ) (f : ℕ → List ℕ → List ℕ) → ((h : ℕ) (c : List ℕ) → Ascending 0 (f h c) (h + length c))
    → HeadAscends (λ s. tagged_in u f s (header_of s))
tagged_ascends u f inside s = go (header_of s) refl
  where
    on : (h n : ℕ) (c : List ℕ) → length c ≡ n → (b : Bool) → Ascending 0 (cond b (f h c) (0 ∷ [])) (h + n)
    on h n c e true = rw e at (inside h c)
    on h n c e false = (omega arith, omega arith)

    go : (x : HeaderRead) → header_of s ≡ x → Ascending 0 (tagged_in u f s x) (end_in s x)
    go (Err p) ex = (omega arith, header_within s p.place ex)
    go (Ok h) ex = on h.start h.len (take h.len (drop h.start s)) (content_size s h.start h.len (header_inside s h.tag h.start h.len ex).1) (eqb h.tag u)

inner_ascends : (g : List ℕ → List ℕ) → WholeAscends g → (h : ℕ) (c : List ℕ) → Ascending 0 (shift h (g c)) (h + length c)
inner_ascends g w h c = ascend_from 0 h (h + length c) (shift h (g c)) (omega arith) (ascend_later h (length c) (h + length c) (g c) (w c) (omega arith))

leaf_ascends : (t : ℕ) (test : List ℕ → Bool) → HeadAscends (leaf_faults t test)
unfolding leaf_faults
leaf_ascends t test = tagged_ascends t (λ h c. unless (test c)) (λ h c. ascend_unless (test c) (h + length c))

around_ascends : (t : ℕ) (g : List ℕ → List ℕ) → WholeAscends g → HeadAscends (around_faults t g)
unfolding around_faults
around_ascends t g w = tagged_ascends t (λ h c. shift h (g c)) (inner_ascends g w)

free_ascends : (d : ℕ) → HeadAscends (free_faults d)
unfolding free_faults
free_ascends zero s = (omega arith, omega arith)
free_ascends (suc d) s = go (header_of s) refl (any_ascends (free_faults d) (free_ascends d))
  where
    on : (h n : ℕ) (c : List ℕ) → length c ≡ n → WholeAscends (any_faults (free_faults d)) → (b : Bool)
        → Ascending 0 (cond b (shift h (any_faults (free_faults d) c)) []) (h + n)
    on h n c e w true = rw e at (inner_ascends (any_faults (free_faults d)) w h c)
    on h n c e w false = omega arith

    go : (x : HeaderRead) → header_of s ≡ x → WholeAscends (any_faults (free_faults d))
        → Ascending 0 (free_in (free_faults d) s x) (end_in s x)
    go (Err p) ex w = (omega arith, header_within s p.place ex)
    go (Ok h) ex w = on h.start h.len (take h.len (drop h.start s)) (content_size s h.start h.len (header_inside s h.tag h.start h.len ex).1) w (constructed h.tag)

free_with_ascends : (u d : ℕ) → HeadAscends (free_with_faults u d)
unfolding free_with_faults
free_with_ascends u d s = go (header_of s) refl (free_ascends d s)
  where
    on : (k : ℕ) → Ascending 0 (free_faults d s) k → (b : Bool) → Ascending 0 (cond b (free_faults d s) (0 ∷ [])) k
    on k v true = v
    on k v false = (omega arith, omega arith)

    go : (x : HeaderRead) → header_of s ≡ x → Ascending 0 (free_faults d s) (end_in s x) → Ascending 0 (tagged_in u (λ h c. free_faults d s) s x) (end_in s x)
    go (Err p) ex v = (omega arith, header_within s p.place ex)
    go (Ok h) ex v = on (h.start + h.len) v (eqb h.tag u)

keyed_ascends : (t u : ℕ) (test : List ℕ → Bool) (g : List ℕ → List ℕ) → WholeAscends g → (seen : List (List ℕ))
    → HeadAscends (keyed_faults t u test g seen)
keyed_ascends t u test g w seen =
    around_ascends t (then_faults (leaf_faults u (new_test test seen)) g)
    (then_ascends (leaf_faults u (new_test test seen)) (leaf_ascends u (new_test test seen)) g w)

-- ── layouts ──
mutual
  unfolding item_faults line_faults

  pub item_ascends : (i : Item) (s : List ℕ) → Ascending 0 (item_faults i s) (end_in s (header_of s))
  item_ascends (leaf t test) s = leaf_ascends t test s
  item_ascends (around t l) s = around_ascends t (λ c. line_faults l c) (λ c. line_ascends l c) s
  item_ascends (either t i j) s = ascend_cond (starts_with t s) (item_faults i s) (item_faults j s) (end_in s (header_of s)) (item_ascends i s) (item_ascends j s)
  item_ascends (free d) s = free_ascends d s
  item_ascends (free_with t d) s = free_with_ascends t d s

  pub line_ascends : (l : Line) (s : List ℕ) → Ascending 0 (line_faults l s) (length s)
  line_ascends nothing s = end_ascends s
  line_ascends (then i l) s = then_ascends (λ r. item_faults i r) (λ r. item_ascends i r) (λ r. line_faults l r) (λ r. line_ascends l r) s
  line_ascends (perhaps t i l) s =
      perhaps_ascends (λ r. item_faults i r) (λ r. item_ascends i r) t (λ r. line_faults l r) (λ r. line_ascends l r) s
  line_ascends (one_or_none i) s = one_ascends (λ r. item_faults i r) (λ r. item_ascends i r) s
  line_ascends (several lo hi i) s = several_ascends (λ r. item_faults i r) (λ r. item_ascends i r) lo hi s
  line_ascends (distinct lo hi t u test l) s =
      distinct_ascends (keys_at t u) (keyed_faults t u test (λ r. line_faults l r)) (keyed_ascends t u test (λ r. line_faults l r) (λ r. line_ascends l r)) [] lo hi s
  line_ascends (depending i test l m) s =
      then_ascends (λ r. item_faults i r) (λ r. item_ascends i r) (λ r. cond (test (content_at s)) (line_faults l r) (line_faults m r))
      (λ r. ascend_cond (test (content_at s)) (line_faults l r) (line_faults m r) (length r) (line_ascends l r) (line_ascends m r)) s
