-- A refused header is at fault at the end of what holds it where it is cut off, else at its tag.
-- head_place. The definitions are in Head.
-- Assumes nothing.
use Rattle.std.specs.Prelude.{ℕ, ◌+◌, ◌-◌, ◌≡◌, Bool, cond, List, [], ◌∷◌, leb, length, take, Err}
use Rattle.std.proofs.Common.{arith, sym}
use Rattle.std.proofs.Math.Path.{refl}
use Rattle.std.proofs.Math.Bool.{true, false}
use Rattle.std.proofs.Math.Dec.{ltb, eqb}
use borrow.Author.Tests.{ltb-true, ltb-false, eqb-true, lt-ltb, le-ltb, ne_eqb}
use Rattle.octets.specs.Number.{value_of}
use Rattle.element.specs.Tag.{tag_ok}
use Rattle.element.specs.Length.{shortest}
use Rattle.element.specs.Header.{inside_of, long_of, length_at, header_of}
use Rattle.element.specs.Places.{HeaderRead, misfit}
use Rattle.element.specs.PlacesLaws.{same_place}
use Rattle.faults.specs.Head.{more_of, cut_off}

-- where it is refused at all, it is refused here
abbrev At : ℕ → HeaderRead → Type 0
At c x = (p : ℕ) → x ≡ Err (misfit p) → p ≡ c

at_refused : (c : ℕ) → At c (Err (misfit c))
at_refused c p e = sym (same_place e)

at_cond : (c : ℕ) (b : Bool) (x y : HeaderRead) → At c x → At c y → At c (cond b x y)
at_cond c true x y v w = v
at_cond c false x y v w = w

at_inside : (m t h n : ℕ) → At 0 (inside_of m t h n)
unfolding inside_of
at_inside m t h n = at_cond 0 (leb n (m - h)) _ _ (λ p e. let z : ◌≡◌ {A = ℕ} 0 1 = cc in absurd (omega arith)) (at_refused 0)

module _ (t b : ℕ) (s : List ℕ) where
  abbrev given : List ℕ
  given = t ∷ b ∷ s

  -- the place, by how many more are announced
  abbrev placed : ℕ → ℕ
  placed k = cond (ltb (length s) k) (length given) 0

  none_more : placed 0 ≡ 0
  none_more = rw (le-ltb (length s) 0 (omega arith))

  long_place : (k : ℕ) → At (placed k) (long_of given t k)
  unfolding long_of
  long_place k = go (ltb (length s) k) refl
    where
      go : (z : Bool) → ltb (length s) k ≡ z → At (cond z (length given) 0) (long_of given t k)
      go true e = let l = lt-ltb (length given) (2 + k) (omega (arith, ltb-true (length s) k e)) in rw l (at_refused (length given))
      go false e =
          let l = le-ltb (length given) (2 + k) (omega (arith, ltb-false (length s) k e)) in
          rw l (at_cond 0 (shortest k (value_of (take k s))) _ _ (at_inside (length given) t (2 + k) (value_of (take k s))) (at_refused 0))

  length_place : At (placed (more_of b)) (length_at given t b)
  unfolding length_at more_of
  length_place = go (ltb b 128) (ltb 136 b) (eqb b 128) refl
    where
      go : (x y z : Bool) → eqb b 128 ≡ z
          → At (placed (cond x 0 (cond y 0 (b - 128)))) (cond x (inside_of (length given) t 2 b) (cond z (Err (misfit 0)) (cond y (Err (misfit 0)) (long_of given t (b - 128)))))
      go true y z e = rw none_more (at_inside (length given) t 2 b)
      go false true z e = rw none_more (at_cond 0 z _ _ (at_refused 0) (at_refused 0))
      go false false true e =
          let i : b - 128 ≡ 0 = omega (arith, eqb-true b 128 e) in
          rw (i, none_more) (at_refused 0)
      go false false false e = long_place (b - 128)

  tag_place : At (cond (cond (tag_ok t) (ltb (length s) (more_of b)) false) (length given) 0) (header_of given)
  unfolding header_of
  tag_place =
      let z = ne_eqb (length given) 0 (omega arith) in
      let two = le-ltb (length given) 2 (omega arith) in
      rw (z, two) (go (tag_ok t))
    where
      go : (k : Bool) → At (cond (cond k (ltb (length s) (more_of b)) false) (length given) 0) (cond k (length_at given t b) (Err (misfit 0)))
      go true = length_place
      go false = at_refused 0

pub head_place : (s : List ℕ) (p : ℕ) → header_of s ≡ Err (misfit p) → p ≡ cond (cut_off s) (length s) 0
unfolding header_of cut_off
head_place [] p e = sym (same_place e)
head_place (t ∷ []) p e = go (tag_ok t) p e
  where
    go : (k : Bool) → At (cond k 1 0) (cond k (Err (misfit 1)) (Err (misfit 0)))
    go true = at_refused 1
    go false = at_refused 0
head_place (t ∷ b ∷ s) p e = tag_place t b s p e
