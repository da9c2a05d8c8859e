-- Laws of the content of an OID: what document 01 says of it, one by one.
-- oid_some, oid_first, oid_part, oid_last.
-- The definition is in Oid. Assumes nothing.
use Rattle.std.specs.Prelude.{ℕ, ◌<◌, ◌≡◌, refl, Bool, true, false, cond, List, [], ◌∷◌, ◌++◌, eqb, ltb, length}
use Rattle.std.proofs.Common.{zero-lt-suc, ap, ltb-true, lt-ltb}
use Rattle.octets.specs.SameLaws.{impossible}
use Rattle.content.specs.Oid.{oid_from, oid_ok}

-- it has content
pub oid_some : (s : List ℕ) → oid_ok s ≡ true → 0 < length s
unfolding oid_ok
oid_some [] e = impossible e
oid_some (x ∷ s) e = zero-lt-suc (length s)

-- the first part does not begin with 80 hex
pub oid_first : (s : List ℕ) → oid_ok (128 ∷ s) ≡ false
unfolding oid_ok oid_from
oid_first s = refl

-- nor does a part after another
part_from : (b : Bool) (s : List ℕ) (x : ℕ) (t : List ℕ) → x < 128 → oid_from b (s ++ (x ∷ 128 ∷ t)) ≡ false
unfolding oid_from
part_from true [] x t h = go (eqb x 128) (ap (λ (b : Bool). oid_from b (128 ∷ t)) (lt-ltb x 128 h))
  where
    go : (u : Bool) → oid_from (ltb x 128) (128 ∷ t) ≡ false → cond u false (oid_from (ltb x 128) (128 ∷ t)) ≡ false
    go true e = refl
    go false e = e
part_from false [] x t h = ap (λ (b : Bool). oid_from b (128 ∷ t)) (lt-ltb x 128 h)
part_from true (y ∷ s) x t h = go (eqb y 128) (part_from (ltb y 128) s x t h)
  where
    go : (u : Bool) → oid_from (ltb y 128) (s ++ (x ∷ 128 ∷ t)) ≡ false → cond u false (oid_from (ltb y 128) (s ++ (x ∷ 128 ∷ t))) ≡ false
    go true e = refl
    go false e = e
part_from false (y ∷ s) x t h = part_from (ltb y 128) s x t h

pub oid_part : (s : List ℕ) (x : ℕ) (t : List ℕ) → x < 128 → oid_ok (s ++ (x ∷ 128 ∷ t)) ≡ false
unfolding oid_ok
oid_part [] x t h = part_from true [] x t h
oid_part (y ∷ s) x t h = part_from true (y ∷ s) x t h

-- the last octet is below 80 hex
last_from : (b : Bool) (s : List ℕ) (x : ℕ) → oid_from b (s ++ (x ∷ [])) ≡ true → x < 128
unfolding oid_from
last_from true [] x e = go (eqb x 128) e
  where
    go : (u : Bool) → cond u false (ltb x 128) ≡ true → x < 128
    go true e = impossible e
    go false e = ltb-true x 128 e
last_from false [] x e = ltb-true x 128 e
last_from true (y ∷ s) x e = go (λ r. last_from (ltb y 128) s x r) (eqb y 128) e
  where
    go : (oid_from (ltb y 128) (s ++ (x ∷ [])) ≡ true → x < 128) → (u : Bool) → cond u false (oid_from (ltb y 128) (s ++ (x ∷ []))) ≡ true → x < 128
    go rest true e = impossible e
    go rest false e = rest e
last_from false (y ∷ s) x e = last_from (ltb y 128) s x e

pub oid_last : (s : List ℕ) (x : ℕ) → oid_ok (s ++ (x ∷ [])) ≡ true → x < 128
unfolding oid_ok
oid_last [] x e = last_from true [] x e
oid_last (y ∷ s) x e = last_from true (y ∷ s) x e
