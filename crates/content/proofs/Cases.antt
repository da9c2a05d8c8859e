-- What the code knows at each return and in each turn, and what follows there.
-- oid_empty, oid_start, oid_80, oid_begins, oid_goes, oid_end; serial_empty, serial_long, serial_high, serial_one,
-- serial_plain, serial_zero.
-- Assumes nothing.
use Prim.Native.Nat.{ℕ, suc, ◌+◌, ◌<◌, ◌≤◌}
use native.Mathlib.Numerals.{add-one}
use native.Mathlib.Omega.{arith}
use mathlib.Core.Path.{◌≡◌, refl, sym, ap, ◌∙◌}
use mathlib.Core.Bool.{Bool, true, false, cond}
use mathlib.Core.List.{List, [], ◌∷◌}
use lib.Dec.{leb, ltb}
use lib.ListN.{length, get_or, drop, drop_of_length-le}
use lib.Seq.{drop-cons}
use borrow.Author.Tests.{eq-eqb, ne_eqb, le-leb, lt-leb, lt-ltb, le-ltb}
use Rattle.octets.specs.SameLaws.{impossible}
use Rattle.content.specs.Oid.{oid_from, oid_ok}
use Rattle.content.specs.Serial.{lead_ok, serial_ok}

-- ---- an OID's octets: the answer is that of the rest, where a part begins or goes on

pub oid_empty : (s : List ℕ) → length s ≡ 0 → false ≡ oid_ok s
unfolding oid_ok
oid_empty [] z = refl
oid_empty (x ∷ s) z = absurd (omega arith)

pub oid_start : (s : List ℕ) → (length s ≡ 0 → ⊥) → oid_from true s ≡ oid_ok s
unfolding oid_ok
oid_start [] z = absurd (z refl)
oid_start (x ∷ s) z = refl

module _ (s : List ℕ) (i : ℕ) where
  -- at the end
  pub oid_end : (b : Bool) → oid_from b (drop i s) ≡ oid_ok s → length s ≤ i → b ≡ oid_ok s
  unfolding oid_from
  oid_end b p l = sym (ap (oid_from b) (drop_of_length-le s l)) ∙ p

  head : (b : Bool) → i < length s → oid_from b (drop i s) ≡ oid_from b (get_or s i 0 ∷ drop (i + 1) s)
  head b h = rw (add-one i, drop-cons s i 0 h)

  -- a part begins with 80 hex
  pub oid_80 : (b : Bool) → oid_from b (drop i s) ≡ oid_ok s → i < length s → b ≡ true → get_or s i 0 ≡ 128 → false ≡ oid_ok s
  unfolding oid_from
  oid_80 true p h t e = rw (eq-eqb (get_or s i 0) 128 e) at (sym (head true h)) ∙ p
  oid_80 false p h t e = impossible t

  -- a part begins
  pub oid_begins : (b : Bool) → oid_from b (drop i s) ≡ oid_ok s → i < length s → b ≡ true → (get_or s i 0 ≡ 128 → ⊥)
      → oid_from (ltb (get_or s i 0) 128) (drop (i + 1) s) ≡ oid_ok s
  unfolding oid_from
  oid_begins true p h t e = rw (ne_eqb (get_or s i 0) 128 e) at (sym (head true h)) ∙ p
  oid_begins false p h t e = impossible t

  -- a part goes on
  pub oid_goes : (b : Bool) → oid_from b (drop i s) ≡ oid_ok s → i < length s → b ≡ false → oid_from (ltb (get_or s i 0) 128) (drop (i + 1) s) ≡ oid_ok s
  unfolding oid_from
  oid_goes true p h t = impossible (sym t)
  oid_goes false p h t = sym (head false h) ∙ p

-- ---- a serial

pub serial_empty : (s : List ℕ) → length s ≡ 0 → false ≡ serial_ok s
unfolding serial_ok
serial_empty [] z = refl
serial_empty (x ∷ s) z = absurd (omega arith)

pub serial_long : (s : List ℕ) → 20 < length s → false ≡ serial_ok s
unfolding serial_ok
serial_long [] h = refl
serial_long (x ∷ s) h = sym (rw (lt-leb (suc (length s)) 20 h))

pub serial_high : (s : List ℕ) → 128 ≤ get_or s 0 0 → false ≡ serial_ok s
unfolding serial_ok
serial_high [] h = refl
serial_high (x ∷ s) h = sym (rw (le-ltb x 128 h) (go (leb (suc (length s)) 20)))
  where
    go : (u : Bool) → cond u false false ≡ false
    go true = refl
    go false = refl

pub serial_one : (s : List ℕ) → get_or s 0 0 < 128 → length s ≡ 1 → true ≡ serial_ok s
unfolding serial_ok lead_ok
serial_one [] h o = absurd (omega arith)
serial_one (x ∷ []) h o = sym (rw (lt-ltb x 128 h))
serial_one (x ∷ y ∷ s) h o = absurd (omega arith)

-- a first octet that is not zero
pub serial_plain : (s : List ℕ) → (length s ≡ 0 → ⊥) → length s ≤ 20 → get_or s 0 0 < 128 → (get_or s 0 0 ≡ 0 → ⊥) → true ≡ serial_ok s
unfolding serial_ok lead_ok
serial_plain [] z l h n = absurd (z refl)
serial_plain (x ∷ []) z l h n = sym (rw (lt-ltb x 128 h))
serial_plain (x ∷ y ∷ s) z l h n = sym (rw (le-leb (suc (suc (length s))) 20 l, lt-ltb x 128 h, ne_eqb x 0 n))

-- a leading zero that is not alone
pub serial_zero : (s : List ℕ) → (length s ≡ 0 → ⊥) → length s ≤ 20 → get_or s 0 0 ≡ 0 → (length s ≡ 1 → ⊥) → leb 128 (get_or s 1 0) ≡ serial_ok s
unfolding serial_ok lead_ok
serial_zero [] z l n o = absurd (z refl)
serial_zero (x ∷ []) z l n o = absurd (o refl)
serial_zero (x ∷ y ∷ s) z l n o = sym (rw (le-leb (suc (suc (length s))) 20 l, lt-ltb x 128 (omega arith), eq-eqb x 0 n))
