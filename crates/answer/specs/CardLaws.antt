-- Laws of cards: what the definitions say, part by part, and that cards that compare the same are one card.
-- zero_true, zero_replicate, zero_append, zero_value; field_exactly, field_form, field_same; same_hashes_true,
-- same_hashes_refl; same_card_true, same_card_refl.
-- The definitions are in Card. Hashes have any length. Assumes nothing.
use Rattle.std.specs.Prelude.{ℕ, zero, suc, ◌+◌, ◌-◌, ◌^◌, ◌≤◌, ◌<◌, ◌↔◌, ◌≡◌, refl, Bool, true, false, cond, List, [], ◌∷◌, ◌++◌, eqb, leb, length, take, drop, replicate}
use Rattle.std.proofs.Common.{zero-mul, zero-add, arith, sym, ap, ap₂, ◌∙◌, take-append-drop, length-drop, length-take-le, eqb-true, leb-true, eq-eqb, ne_eqb, le-leb}
use Rattle.octets.specs.Number.{value_of}
use Rattle.octets.specs.NumberLaws.{pow256_pos, value_low}
use Rattle.octets.specs.Same.{same_of}
use Rattle.octets.specs.SameLaws.{impossible, same_true, same_refl}
use Rattle.content.specs.Serial.{serial_ok}
use Rattle.answer.specs.declared.Card.{Card}
use Rattle.answer.specs.Card.{all_zero, field_ok, same_hashes, same_card}

-- two tests that both hold
both : (t u : Bool) → cond t u false ≡ true → (t ≡ true) × (u ≡ true)
both true u e = (refl, e)
both false u e = impossible e

-- ---- the fill

-- it is zeros, and nothing else
pub zero_true : (s : List ℕ) → all_zero s ≡ true → s ≡ replicate (length s) 0
unfolding all_zero
zero_true [] e = refl
zero_true (x ∷ s) e =
    let p = both (eqb x 0) (all_zero s) e in
    ap₂ (λ (y : ℕ) (t : List ℕ). y ∷ t) (eqb-true x 0 p.0) (zero_true s p.1)

pub zero_replicate : (n : ℕ) → all_zero (replicate n 0) ≡ true
unfolding all_zero
zero_replicate zero = refl
zero_replicate (suc n) = zero_replicate n

-- of two parts
pub zero_append : (a b : List ℕ) → all_zero (a ++ b) ≡ cond (all_zero a) (all_zero b) false
unfolding all_zero
zero_append [] b = refl
zero_append (x ∷ a) b = go (eqb x 0) (zero_append a b)
  where
    go : (t : Bool) → all_zero (a ++ b) ≡ cond (all_zero a) (all_zero b) false → cond t (all_zero (a ++ b)) false ≡ cond (cond t (all_zero a) false) (all_zero b) false
    go true h = h
    go false h = refl

-- octets are zeros exactly where their number is 0
pub zero_value : (s : List ℕ) → eqb (value_of s) 0 ≡ all_zero s
unfolding all_zero value_of
zero_value [] = refl
zero_value (zero ∷ s) = ap (λ (n : ℕ). eqb n 0) (ap (λ (n : ℕ). n + value_of s) (zero-mul (256 ^ length s)) ∙ zero-add (value_of s)) ∙ zero_value s
zero_value (suc x ∷ s) =
    let l : 256 ^ length s ≤ value_of (suc x ∷ s) = value_low (suc x) s (omega arith) in
    let o : 0 < 256 ^ length s = pow256_pos (length s) in
    ne_eqb (value_of (suc x ∷ s)) 0 (λ e. omega arith) ∙ sym (rw (ne_eqb (suc x) 0 (λ e. omega arith)))

-- ---- a serial in its field

module _ (size : ℕ) (field : List ℕ) where
  -- it keeps the serial rule, and its fill is zeros
  pub field_exactly : field_ok size field ≡ true ↔ (size ≤ 20) × (serial_ok (take size field) ≡ true) × (all_zero (drop size field) ≡ true)
  unfolding field_ok
  field_exactly = (
    λ e.
        let p = both (leb size 20) (cond (serial_ok (take size field)) (all_zero (drop size field)) false) e in
        let q = both (serial_ok (take size field)) (all_zero (drop size field)) p.1 in
        (leb-true size 20 p.0, q.0, q.1),
    λ h. rw (le-leb size 20 h.0, h.1) h.2,
  )

  -- it is the serial's octets and then zeros
  pub field_form : field_ok size field ≡ true → field ≡ take size field ++ replicate (length field - size) 0
  field_form e =
      sym (take-append-drop size field)
      ∙ ap (λ (t : List ℕ). take size field ++ t) (zero_true (drop size field) (field_exactly.0 e).2 ∙ ap (λ (n : ℕ). replicate n 0) (length-drop size field))

-- in a field of twenty octets the serial's octets fix the size and the field
pub field_same : (m n : ℕ) (s t : List ℕ) → length s ≡ 20 → length t ≡ 20 → field_ok m s ≡ true → field_ok n t ≡ true → take m s ≡ take n t
    → (m ≡ n) × (s ≡ t)
field_same m n s t k l p q e =
    let a : length (take m s) ≡ m = length-take-le m s (omega (arith, ((field_exactly m s).0 p).0)) in
    let b : length (take n t) ≡ n = length-take-le n t (omega (arith, ((field_exactly n t).0 q).0)) in
    let z : m ≡ n = sym a ∙ ap length e ∙ b in
    let r : length s - m ≡ length t - n = omega arith in (
      z,
      field_form m s p ∙ ap₂ (λ (u : List ℕ) (j : ℕ). u ++ replicate j 0) e r ∙ sym (field_form n t q),
    )

-- ---- two cards

-- hashes that compare the same are the same
pub same_hashes_true : (n k m l : List ℕ) → same_hashes n k m l ≡ true → (n ≡ m) × (k ≡ l)
unfolding same_hashes
same_hashes_true n k m l e =
    let p = both (same_of n m) (same_of k l) e in
    (same_true n m p.0, same_true k l p.1)

pub same_hashes_refl : (n k : List ℕ) → same_hashes n k n k ≡ true
unfolding same_hashes
same_hashes_refl n k = rw (same_refl n) (same_refl k)

-- cards that compare the same are one
pub same_card_true : (a b : Card) → same_card a b ≡ true → a ≡ b
unfolding same_card
same_card_true a b e =
    let p = both (same_hashes a.name a.key b.name b.key) (cond (same_of a.serial b.serial) (eqb a.size b.size) false) e in
    let q = both (same_of a.serial b.serial) (eqb a.size b.size) p.1 in
    let h = same_hashes_true a.name a.key b.name b.key p.0 in
    let s : a.serial ≡ b.serial = same_true a.serial b.serial q.0 in
    let n : a.size ≡ b.size = eqb-true a.size b.size q.1 in
    λ i. record { name = h.0 i; key = h.1 i; serial = s i; size = n i }

-- a card is the same as itself
pub same_card_refl : (c : Card) → same_card c c ≡ true
unfolding same_card
same_card_refl c = rw (same_hashes_refl c.name c.key, same_refl c.serial) (eq-eqb c.size c.size refl)
