-- Laws of a CertID's octets compared with fields that are lent.
-- fields_card; serial_taken.
-- The definitions are in CertForm. Assumes nothing.
use Rattle.std.specs.Prelude.{ℕ, ◌≤◌, min, ◌≡◌, refl, Bool, true, false, List, leb, length, take}
use Rattle.std.proofs.Math.Nat.{min-eq_left, min-eq_right}
use Rattle.std.proofs.Common.{arith, sym, ap, ◌∙◌, take_all, leb-true, leb-false, le-leb}
use Rattle.rule_matching.specs.CertForm.{sha1_heads, is_card_octets, is_fields}

-- fields that are not too long
pub fields_card : (name key serial part : List ℕ) → length name ≤ 127 → length key ≤ 127 → length serial ≤ 127
    → is_fields name key serial part ≡ is_card_octets sha1_heads name key serial part
unfolding is_fields
fields_card name key serial part n k s = rw (le-leb (length name) 127 n, le-leb (length key) 127 k, le-leb (length serial) 127 s)

-- the serial is the octets of the field that the size says
pub serial_taken : (field : List ℕ) (size n : ℕ) → length field ≡ 20 → n ≡ min size 20 → take n field ≡ take size field
serial_taken field size n l q = go (leb size 20) refl
  where
    go : (b : Bool) → leb size 20 ≡ b → take n field ≡ take size field
    go true e = ap (λ (k : ℕ). take k field) (q ∙ min-eq_left (leb-true size 20 e))
    go false e =
        let g = leb-false size 20 e in
        take_all n field (omega (arith, min-eq_right {n = 20} {m = size} (omega arith))) ∙ sym (take_all size field (omega arith))
