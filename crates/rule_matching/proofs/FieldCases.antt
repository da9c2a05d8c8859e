-- The cases of a CertID's octets compared with fields: the last octet, then one of two heads.
-- long_name, long_key, long_serial, other_last, null_same, plain_same, in field_cases.
-- The comparison with one head is in FormCases. Assumes nothing.
use Prim.Native.Nat.{ℕ, ◌-◌, ◌≤◌, ◌<◌}
use native.Mathlib.Omega.{arith}
use mathlib.Core.Path.{◌≡◌, refl, sym, ap, ◌∙◌}
use mathlib.Core.Bool.{Bool, true, false, ◌||◌, or-false}
use mathlib.Core.List.{List, [], ◌∷◌, ◌++◌}
use lib.ListN.{length, get_or, length-append}
use borrow.Author.Tests.{le-leb, lt-leb}
use Rattle.octets.specs.Same.{same_of}
use Rattle.octets.specs.SameLaws.{same_true}
use Rattle.element.specs.Form.{form_of}
use Rattle.layout.specs.Sha1.{plain_head, null_head}
use Rattle.rule_matching.specs.CertForm.{card_form, is_card_octets, last_of, is_fields}
use Rattle.rule_matching.proofs.FieldsLaws.{fields_card}
use Rattle.rule_matching.proofs.FormCases.{short_form, short_length}

-- ---- the last octet

last_cons : (x : ℕ) (r : List ℕ) → 0 < length r → last_of (x ∷ r) ≡ last_of r
last_cons x [] h = absurd (omega arith)
last_cons x (z ∷ q) h =
    let e : length (x ∷ z ∷ q) - 1 ≡ length (z ∷ q) = omega arith in
    let f : length (z ∷ q) - 1 ≡ length q = omega arith in
    ap (λ (k : ℕ). get_or (x ∷ z ∷ q) k 0) e ∙ sym (ap (λ (k : ℕ). get_or (z ∷ q) k 0) f)

last_append : (s t : List ℕ) → 0 < length t → last_of (s ++ t) ≡ last_of t
last_append [] t h = refl
last_append (x ∷ s) t h = last_cons x (s ++ t) (omega (arith, length-append s t)) ∙ last_append s t h

-- a tag and a length octet before a content
last_content : (t : ℕ) (c : List ℕ) → last_of (t ∷ length c ∷ c) ≡ last_of c
last_content t [] = last_cons t (0 ∷ []) (omega arith)
last_content t (y ∷ c) = last_cons t (length (y ∷ c) ∷ y ∷ c) (omega arith) ∙ last_cons (length (y ∷ c)) (y ∷ c) (omega arith)

-- the octets of a CertID's content end as its serial does
last_form : (head name key serial : List ℕ) → length serial < 128 → last_of (card_form head name key serial) ≡ last_of serial
unfolding card_form
last_form head name key serial h =
    let z = short_length 0x02 serial h in
    let k : 0 < length (form_of 0x04 key ++ form_of 0x02 serial) = omega (arith, length-append (form_of 0x04 key) (form_of 0x02 serial)) in
    let n : 0 < length (form_of 0x04 name ++ (form_of 0x04 key ++ form_of 0x02 serial)) =
    omega (arith, length-append (form_of 0x04 name) (form_of 0x04 key ++ form_of 0x02 serial)) in
    last_append head (form_of 0x04 name ++ (form_of 0x04 key ++ form_of 0x02 serial)) n
    ∙ last_append (form_of 0x04 name) (form_of 0x04 key ++ form_of 0x02 serial) k
    ∙ last_append (form_of 0x04 key) (form_of 0x02 serial) (omega arith)
    ∙ ap last_of (short_form [] 0x02 serial h)
    ∙ last_content 0x02 serial

-- ---- one of two heads

either : (a b : Bool) → b ≡ true → a || (b || false) ≡ true
either true b t = refl
either false b t = rw t

module _ (name key serial part : List ℕ) where
  pub long_name : 127 < length name → false ≡ is_fields name key serial part
  unfolding is_fields
  long_name h = sym (rw (lt-leb (length name) 127 h))

  module _ (n : length name ≤ 127) where
    pub long_key : 127 < length key → false ≡ is_fields name key serial part
    unfolding is_fields
    long_key h = sym (rw (le-leb (length name) 127 n, lt-leb (length key) 127 h))

    module _ (k : length key ≤ 127) where
      pub long_serial : 127 < length serial → false ≡ is_fields name key serial part
      unfolding is_fields
      long_serial h = sym (rw (le-leb (length name) 127 n, le-leb (length key) 127 k, lt-leb (length serial) 127 h))

      module _ (s : length serial ≤ 127) where
        -- another last octet: neither head
        other_end : (last_of part ≡ last_of serial → ⊥) → (head : List ℕ) → same_of part (card_form head name key serial) ≡ false
        other_end d head = go (same_of part (card_form head name key serial)) refl
          where
            go : (r : Bool) → same_of part (card_form head name key serial) ≡ r → r ≡ false
            go false e = refl
            go true e = absurd (d (ap last_of (same_true part (card_form head name key serial) e) ∙ last_form head name key serial (omega arith)))

        pub other_last : (x y : ℕ) → x ≡ last_of part → y ≡ last_of serial → (x ≡ y → ⊥) → false ≡ is_fields name key serial part
        unfolding is_card_octets
        other_last x y p q d =
            let e = other_end (λ i. d (p ∙ i ∙ sym q)) in
            sym (fields_card name key serial part n k s ∙ rw (e plain_head, e null_head))

        module _ (r : Bool) (e : r ≡ same_of part (card_form null_head name key serial)) where
          pub null_same : r ≡ true → true ≡ is_fields name key serial part
          unfolding is_card_octets
          null_same t = sym (fields_card name key serial part n k s ∙ either (same_of part (card_form plain_head name key serial)) (same_of part (card_form null_head name key serial)) (sym e ∙ t))

          pub plain_same : r ≡ false → (w : Bool) → w ≡ same_of part (card_form plain_head name key serial) → w ≡ is_fields name key serial part
          unfolding is_card_octets
          plain_same t w i = sym (fields_card name key serial part n k s ∙ simp (← e, t, ← i, or-false))

pub ruleset field_cases = (long_name, long_key, long_serial, other_last, null_same, plain_same)
