-- The cases of the functions that compare a CertID's octets: what each return has learned of them.
-- short_form, short_length; other_size, other_tag, other_length, content_same, in element_cases; other_end, other_serial,
-- other_name, other_key, head_same, in form_cases.
-- Assumes nothing.
use Prim.Native.Nat.{ℕ, ◌+◌, ◌-◌, ◌<◌}
use native.Mathlib.Omega.{arith}
use mathlib.Core.Path.{◌≡◌, refl, sym, ap, ◌∙◌}
use mathlib.Core.Bool.{Bool, true, false, cond, ◌&&◌, and-true, and-false}
use mathlib.Core.List.{List, [], ◌∷◌, ◌++◌}
use lib.Dec.{eqb}
use lib.ListN.{length, get_or, take, drop, length-append, length-drop}
use lib.Seq.{take_all, drop-drop}
use borrow.Author.Tests.{eq-eqb, ne_eqb}
use Rattle.octets.specs.Same.{same_of}
use Rattle.octets.specs.SameLaws.{same_short}
use Rattle.element.specs.Form.{form_of}
use Rattle.element.specs.LengthLaws.{length_short}
use Rattle.element.specs.HeaderFoundLaws.{first_two}
use Rattle.rule_matching.specs.CertForm.{card_form}

-- ---- an element of fewer than 128 octets

module _ (s : List ℕ) (t : ℕ) (c : List ℕ) (h : length c < 128) where
  pub short_form : form_of t c ≡ t ∷ length c ∷ c
  unfolding form_of
  short_form = rw (length_short (length c) h)

  pub other_size : (length s ≡ length c + 2 → ⊥) → false ≡ same_of s (form_of t c)
  other_size n = sym (rw short_form (same_short s (t ∷ length c ∷ c) (λ e. n (omega arith))))

  module _ (l : length s ≡ length c + 2) where
    by_octets : same_of s (form_of t c) ≡ cond (eqb (get_or s 0 0) t) (cond (eqb (get_or s 1 0) (length c)) (same_of (drop 2 s) c) false) false
    unfolding same_of
    by_octets = rw short_form (ap (λ (x : List ℕ). same_of x (t ∷ length c ∷ c)) (first_two s (omega arith)))

    pub other_tag : (get_or s 0 0 ≡ t → ⊥) → false ≡ same_of s (form_of t c)
    other_tag n = sym (by_octets ∙ rw (ne_eqb (get_or s 0 0) t n))

    module _ (e : get_or s 0 0 ≡ t) where
      pub other_length : (get_or s 1 0 ≡ length c → ⊥) → false ≡ same_of s (form_of t c)
      other_length n = sym (by_octets ∙ rw (eq-eqb (get_or s 0 0) t e, ne_eqb (get_or s 1 0) (length c) n))

      pub content_same : get_or s 1 0 ≡ length c → (r : Bool) → r ≡ same_of (take (length s - 2) (drop 2 s)) c → r ≡ same_of s (form_of t c)
      content_same i r q =
          q
          ∙ ap (λ (x : List ℕ). same_of x c) (take_all (length s - 2) (drop 2 s) (simp length-drop (omega arith)))
          ∙ sym (by_octets ∙ rw (eq-eqb (get_or s 0 0) t e, eq-eqb (get_or s 1 0) (length c) i))

pub short_length : (t : ℕ) (c : List ℕ) → length c < 128 → length (form_of t c) ≡ 2 + length c
short_length t c h = rw (short_form [] t c h) (omega arith)

-- ---- a head and three elements

-- octets are two lists joined where those up to the seam are the first and those after it the second
same_append : (s a b : List ℕ) → same_of s (a ++ b) ≡ same_of (take (length a) s) a && same_of (drop (length a) s) b
unfolding same_of
same_append s [] b = refl
same_append [] (y ∷ a) b = refl
same_append (x ∷ s) (y ∷ a) b = go (eqb x y) (same_append s a b)
  where
    go : (u : Bool) → same_of s (a ++ b) ≡ same_of (take (length a) s) a && same_of (drop (length a) s) b
        → cond u (same_of s (a ++ b)) false ≡ cond u (same_of (take (length a) s) a) false && same_of (drop (length a) s) b
    go true e = e
    go false e = refl

-- the same from one place to another
same_from : (s a b : List ℕ) (m n : ℕ) → n ≡ m + length a
    → same_of (drop m s) (a ++ b) ≡ same_of (take (n - m) (drop m s)) a && same_of (drop n s) b
same_from s a b m n e =
    let k : n - m ≡ length a = omega arith in
    same_append (drop m s) a b ∙ rw (k, drop-drop (length a) m s, e)

module _ (part head name key serial : List ℕ) (p : length name < 128) (q : length key < 128) (r : length serial < 128) where
  -- where each element stands
  abbrev key_at : ℕ
  key_at = length head + 2 + length name

  abbrev serial_at : ℕ
  serial_at = key_at + 2 + length key

  abbrev end_at : ℕ
  end_at = serial_at + 2 + length serial

  abbrev whole : Bool
  whole = same_of part (card_form head name key serial)

  pub other_end : (length part ≡ end_at → ⊥) → false ≡ whole
  unfolding card_form
  other_end n =
      let x = short_length 0x04 name p in
      let y = short_length 0x04 key q in
      let z = short_length 0x02 serial r in
      sym (same_short part (card_form head name key serial) (λ e. n (e ∙ simp length-append (omega arith))))

  module _ (l : length part ≡ end_at) where
    by_parts : whole
        ≡ same_of (take (length head - 0) (drop 0 part)) head
        && (same_of (take (key_at - length head) (drop (length head) part)) (form_of 0x04 name)
        && (same_of (take (serial_at - key_at) (drop key_at part)) (form_of 0x04 key)
        && same_of (take (end_at - serial_at) (drop serial_at part)) (form_of 0x02 serial)))
    unfolding card_form
    by_parts =
        let x = short_length 0x04 name p in
        let y = short_length 0x04 key q in
        let z = take_all (end_at - serial_at) (drop serial_at part) (simp length-drop (omega arith)) in
        same_from part head (form_of 0x04 name ++ (form_of 0x04 key ++ form_of 0x02 serial)) 0 (length head) (omega arith)
        ∙ rw (
          same_from part (form_of 0x04 name) (form_of 0x04 key ++ form_of 0x02 serial) (length head) key_at (omega arith),
          same_from part (form_of 0x04 key) (form_of 0x02 serial) key_at serial_at (omega arith),
          z,
        )

    module _ (w : Bool) (t : w ≡ false) where
      pub other_serial : w ≡ same_of (take (end_at - serial_at) (drop serial_at part)) (form_of 0x02 serial) → false ≡ whole
      other_serial e = sym (by_parts ∙ simp (← e, t, and-false))

      pub other_name : w ≡ same_of (take (key_at - length head) (drop (length head) part)) (form_of 0x04 name) → false ≡ whole
      other_name e = sym (by_parts ∙ simp (← e, t, and-false))

      pub other_key : w ≡ same_of (take (serial_at - key_at) (drop key_at part)) (form_of 0x04 key) → false ≡ whole
      other_key e = sym (by_parts ∙ simp (← e, t, and-false))

    module _ (x y z : Bool) (s : z ≡ true) (n : x ≡ true) (k : y ≡ true)
        (f : z ≡ same_of (take (end_at - serial_at) (drop serial_at part)) (form_of 0x02 serial))
        (g : x ≡ same_of (take (key_at - length head) (drop (length head) part)) (form_of 0x04 name))
        (h : y ≡ same_of (take (serial_at - key_at) (drop key_at part)) (form_of 0x04 key)) where
      pub head_same : (w : Bool) → w ≡ same_of (take (length head) part) head → w ≡ whole
      head_same w e =
          let m : length head - 0 ≡ length head = omega arith in
          let i : w ≡ same_of (take (length head - 0) (drop 0 part)) head = e ∙ ap (λ (j : ℕ). same_of (take j part) head) (sym m) in
          sym (by_parts ∙ simp (← i, ← f, ← g, ← h, s, n, k, and-true))

pub ruleset element_cases = (other_size, other_tag, other_length, content_same)

pub ruleset form_cases = (other_end, other_serial, other_name, other_key, head_same)
