-- What every codec has by its laws: a form has an octet, what was taken is as long as the form, one form
-- stands for one value, one value has one form, and a wrong place lies inside.
-- form_some; got_size; element_injective; whole_unique, whole_size, after_place.
-- Assumes nothing.
use Rattle.std.specs.Prelude.{ℕ, zero, suc, ◌+◌, ◌^◌, ◌≤◌, ◌<◌, ◌≡◌, refl, List, [], ◌++◌, length, drop}
use Rattle.std.proofs.Common.{arith, sym, ap, ◌∙◌, length-append, length-drop, Fits}
use Rattle.std.specs.Int.{w64}
use Rattle.octets.specs.Octets.{Octets}
use Rattle.codec.specs.Codec.{read, broke, got, Whole, Element}

module _ {A : Type 0} (e : Element A) where
  -- a form has an octet, however long it is
  pub form_some : (a : A) → e.ok a → 0 < length (e.enc a)
  form_some a h = go (length (e.enc a)) refl
    where
      go : (k : ℕ) → length (e.enc a) ≡ k → 0 < k
      go zero q = let i = e.inside (e.enc a ++ []) a (length (e.enc a)) (e.complete a [] h (omega arith)) in omega arith
      go (suc k) q = omega arith

  module _ (s : List ℕ) (a : A) (n : ℕ) (o : Octets s) (q : e.dec s ≡ got a n) where
    -- an element takes the octets of its form
    pub got_size : length (e.enc a) ≡ n
    got_size =
        let v = e.sound s a n o q in
        let i = e.inside s a n q in
        omega (arith, length-drop n s, simp length-append at (ap length v.1))

  -- two values within the limits that have one form are one
  pub element_injective : (a b : A) → e.ok a → e.ok b → length (e.enc a) < 2 ^ 64 → e.enc a ≡ e.enc b → a ≡ b
  element_injective a b h k z q =
      let y : length (e.enc b) < 2 ^ 64 = rw q at z in
      let i : e.dec (e.enc a ++ []) ≡ e.dec (e.enc b ++ []) = ap (λ (x : List ℕ). e.dec (x ++ [])) q in
      let p : got a (length (e.enc a)) ≡ got b (length (e.enc b)) = sym (e.complete a [] h z) ∙ i ∙ e.complete b [] k y in
      cc

module _ {A : Type 0} (w : Whole A) where
  -- the same of whole lists
  pub whole_unique : (s t : List ℕ) (a : A) → Octets s → Octets t → w.dec s ≡ read a → w.dec t ≡ read a → s ≡ t
  whole_unique s t a o p x y = (w.sound s a o x).1 ∙ sym (w.sound t a p y).1

  -- a whole list is as long as its value's form
  pub whole_size : (s : List ℕ) (a : A) → Octets s → w.dec s ≡ read a → length (w.enc a) ≡ length s
  whole_size s a o q = ap length (sym (w.sound s a o q).1)

  -- a wrong place of what follows the first n is counted in 64 bits
  pub after_place : (n : ℕ) (s : List ℕ) (p : ℕ) → w.dec (drop n s) ≡ broke p → n ≤ length s → length s < 2 ^ 64 → Fits w64 (n + p)
  after_place n s p q le z =
      let v = w.within (drop n s) p q in
      record { fits = omega (arith, length-drop n s) }
