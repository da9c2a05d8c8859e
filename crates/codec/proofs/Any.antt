-- Any number of elements up to the end of a list, and how their reading goes on from one element to
-- the next.
-- all; all_none, all_got, all_bad. The definition of the reading, all_dec, is in Many.
-- Assumes nothing.
use Prim.Native.Nat.{ℕ, zero, suc, ◌^◌, ◌≤◌, ◌<◌}
use native.Mathlib.Omega.{arith}
use Rattle.std.specs.Prelude.{◌≡◌, drop}
use Rattle.std.proofs.Math.Path.{refl, ap}
use Rattle.std.proofs.Common.{◌∙◌, length-append}
use mathlib.Core.List.{List, [], ◌∷◌}
use Rattle.std.proofs.Math.ListN.{length, length-drop}
use Rattle.octets.specs.Octets.{Octets}
use Rattle.codec.specs.Codec.{read, broke, Got, got, bad, Whole, Element}
use Rattle.codec.proofs.CodecLaws.{form_some}
use Rattle.codec.specs.Outcome.{further, on_got}
use Rattle.codec.specs.Many.{many_dec, all_dec, forms, All}
use Rattle.codec.proofs.Many.{many_got, many_bad, many_sound, many_complete, many_octets, many_within}

module _ {A : Type 0} (e : Element A) where
  -- no more elements than octets
  pub forms_long : (l : List A) → All e.ok l → length l ≤ length (forms e.enc l)
  forms_long [] h = omega arith
  forms_long (a ∷ l) h =
      let n = form_some e a h.0 in
      let i = forms_long l h.1 in
      simp length-append (omega arith)

  pub all_sound : (s : List ℕ) (l : List A) → Octets s → all_dec e.dec s ≡ read l → All e.ok l × (s ≡ forms e.enc l)
  unfolding all_dec
  all_sound s l o q = let v = many_sound e 0 (length s) s l o q in (v.0.0, v.1)

  pub all_complete : (l : List A) → All e.ok l → length (forms e.enc l) < 2 ^ 64 → all_dec e.dec (forms e.enc l) ≡ read l
  unfolding all_dec
  all_complete l h z = many_complete e 0 (length (forms e.enc l)) l (h, omega arith, forms_long l h) z

  pub all_within : (s : List ℕ) (p : ℕ) → all_dec e.dec s ≡ broke p → p ≤ length s
  unfolding all_dec
  all_within s p q = many_within e 0 (length s) s p q

  abbrev pub all : Whole (List A)
  all = record {
    dec = all_dec e.dec;
    enc = forms e.enc;
    ok = All e.ok;
    sound = all_sound;
    complete = all_complete;
    octets = many_octets e;
    within = all_within;
  }

  -- a limit that the octets cannot reach does not count
  beyond : (k j : ℕ) (s : List ℕ) → length s ≤ k → length s ≤ j → many_dec e.dec 0 k s ≡ many_dec e.dec 0 j s
  unfolding many_dec
  beyond zero zero s p q = refl
  beyond zero (suc j) [] p q = refl
  beyond zero (suc j) (x ∷ s) p q = absurd (omega arith)
  beyond (suc k) zero [] p q = refl
  beyond (suc k) zero (x ∷ s) p q = absurd (omega arith)
  beyond (suc k) (suc j) [] p q = refl
  beyond (suc k) (suc j) (x ∷ s) p q = go (λ r. beyond k j r) (e.dec (x ∷ s)) refl
    where
      go : ((r : List ℕ) → length r ≤ k → length r ≤ j → many_dec e.dec 0 k r ≡ many_dec e.dec 0 j r) → (g : Got A) → e.dec (x ∷ s) ≡ g
          → on_got g (λ a n. further n (λ l. a ∷ l) (many_dec e.dec 0 k (drop n (x ∷ s)))) ≡ on_got g (λ a n. further n (λ l. a ∷ l) (many_dec e.dec 0 j (drop n (x ∷ s))))
      go ih (bad p) eg = refl
      go ih (got a n) eg =
          let i = e.inside (x ∷ s) a n eg in
          let d = length-drop n (x ∷ s) in
          ap (further n (λ l. a ∷ l)) (ih (drop n (x ∷ s)) (omega arith) (omega arith))

  -- at the end; after an element; at one that is wrong
  pub all_none : all_dec e.dec [] ≡ read []
  unfolding all_dec many_dec
  all_none = refl

  pub all_got : (s : List ℕ) (a : A) (n : ℕ) → e.dec s ≡ got a n → all_dec e.dec s ≡ further n (λ l. a ∷ l) (all_dec e.dec (drop n s))
  unfolding all_dec
  all_got s a n q = go s q
    where
      go : (s : List ℕ) → e.dec s ≡ got a n
          → many_dec e.dec 0 (length s) s ≡ further n (λ l. a ∷ l) (many_dec e.dec 0 (length (drop n s)) (drop n s))
      go [] q = let i = e.inside [] a n q in absurd (omega arith)
      go (x ∷ s) q =
          let i = e.inside (x ∷ s) a n q in
          let d = length-drop n (x ∷ s) in
          many_got e.dec 0 (length s) (x ∷ s) a n (omega arith) q
          ∙ ap (further n (λ l. a ∷ l)) (beyond (length s) (length (drop n (x ∷ s))) (drop n (x ∷ s)) (omega arith) (omega arith))

  pub all_bad : (s : List ℕ) (p : ℕ) → 0 < length s → e.dec s ≡ bad p → all_dec e.dec s ≡ broke p
  unfolding all_dec
  all_bad [] p h q = absurd (omega arith)
  all_bad (x ∷ s) p h q = many_bad e.dec 0 (length s) (x ∷ s) p h q
