-- Elements up to the end of a list: at least so many and at most so many, or any number. An element
-- beyond the most is refused at its first octet, whatever it is; too few are refused at the end.
-- many; all_dec, the reading of any number, whose codec is in Any.
-- The laws stand here, and what is made of them; the definitions in specs/Many.
-- Assumes nothing.
use Prim.Native.Nat.{ℕ, zero, suc, ◌-◌, ◌^◌, ◌≤◌, ◌<◌}
use Rattle.std.proofs.Common.{arith, ◌∙◌, eqb-true, eq-eqb}
use Rattle.std.specs.Prelude.{◌≡◌, refl, Bool, true, false, cond, eqb, length, drop}
use mathlib.Core.List.{List, [], ◌∷◌, ◌++◌}
use Rattle.std.proofs.Math.ListN.{length-append}
use Rattle.std.proofs.Math.Seq.{drop-append_seam}
use Rattle.octets.specs.Octets.{Octets}
use Rattle.octets.specs.OctetsLaws.{octets_append, octets_drop}
use Rattle.codec.specs.Codec.{Read, read, broke, Got, got, bad, Whole, Element}
use Rattle.codec.proofs.CodecLaws.{form_some}
use Rattle.codec.specs.Outcome.{further}
use Rattle.codec.proofs.Outcome.{broke_read, read_broke, start_whole, further_read, on_got_read}
use Rattle.codec.proofs.PartLaws.{small_left, small_right}
use Rattle.codec.proofs.Sequence.{next_within}
use Rattle.codec.specs.Many.{All, enough, forms, many_dec}

pub enough_read : {A : Type 0} (lo : ℕ) (l : List A) → enough lo ≡ read l → (lo ≡ 0) × ([] ≡ l)
enough_read {A} lo l e = go (eqb lo 0) refl e
  where
    go : (b : Bool) → eqb lo 0 ≡ b → cond b (read []) (broke 0) ≡ read l → (lo ≡ 0) × ([] ≡ l)
    go true t e = (eqb-true lo 0 t, cc)
    go false t e = broke_read e

pub enough_broke : {A : Type 0} (lo p : ℕ) → ◌≡◌ {A = Read (List A)} (enough lo) (broke p) → p ≤ 0
enough_broke {A} lo p e = go (eqb lo 0) e
  where
    go : (b : Bool) → ◌≡◌ {A = Read (List A)} (cond b (read []) (broke 0)) (broke p) → p ≤ 0
    go true e = read_broke e
    go false e = start_whole [] p e

-- how the reading goes on after an element, and where it stops at one
pub many_got : {A : Type 0} (d : List ℕ → Got A) (lo k : ℕ) (s : List ℕ) (a : A) (n : ℕ) → 0 < length s → d s ≡ got a n
    → many_dec d lo (suc k) s ≡ further n (λ l. a ∷ l) (many_dec d (lo - 1) k (drop n s))
unfolding many_dec
many_got d lo k [] a n h e = absurd (omega arith)
many_got d lo k (x ∷ s) a n h e = rw e

pub many_bad : {A : Type 0} (d : List ℕ → Got A) (lo k : ℕ) (s : List ℕ) (p : ℕ) → 0 < length s → d s ≡ bad p
    → many_dec d lo (suc k) s ≡ broke p
unfolding many_dec
many_bad d lo k [] p h e = absurd (omega arith)
many_bad d lo k (x ∷ s) p h e = rw e

pub many_over : {A : Type 0} (d : List ℕ → Got A) (lo : ℕ) (s : List ℕ) → 0 < length s → many_dec d lo 0 s ≡ broke 0
unfolding many_dec
many_over d lo [] h = absurd (omega arith)
many_over d lo (x ∷ s) h = refl

module _ {A : Type 0} (e : Element A) where
  -- each within its limits, at least lo of them and at most hi
  abbrev pub ManyOk : ℕ → ℕ → List A → Type 0
  ManyOk lo hi l = All e.ok l × (lo ≤ length l) × (length l ≤ hi)

  none_is : (lo k : ℕ) (l : List A) → (lo ≡ 0) × ([] ≡ l) → ManyOk lo k l × ([] ≡ forms e.enc l)
  none_is lo k l q = rw (← q.1) ((tt, omega (arith, q.0), omega arith), refl)

  pub many_sound : (lo k : ℕ) (s : List ℕ) (l : List A) → Octets s → many_dec e.dec lo k s ≡ read l
      → ManyOk lo k l × (s ≡ forms e.enc l)
  unfolding many_dec
  many_sound lo zero [] l o q = none_is lo zero l (enough_read lo l q)
  many_sound lo zero (x ∷ s) l o q = broke_read q
  many_sound lo (suc k) [] l o q = none_is lo (suc k) l (enough_read lo l q)
  many_sound lo (suc k) (x ∷ s) l o q =
      let (a, n, eg, f) = on_got_read (e.dec (x ∷ s)) _ l q in
      let (m, em, el) = further_read n (λ l. a ∷ l) (many_dec e.dec (lo - 1) k (drop n (x ∷ s))) l f in
      let u = e.sound (x ∷ s) a n o eg in
      let v = many_sound (lo - 1) k (drop n (x ∷ s)) m (octets_drop n (x ∷ s) o) em in
      rw (← el) (((u.0, v.0.0), omega (arith, v.0.1), omega (arith, v.0.2)), rw v.1 at u.1)

  pub many_complete : (lo k : ℕ) (l : List A) → ManyOk lo k l → length (forms e.enc l) < 2 ^ 64
      → many_dec e.dec lo k (forms e.enc l) ≡ read l
  unfolding many_dec
  many_complete lo zero [] h z = rw (eq-eqb lo 0 (omega (arith, h.1)))
  many_complete lo (suc k) [] h z = rw (eq-eqb lo 0 (omega (arith, h.1)))
  many_complete lo zero (a ∷ l) h z = absurd (omega (arith, h.2))
  many_complete lo (suc k) (a ∷ l) h z =
      let x = e.enc a in
      let r = forms e.enc l in
      let n = form_some e a h.0.0 in
      let len = length-append x r in
      let c = e.complete a r h.0.0 (small_left x r z) in
      let i = many_complete (lo - 1) k l (h.0.1, omega (arith, h.1), omega (arith, h.2)) (small_right x r z) in
      many_got e.dec lo k (x ++ r) a (length x) (omega arith) c ∙ rw (drop-append_seam x r, i)

  pub many_octets : (l : List A) → All e.ok l → length (forms e.enc l) < 2 ^ 64 → Octets (forms e.enc l)
  many_octets [] h z = tt
  many_octets (a ∷ l) h z =
      let x = e.enc a in
      let r = forms e.enc l in
      octets_append x r (e.octets a h.0 (small_left x r z)) (many_octets l h.1 (small_right x r z))

  pub many_within : (lo k : ℕ) (s : List ℕ) (p : ℕ) → many_dec e.dec lo k s ≡ broke p → p ≤ length s
  unfolding many_dec
  many_within lo zero [] p q = enough_broke {A = A} lo p q
  many_within lo zero (x ∷ s) p q = start_whole {A = List A} (x ∷ s) p q
  many_within lo (suc k) [] p q = enough_broke {A = A} lo p q
  many_within lo (suc k) (x ∷ s) p q = next_within e (λ a. many_dec e.dec (lo - 1) k) (λ a. many_within (lo - 1) k) (λ a l. a ∷ l) (x ∷ s) p q

-- at least lo elements and at most hi
abbrev pub many : {A : Type 0} → ℕ → ℕ → Element A → Whole (List A)
many lo hi e = record {
  dec = many_dec e.dec lo hi;
  enc = forms e.enc;
  ok = ManyOk e lo hi;
  sound = many_sound e lo hi;
  complete = many_complete e lo hi;
  octets = λ l h z. many_octets e l h.0 z;
  within = many_within e lo hi;
}
