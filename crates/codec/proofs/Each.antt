-- Elements up to the end of a list, no key twice. Each is read by an element codec that knows the
-- keys before it, so that a repeat is refused where it stands, before anything to its right.
-- Fresh, NoneTwice, Keyed, each.
-- The laws stand here, and what is made of them; the definitions in specs/Each.
-- Assumes nothing.
use Prim.Native.Nat.{ℕ, zero, suc, ◌-◌, ◌^◌, ◌≤◌, ◌<◌}
use Rattle.std.proofs.Common.{arith, ◌∙◌, eq-eqb}
use Rattle.std.specs.Prelude.{◌≡◌, refl, drop}
use mathlib.Core.List.{List, [], ◌∷◌, ◌++◌}
use Rattle.std.proofs.Math.ListN.{length, length-append}
use Rattle.std.proofs.Math.Seq.{drop-append_seam}
use Rattle.octets.specs.Octets.{Octets}
use Rattle.octets.specs.OctetsLaws.{octets_drop}
use Rattle.codec.specs.Codec.{read, broke, Got, got, bad, Whole, Element}
use Rattle.codec.proofs.CodecLaws.{form_some}
use Rattle.codec.specs.Outcome.{further}
use Rattle.codec.proofs.Outcome.{broke_read, start_whole, further_read, on_got_read}
use Rattle.codec.proofs.PartLaws.{small_left, small_right}
use Rattle.codec.proofs.Sequence.{next_within}
use Rattle.codec.specs.Many.{forms, All}
use Rattle.codec.proofs.Many.{enough_read, enough_broke, many_octets}
use Rattle.codec.specs.Each.{Fresh, KeyedElement, NoneTwice, each_dec}

-- how the reading goes on after an item
pub each_got : {A K : Type 0} (key : A → K) (d : List K → List ℕ → Got A) (seen : List K) (lo k : ℕ) (s : List ℕ) (a : A) (n : ℕ)
    → 0 < length s → d seen s ≡ got a n
    → each_dec key d seen lo (suc k) s ≡ further n (λ l. a ∷ l) (each_dec key d (key a ∷ seen) (lo - 1) k (drop n s))
unfolding each_dec
each_got key d seen lo k [] a n h e = absurd (omega arith)
each_got key d seen lo k (x ∷ s) a n h e = rw e

pub each_bad : {A K : Type 0} (key : A → K) (d : List K → List ℕ → Got A) (seen : List K) (lo k : ℕ) (s : List ℕ) (p : ℕ) → 0 < length s
    → d seen s ≡ bad p → each_dec key d seen lo (suc k) s ≡ broke p
unfolding each_dec
each_bad key d seen lo k [] p h e = absurd (omega arith)
each_bad key d seen lo k (x ∷ s) p h e = rw e

module _ {A K : Type 0} (key : A → K) (e : List K → Element A) (keyed : KeyedElement key e) where
  abbrev pub dec' : List K → List ℕ → Got A
  dec' seen = (e seen).dec

  -- each within its limits, none with a key that was seen or with that of an earlier one
  abbrev After : List K → List A → Type 0
  After seen l = All (e []).ok l × All (λ a. Fresh seen (key a)) l × NoneTwice key l

  apart : (k : K) (seen : List K) (l : List A) → All (λ a. Fresh (k ∷ seen) (key a)) l
      → All (λ a. k ≡ key a → ⊥) l × All (λ a. Fresh seen (key a)) l
  apart k seen [] h = (tt, tt)
  apart k seen (a ∷ l) h = let i = apart k seen l h.1 in ((h.0.0, i.0), (h.0.1, i.1))

  joined : (k : K) (seen : List K) (l : List A) → All (λ a. k ≡ key a → ⊥) l → All (λ a. Fresh seen (key a)) l
      → All (λ a. Fresh (k ∷ seen) (key a)) l
  joined k seen [] p q = tt
  joined k seen (a ∷ l) p q = ((p.0, q.0), joined k seen l p.1 q.1)

  -- nothing was seen
  unseen : (l : List A) → All (λ a. Fresh [] (key a)) l
  unseen [] = tt
  unseen (a ∷ l) = (tt, unseen l)

  abbrev EachIs : List K → ℕ → ℕ → List ℕ → List A → Type 0
  EachIs seen lo k s l = After seen l × (lo ≤ length l) × (length l ≤ k) × (s ≡ forms (e []).enc l)

  none_is : (seen : List K) (lo k : ℕ) (l : List A) → (lo ≡ 0) × ([] ≡ l) → EachIs seen lo k [] l
  none_is seen lo k l q = rw (← q.1) ((tt, tt, tt), omega (arith, q.0), omega arith, refl)

  each_go : (seen : List K) (lo k : ℕ) (s : List ℕ) (l : List A) → Octets s → each_dec key dec' seen lo k s ≡ read l → EachIs seen lo k s l
  unfolding each_dec
  each_go seen lo zero [] l o q = none_is seen lo zero l (enough_read lo l q)
  each_go seen lo zero (x ∷ s) l o q = broke_read q
  each_go seen lo (suc k) [] l o q = none_is seen lo (suc k) l (enough_read lo l q)
  each_go seen lo (suc k) (x ∷ s) l o q =
      let (a, n, eg, f) = on_got_read (dec' seen (x ∷ s)) _ l q in
      let (m, em, el) = further_read n (λ l. a ∷ l) (each_dec key dec' (key a ∷ seen) (lo - 1) k (drop n (x ∷ s))) l f in
      let u = (e seen).sound (x ∷ s) a n o eg in
      let v = each_go (key a ∷ seen) (lo - 1) k (drop n (x ∷ s)) m (octets_drop n (x ∷ s) o) em in
      let i = keyed.fresh seen a u.0 in
      let j = apart (key a) seen m v.0.1 in
      rw (← el) (((i.0, v.0.0), (i.1, j.1), (j.0, v.0.2)), omega (arith, v.1), omega (arith, v.2), rw (keyed.form seen a, v.3) at u.1)

  each_back : (seen : List K) (l : List A) → After seen l → (lo k : ℕ) → lo ≤ length l → length l ≤ k
      → length (forms (e []).enc l) < 2 ^ 64 → each_dec key dec' seen lo k (forms (e []).enc l) ≡ read l
  unfolding each_dec
  each_back seen [] h lo zero le up z = rw (eq-eqb lo 0 (omega arith))
  each_back seen [] h lo (suc k) le up z = rw (eq-eqb lo 0 (omega arith))
  each_back seen (a ∷ l) h lo zero le up z = absurd (omega arith)
  each_back seen (a ∷ l) h lo (suc k) le up z =
      let x = (e []).enc a in
      let r = forms (e []).enc l in
      let ok = keyed.allowed seen a h.0.0 h.1.0 in
      let n = form_some (e []) a h.0.0 in
      let len = length-append x r in
      let y : length ((e seen).enc a) < 2 ^ 64 = rw (keyed.form seen a) (small_left x r z) in
      let c : dec' seen (x ++ r) ≡ got a (length x) = rw (keyed.form seen a) at ((e seen).complete a r ok y) in
      let f : After (key a ∷ seen) l = (h.0.1, joined (key a) seen l h.2.0 h.1.1, h.2.1) in
      let i = each_back (key a ∷ seen) l f (lo - 1) k (omega arith) (omega arith) (small_right x r z) in
      each_got key dec' seen lo k (x ++ r) a (length x) (omega arith) c ∙ rw (drop-append_seam x r, i)

  pub each_within : (seen : List K) (lo k : ℕ) (s : List ℕ) (p : ℕ) → each_dec key dec' seen lo k s ≡ broke p → p ≤ length s
  unfolding each_dec
  each_within seen lo zero [] p q = enough_broke {A = A} lo p q
  each_within seen lo zero (x ∷ s) p q = start_whole {A = List A} (x ∷ s) p q
  each_within seen lo (suc k) [] p q = enough_broke {A = A} lo p q
  each_within seen lo (suc k) (x ∷ s) p q =
      next_within (e seen) (λ a. each_dec key dec' (key a ∷ seen) (lo - 1) k) (λ a. each_within (key a ∷ seen) (lo - 1) k) (λ a l. a ∷ l) (x ∷ s) p q

  -- each within its own limits, no key equal to an earlier one, at least lo and at most hi
  abbrev pub EachOk : ℕ → ℕ → List A → Type 0
  EachOk lo hi l = All (e []).ok l × NoneTwice key l × (lo ≤ length l) × (length l ≤ hi)

  pub each_sound : (lo hi : ℕ) (s : List ℕ) (l : List A) → Octets s → each_dec key dec' [] lo hi s ≡ read l
      → EachOk lo hi l × (s ≡ forms (e []).enc l)
  each_sound lo hi s l o q = let v = each_go [] lo hi s l o q in ((v.0.0, v.0.2, v.1, v.2), v.3)

  pub each_complete : (lo hi : ℕ) (l : List A) → EachOk lo hi l → length (forms (e []).enc l) < 2 ^ 64
      → each_dec key dec' [] lo hi (forms (e []).enc l) ≡ read l
  each_complete lo hi l h z = each_back [] l (h.0, unseen l, h.1) lo hi h.2 h.3 z

-- at least lo items and at most hi, no key twice
abbrev pub each : {A K : Type 0} (lo hi : ℕ) (key : A → K) (e : List K → Element A) → KeyedElement key e → Whole (List A)
each lo hi key e keyed = record {
  dec = each_dec key (λ seen. (e seen).dec) [] lo hi;
  enc = forms (e []).enc;
  ok = EachOk key e keyed lo hi;
  sound = each_sound key e keyed lo hi;
  complete = each_complete key e keyed lo hi;
  octets = λ l h z. many_octets (e []) l h.0 z;
  within = each_within key e keyed [] lo hi;
}
