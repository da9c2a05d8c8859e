-- One after another: nothing more, an element and then a whole list, an element that fills its
-- holder. Octets that are left over are refused at the first of them.
-- end, field, only.
-- The laws stand here, and what is made of them; the definitions in specs/Sequence.
-- Assumes nothing.
use Rattle.std.specs.Prelude.{ℕ, ◌^◌, ◌≤◌, ◌<◌, ◌≡◌, refl, length, drop}
use Rattle.std.proofs.Common.{arith, ◌∙◌, length-drop}
use mathlib.Core.List.{List, [], ◌∷◌, ◌++◌, append-nil}
use Rattle.std.proofs.Math.Seq.{drop-append_seam}
use Rattle.octets.specs.Octets.{Octets}
use Rattle.octets.specs.OctetsLaws.{octets_append, octets_drop}
use Rattle.codec.specs.Codec.{Read, read, broke, Got, got, bad, Whole, Element}
use Rattle.codec.specs.Outcome.{further, on_got}
use Rattle.codec.proofs.Outcome.{broke_read, read_broke, start_whole, further_read, further_broke, on_got_read}
use Rattle.codec.proofs.PartLaws.{small_left, small_right}
use Rattle.codec.proofs.Mapped.{mapped}
use Rattle.codec.specs.Sequence.{end_dec, field_dec, only_dec}

pub end_sound : (s : List ℕ) (a : Unit {0}) → Octets s → end_dec s ≡ read a → Unit {0} × (s ≡ [])
unfolding end_dec
end_sound [] a o e = (tt, refl)
end_sound (x ∷ s) a o e = broke_read e

pub end_complete : (a : Unit {0}) → Unit {0} → length {A = ℕ} [] < 2 ^ 64 → end_dec [] ≡ read a
unfolding end_dec
end_complete a h z = refl

pub end_within : (s : List ℕ) (p : ℕ) → end_dec s ≡ broke p → p ≤ length s
unfolding end_dec
end_within [] p e = read_broke e
end_within (x ∷ s) p e = start_whole (x ∷ s) p e

abbrev pub end : Whole (Unit {0})
end = record {
  dec = end_dec;
  enc = λ a. [];
  ok = λ a. Unit {0};
  sound = end_sound;
  complete = end_complete;
  octets = λ a h z. tt;
  within = end_within;
}

-- a place in what follows is a place in the list, whatever is made of it
pub further_within : {B C : Type 0} (n : ℕ) (s : List ℕ) (d : List ℕ → Read B)
    → (near : (r : List ℕ) (p : ℕ) → d r ≡ broke p → p ≤ length r) (f : B → C) (p : ℕ) → n ≤ length s
    → further n f (d (drop n s)) ≡ broke p → p ≤ length s
further_within n s d near f p le h =
    let (q, ed, i) = further_broke n f (d (drop n s)) p h in
    let v = near (drop n s) q ed in
    omega (arith, length-drop n s)

-- after an element
pub next_within : {A B C : Type 0} (e : Element A) (d : A → List ℕ → Read B)
    → (near : (a : A) (s : List ℕ) (p : ℕ) → d a s ≡ broke p → p ≤ length s) (f : A → B → C) (s : List ℕ) (p : ℕ)
    → on_got (e.dec s) (λ a n. further n (f a) (d a (drop n s))) ≡ broke p → p ≤ length s
next_within {A} e d near f s p h = go (e.dec s) refl h
  where
    go : (g : Got A) → e.dec s ≡ g → on_got g (λ a n. further n (f a) (d a (drop n s))) ≡ broke p → p ≤ length s
    go (bad q) eg h = let i : q ≡ p = cc in rw i at (e.within s q eg)
    go (got a n) eg h = further_within n s (d a) (near a) (f a) p (e.inside s a n eg).1 h

module _ {A B : Type 0} (e : Element A) (w : Whole B) where
  abbrev pub FieldOk : A × B → Type 0
  FieldOk x = e.ok x.0 × w.ok x.1

  abbrev pub field_enc : A × B → List ℕ
  field_enc x = e.enc x.0 ++ w.enc x.1

  pub field_sound : (s : List ℕ) (x : A × B) → Octets s → field_dec e.dec w.dec s ≡ read x → FieldOk x × (s ≡ field_enc x)
  unfolding field_dec
  field_sound s x o h =
      let (a, n, eg, ep) = on_got_read (e.dec s) _ x h in
      let (b, eb, ex) = further_read n (λ b. (a, b)) (w.dec (drop n s)) x ep in
      let u = e.sound s a n o eg in
      let v = w.sound (drop n s) b (octets_drop n s o) eb in
      rw (← ex) ((u.0, v.0), rw v.1 at u.1)

  pub field_complete : (x : A × B) → FieldOk x → length (field_enc x) < 2 ^ 64 → field_dec e.dec w.dec (field_enc x) ≡ read x
  unfolding field_dec
  field_complete x h z =
      let p = e.enc x.0 in
      let q = w.enc x.1 in
      rw (e.complete x.0 q h.0 (small_left p q z), drop-append_seam p q, w.complete x.1 h.1 (small_right p q z))

  pub field_octets : (x : A × B) → FieldOk x → length (field_enc x) < 2 ^ 64 → Octets (field_enc x)
  field_octets x h z =
      let p = e.enc x.0 in
      let q = w.enc x.1 in
      octets_append p q (e.octets x.0 h.0 (small_left p q z)) (w.octets x.1 h.1 (small_right p q z))

  pub field_within : (s : List ℕ) (p : ℕ) → field_dec e.dec w.dec s ≡ broke p → p ≤ length s
  unfolding field_dec
  field_within s p h = next_within e (λ a. w.dec) (λ a. w.within) (λ a b. (a, b)) s p h

  abbrev pub field : Whole (A × B)
  field = record {
    dec = field_dec e.dec w.dec;
    enc = field_enc;
    ok = FieldOk;
    sound = field_sound;
    complete = field_complete;
    octets = field_octets;
    within = field_within;
  }

module _ {A : Type 0} (e : Element A) where
  -- an element and nothing more, without the nothing
  alone : Whole A
  alone = mapped (λ (x : A × Unit {0}). x.0) (λ a. (a, tt)) (λ b. refl) (λ a. refl) (field e end)

  pub only_sound : (s : List ℕ) (a : A) → Octets s → only_dec e.dec s ≡ read a → e.ok a × (s ≡ e.enc a)
  unfolding only_dec alone
  only_sound s a o q = let v = alone.sound s a o q in (v.0.0, v.1 ∙ append-nil (e.enc a))

  pub only_complete : (a : A) → e.ok a → length (e.enc a) < 2 ^ 64 → only_dec e.dec (e.enc a) ≡ read a
  unfolding only_dec alone
  only_complete a h z = rw append-nil at (alone.complete a (h, tt) (rw (append-nil (e.enc a)) z))

  pub only_within : (s : List ℕ) (p : ℕ) → only_dec e.dec s ≡ broke p → p ≤ length s
  unfolding only_dec alone
  only_within s p q = alone.within s p q

  abbrev pub only : Whole A
  only = record {
    dec = only_dec e.dec;
    enc = e.enc;
    ok = e.ok;
    sound = only_sound;
    complete = only_complete;
    octets = e.octets;
    within = only_within;
  }
