-- Fields of a fixed width, without a header; and a value that has to pass a test.
-- chunk (a width, and a content of that width), such (a whole list whose value passes a test).
-- The laws stand here, and what is made of them; the definitions in specs/Fixed.
-- Assumes nothing.
use Rattle.std.specs.Prelude.{ℕ, ◌^◌, ◌≤◌, ◌<◌, ◌≡◌, Bool, List, ◌++◌, take, drop}
use native.Mathlib.Omega.{arith}
use Rattle.std.proofs.Math.Path.{refl, ap}
use Rattle.std.proofs.Common.{sym, ◌∙◌, take-append-drop, ltb-false, le-ltb}
use Rattle.std.proofs.Math.Bool.{true, false, cond}
use Rattle.std.proofs.Math.Option.{Option, none, some}
use Rattle.std.proofs.Math.Dec.{ltb}
use Rattle.std.proofs.Math.ListN.{length, length-append}
use Rattle.std.proofs.Math.Seq.{take_at}
use Rattle.octets.specs.Octets.{Octets}
use Rattle.octets.specs.OctetsLaws.{octets_take}
use Rattle.codec.specs.Codec.{Read, read, broke, got, bad, Content, Whole, Element}
use Rattle.codec.proofs.Outcome.{bad_got, broke_read, read_broke}
use Rattle.codec.specs.Fixed.{chunk_dec, chunk_of, such_dec, such_of}

module _ {A : Type 0} (w : ℕ) (c : Content A) (some-width : 0 < w) (width : (a : A) → c.ok a → length (c.enc a) ≡ w) where
  chunk_parts : (s : List ℕ) (a : A) (n : ℕ) → chunk_dec w c.dec s ≡ got a n → (w ≤ length s) × (c.dec (take w s) ≡ some a) × (w ≡ n)
  unfolding chunk_dec
  chunk_parts s a n e = go (ltb (length s) w) refl (c.dec (take w s)) refl e
    where
      go : (b : Bool) → ltb (length s) w ≡ b → (o : Option A) → c.dec (take w s) ≡ o → cond b (bad (length s)) (chunk_of w o) ≡ got a n
          → (w ≤ length s) × (c.dec (take w s) ≡ some a) × (w ≡ n)
      go true eb o eo e = bad_got e
      go false eb none eo e = bad_got e
      go false eb (some x) eo e = let i : x ≡ a = cc in (ltb-false (length s) w eb, eo ∙ ap some i, cc)

  pub chunk_sound : (s : List ℕ) (a : A) (n : ℕ) → Octets s → chunk_dec w c.dec s ≡ got a n → c.ok a × (s ≡ c.enc a ++ drop n s)
  chunk_sound s a n o e =
      let (le, d, i) = chunk_parts s a n e in
      let v = c.sound (take w s) a (octets_take w s o) d in
      (v.0, rw (← v.1, ← i) (sym (take-append-drop w s)))

  pub chunk_complete : (a : A) (r : List ℕ) → c.ok a → length (c.enc a) < 2 ^ 64 → chunk_dec w c.dec (c.enc a ++ r) ≡ got a (length (c.enc a))
  unfolding chunk_dec
  chunk_complete a r h z =
      let k = width a h in
      let l = length-append (c.enc a) r in
      rw (le-ltb (length (c.enc a ++ r)) w (omega arith), take_at (c.enc a) r w k, c.complete a h) (ap (got a) (sym k))

  pub chunk_within : (s : List ℕ) (p : ℕ) → chunk_dec w c.dec s ≡ bad p → p ≤ length s
  unfolding chunk_dec
  chunk_within s p e = go (ltb (length s) w) (c.dec (take w s)) e
    where
      go : (b : Bool) (o : Option A) → cond b (bad (length s)) (chunk_of w o) ≡ bad p → p ≤ length s
      go true o e = let i : length s ≡ p = cc in omega arith
      go false none e = let i : 0 ≡ p = cc in omega arith
      go false (some x) e = bad_got (sym e)

  pub chunk_inside : (s : List ℕ) (a : A) (n : ℕ) → chunk_dec w c.dec s ≡ got a n → (0 < n) × (n ≤ length s)
  chunk_inside s a n e = let (le, d, i) = chunk_parts s a n e in (omega arith, omega arith)

  -- a field of w octets
  abbrev pub chunk : Element A
  chunk = record {
    dec = chunk_dec w c.dec;
    enc = c.enc;
    ok = c.ok;
    sound = chunk_sound;
    complete = chunk_complete;
    octets = λ a h z. c.octets a h;
    within = chunk_within;
    inside = chunk_inside;
  }

module _ {A : Type 0} (test : A → Bool) (w : Whole A) where
  such_parts : (o : Read A) (a : A) → such_of test o ≡ read a → (o ≡ read a) × (test a ≡ true)
  such_parts (broke p) a e = broke_read e
  such_parts (read x) a e = go (test x) refl e
    where
      go : (b : Bool) → test x ≡ b → cond b (read x) (broke 0) ≡ read a → (read x ≡ read a) × (test a ≡ true)
      go true eb e = let i : x ≡ a = cc in (ap read i, rw i at eb)
      go false eb e = broke_read e

  pub such_sound : (s : List ℕ) (a : A) → Octets s → such_dec test w.dec s ≡ read a → (w.ok a × (test a ≡ true)) × (s ≡ w.enc a)
  unfolding such_dec
  such_sound s a o e =
      let (d, t) = such_parts (w.dec s) a e in
      let v = w.sound s a o d in
      ((v.0, t), v.1)

  pub such_complete : (a : A) → w.ok a × (test a ≡ true) → length (w.enc a) < 2 ^ 64 → such_dec test w.dec (w.enc a) ≡ read a
  unfolding such_dec
  such_complete a h z = rw (w.complete a h.0 z, h.1)

  pub such_within : (s : List ℕ) (p : ℕ) → such_dec test w.dec s ≡ broke p → p ≤ length s
  unfolding such_dec
  such_within s p e = go (w.dec s) refl e
    where
      on : (x : A) (b : Bool) → cond b (read x) (broke 0) ≡ broke p → p ≤ length s
      on x true e = read_broke e
      on x false e = let i : 0 ≡ p = cc in omega arith

      go : (o : Read A) → w.dec s ≡ o → such_of test o ≡ broke p → p ≤ length s
      go (broke q) eo e = let i : q ≡ p = cc in rw i at (w.within s q eo)
      go (read x) eo e = on x (test x) e

  -- a whole list whose value passes a test
  abbrev pub such : Whole A
  such = record {
    dec = such_dec test w.dec;
    enc = w.enc;
    ok = λ a. w.ok a × (test a ≡ true);
    sound = such_sound;
    complete = such_complete;
    octets = λ a h z. w.octets a h.0 z;
    within = such_within;
  }
