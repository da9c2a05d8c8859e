-- Contents of primitive elements: octets that pass a test, one string of octets, and a content under
-- another name. A content read as a whole list refuses its start.
-- octets_content, fixed_content, mapped_content_to, filled.
-- The laws stand here, and what is made of them; the definitions in specs/Contents.
-- Assumes nothing.
use Rattle.std.specs.Prelude.{ℕ, ◌^◌, ◌≤◌, ◌<◌, ◌≡◌, refl, Bool, true, false, cond, List, length}
use Rattle.std.proofs.Common.{arith, ◌∙◌}
use Rattle.std.proofs.Math.Path.{sym, ap}
use Rattle.std.proofs.Math.Option.{Option, none, some}
use Rattle.octets.specs.Octets.{Octets}
use Rattle.octets.specs.Same.{same_of}
use Rattle.octets.specs.SameLaws.{same_true, same_refl}
use Rattle.codec.specs.Codec.{read, broke, Content, Whole}
use Rattle.codec.specs.Outcome.{Names}
use Rattle.codec.proofs.Outcome.{broke_read, read_broke, start_whole}
use Rattle.codec.specs.Contents.{filled_dec, fixed_read, mapped_read, octets_read, or_start, renamed_option}

none_some : {A X : Type 0} {a : A} → none ≡ some a → X
none_some e = let z : ◌≡◌ {A = ℕ} 0 1 = cc in absurd (omega arith)

-- what passed a test
passed : {A : Type 0} (b : Bool) (x a : A) → cond b (some x) none ≡ some a → (b ≡ true) × (x ≡ a)
passed true x a e = (refl, cc)
passed false x a e = none_some e

module _ (test : List ℕ → Bool) where
  pub octets_sound : (c a : List ℕ) → Octets c → octets_read test c ≡ some a → (Octets a × (test a ≡ true)) × (c ≡ a)
  unfolding octets_read
  octets_sound c a o e =
      let (t, i) = passed (test c) c a e in
      ((rw i at o, rw i at t), i)

  pub octets_complete : (a : List ℕ) → Octets a × (test a ≡ true) → octets_read test a ≡ some a
  unfolding octets_read
  octets_complete a h = rw h.1

  abbrev pub octets_content : Content (List ℕ)
  octets_content = record {
    dec = octets_read test;
    enc = λ a. a;
    ok = λ a. Octets a × (test a ≡ true);
    sound = octets_sound;
    complete = octets_complete;
    octets = λ a h. h.0;
  }

module _ (x : List ℕ) (o : Octets x) where
  pub fixed_sound : (c : List ℕ) (a : Unit {0}) → Octets c → fixed_read x c ≡ some a → Unit {0} × (c ≡ x)
  unfolding fixed_read
  fixed_sound c a q e = (tt, sym (same_true x c (passed (same_of x c) tt a e).0))

  pub fixed_complete : (a : Unit {0}) → Unit {0} → fixed_read x x ≡ some a
  unfolding fixed_read
  fixed_complete a h = rw (same_refl x)

  abbrev pub fixed_content : Content (Unit {0})
  fixed_content = record {
    dec = fixed_read x;
    enc = λ a. x;
    ok = λ a. Unit {0};
    sound = fixed_sound;
    complete = fixed_complete;
    octets = λ a h. o;
  }

option_some : {A B : Type 0} (f : A → B) (o : Option A) (b : B) → renamed_option f o ≡ some b → (a : A) × (o ≡ some a) × (f a ≡ b)
option_some f none b e = none_some e
option_some f (some a) b e = (a, refl, cc)

module _ {A B : Type 0} (f : A → B) (g : B → A) (limits : B → Type 0) (w : Content A) (names : Names f g w.ok limits) where
  pub mapped_sound : (c : List ℕ) (b : B) → Octets c → mapped_read f w.dec c ≡ some b → limits b × (c ≡ w.enc (g b))
  unfolding mapped_read
  mapped_sound c b o e =
      let (a, ea, eb) = option_some f (w.dec c) b e in
      let v = w.sound c a o ea in
      let n = names.there a v.0 in
      rw (← eb) (n.0, v.1 ∙ ap w.enc (sym n.1))

  pub mapped_complete : (b : B) → limits b → mapped_read f w.dec (w.enc (g b)) ≡ some b
  unfolding mapped_read
  mapped_complete b h = let n = names.back b h in rw (w.complete (g b) n.0) (ap some n.1)

  abbrev pub mapped_content_to : Content B
  mapped_content_to = record {
    dec = mapped_read f w.dec;
    enc = λ b. w.enc (g b);
    ok = limits;
    sound = mapped_sound;
    complete = mapped_complete;
    octets = λ b h. w.octets (g b) (names.back b h).0;
  }

or_read : {A : Type 0} (o : Option A) (a : A) → or_start o ≡ read a → o ≡ some a
or_read none a e = broke_read e
or_read (some x) a e = let i : x ≡ a = cc in ap some i

or_broke : {A : Type 0} (s : List ℕ) (o : Option A) (p : ℕ) → or_start o ≡ broke p → p ≤ length s
or_broke {A} s none p e = start_whole {A = A} s p e
or_broke s (some x) p e = read_broke e

module _ {A : Type 0} (w : Content A) where
  pub filled_sound : (s : List ℕ) (a : A) → Octets s → filled_dec w.dec s ≡ read a → w.ok a × (s ≡ w.enc a)
  unfolding filled_dec
  filled_sound s a o e = w.sound s a o (or_read (w.dec s) a e)

  pub filled_complete : (a : A) → w.ok a → length (w.enc a) < 2 ^ 64 → filled_dec w.dec (w.enc a) ≡ read a
  unfolding filled_dec
  filled_complete a h z = rw (w.complete a h)

  pub filled_within : (s : List ℕ) (p : ℕ) → filled_dec w.dec s ≡ broke p → p ≤ length s
  unfolding filled_dec
  filled_within s p e = or_broke s (w.dec s) p e

  abbrev pub filled : Whole A
  filled = record {
    dec = filled_dec w.dec;
    enc = w.enc;
    ok = w.ok;
    sound = filled_sound;
    complete = filled_complete;
    octets = λ a h z. w.octets a h;
    within = filled_within;
  }
