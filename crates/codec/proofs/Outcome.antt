-- What is made of a reading: the value under another name, a place further on, what an element's
-- content gives the element; and what each tells of the reading that it was made of.
-- Names; further, renamed, called, on_got, attach.
-- The laws stand here, and what is made of them; the definitions in specs/Outcome.
-- Assumes nothing.
use Rattle.std.specs.Prelude.{ℕ, ◌+◌, ◌≤◌, ◌≡◌, refl, Bool, true, false, cond, List, length}
use Rattle.std.proofs.Common.{arith, ap}
use Rattle.codec.specs.Codec.{Read, read, broke, Got, got, bad}
use Rattle.codec.specs.Outcome.{Names, attach, called, further, on_got, renamed}

pub broke_read : {A X : Type 0} {a : A} {p : ℕ} → broke p ≡ read a → X
broke_read e = let z : ◌≡◌ {A = ℕ} 0 1 = cc in absurd (omega arith)

pub read_broke : {A X : Type 0} {a : A} {p : ℕ} → read a ≡ broke p → X
read_broke e = let z : ◌≡◌ {A = ℕ} 0 1 = cc in absurd (omega arith)

pub bad_got : {A X : Type 0} {a : A} {n p : ℕ} → bad p ≡ got a n → X
bad_got e = let z : ◌≡◌ {A = ℕ} 0 1 = cc in absurd (omega arith)

pub got_bad : {A X : Type 0} {a : A} {n p : ℕ} → got a n ≡ bad p → X
got_bad e = let z : ◌≡◌ {A = ℕ} 0 1 = cc in absurd (omega arith)

-- the start is a place in every list
pub start_whole : {A : Type 0} (s : List ℕ) (p : ℕ) → ◌≡◌ {A = Read A} (broke 0) (broke p) → p ≤ length s
start_whole s p e = let q : 0 ≡ p = cc in omega arith

pub start_head : {A : Type 0} (s : List ℕ) (p : ℕ) → ◌≡◌ {A = Got A} (bad 0) (bad p) → p ≤ length s
start_head s p e = let q : 0 ≡ p = cc in omega arith

-- with the limits that the first names give the others
pub names_ok : {A B : Type 0} (f : A → B) (g : B → A) (ok : A → Type 0)
    → ((b : B) → ok (g b) → f (g b) ≡ b) → ((a : A) → ok a → g (f a) ≡ a) → Names f g ok (λ b. ok (g b))
names_ok f g ok fg gf = record {
  there = λ a h. let i = gf a h in (rw i h, i);
  back = λ b h. (h, fg b h);
}

pub further_read : {A B : Type 0} (n : ℕ) (f : A → B) (o : Read A) (b : B) → further n f o ≡ read b → (a : A) × (o ≡ read a) × (f a ≡ b)
further_read n f (broke p) b e = broke_read e
further_read n f (read a) b e = (a, refl, cc)

pub further_broke : {A B : Type 0} (n : ℕ) (f : A → B) (o : Read A) (p : ℕ) → further n f o ≡ broke p
    → (q : ℕ) × (o ≡ broke q) × (n + q ≡ p)
further_broke n f (broke q) p e = (q, refl, cc)
further_broke n f (read a) p e = read_broke e

pub renamed_read : {A B : Type 0} (f : A → B) (o : Read A) (b : B) → renamed f o ≡ read b → (a : A) × (o ≡ read a) × (f a ≡ b)
renamed_read f (broke p) b e = broke_read e
renamed_read f (read a) b e = (a, refl, cc)

pub renamed_broke : {A B : Type 0} (f : A → B) (o : Read A) (p : ℕ) → renamed f o ≡ broke p → o ≡ broke p
renamed_broke f (broke q) p e = let i : q ≡ p = cc in ap broke i
renamed_broke f (read a) p e = read_broke e

pub called_got : {A B : Type 0} (f : A → B) (g : Got A) (b : B) (n : ℕ) → called f g ≡ got b n → (a : A) × (g ≡ got a n) × (f a ≡ b)
called_got f (bad p) b n e = bad_got e
called_got f (got a m) b n e = let i : m ≡ n = cc in (a, ap (got a) i, cc)

pub called_bad : {A B : Type 0} (f : A → B) (g : Got A) (p : ℕ) → called f g ≡ bad p → g ≡ bad p
called_bad f (bad q) p e = let i : q ≡ p = cc in ap bad i
called_bad f (got a n) p e = got_bad e

pub on_got_read : {A B : Type 0} (g : Got A) (f : A → ℕ → Read B) (b : B) → on_got g f ≡ read b
    → (a : A) × (n : ℕ) × (g ≡ got a n) × (f a n ≡ read b)
on_got_read (bad p) f b e = broke_read e
on_got_read (got a n) f b e = (a, n, refl, e)

pub attach_got : {A : Type 0} (f : ℕ → ℕ) (m : ℕ) (o : Read A) (a : A) (n : ℕ) → attach f m o ≡ got a n → (o ≡ read a) × (m ≡ n)
attach_got f m (broke p) a n e = bad_got e
attach_got f m (read b) a n e = (cc, cc)

pub attach_bad : {A : Type 0} (f : ℕ → ℕ) (m : ℕ) (o : Read A) (p : ℕ) → attach f m o ≡ bad p → (q : ℕ) × (o ≡ broke q) × (f q ≡ p)
attach_bad f m (broke q) p e = (q, refl, cc)
attach_bad f m (read a) p e = got_bad e

-- a test whose failure is refused
pub tested_got : {A : Type 0} (t : Bool) (g : Got A) (p : ℕ) (a : A) (n : ℕ) → cond t g (bad p) ≡ got a n → (t ≡ true) × (g ≡ got a n)
tested_got true g p a n e = (refl, e)
tested_got false g p a n e = bad_got e
