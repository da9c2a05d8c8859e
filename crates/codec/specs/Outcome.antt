-- What is made of a reading: the value under another name, a place further on, what an element's
-- content gives the element; and what each tells of the reading that it was made of.
-- Names; further, renamed, called, on_got, attach.
-- The definitions stand here; the laws, and what is made of them, in proofs/Outcome.
-- Assumes nothing.
use Rattle.std.specs.Prelude.{ℕ, ◌+◌, ◌≡◌}
use Rattle.codec.specs.Codec.{Read, read, broke, Got, got, bad}

-- the same values under other names, each with its limits: within them the two ways undo one another
pub record Names {A B : Type 0} (f : A → B) (g : B → A) (ok : A → Type 0) (limits : B → Type 0) : Type 0 where
  pub there : (a : A) → ok a → limits (f a) × (g (f a) ≡ a)
  pub back : (b : B) → limits b → ok (g b) × (f (g b) ≡ b)

-- the value under another name, and the place further on
abbrev pub further : {A B : Type 0} → ℕ → (A → B) → Read A → Read B
further n f (broke p) = broke (n + p)
further n f (read a) = read (f a)

-- the value under another name
abbrev pub renamed : {A B : Type 0} → (A → B) → Read A → Read B
renamed f (broke p) = broke p
renamed f (read a) = read (f a)

-- the same of an element
abbrev pub called : {A B : Type 0} → (A → B) → Got A → Got B
called f (bad p) = bad p
called f (got a n) = got (f a) n

-- an element, and what is made of it and of how many octets it took
abbrev pub on_got : {A B : Type 0} → Got A → (A → ℕ → Read B) → Read B
on_got (bad p) f = broke p
on_got (got a n) f = f a n

-- what an element's content gives the element: its value, or the place that f makes of the content's
abbrev pub attach : {A : Type 0} → (ℕ → ℕ) → ℕ → Read A → Got A
attach f n (broke p) = bad (f p)
attach f n (read a) = got a n
