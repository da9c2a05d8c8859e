-- A codec: how a value is read from octets and written as octets, with the laws that make the two
-- one. Content reads the content of a primitive element, Whole reads a whole list, Element reads one
-- element at the head of a list. A place is counted from the start of the list that was handed over.
-- The limits are those of the value's own fields; that a form's length fits 64 bits is asked beside
-- them, where a form is read back.
-- Read, Got, Content, Whole, Element. What is made of them is in the other files.
-- Assumes nothing.
use Rattle.std.specs.Prelude.{ℕ, ◌^◌, ◌<◌, ◌≤◌, ◌≡◌, List, ◌++◌, length, drop}
use Rattle.std.proofs.Math.Option.{Option, some}
use Rattle.octets.specs.Octets.{Octets}

-- a whole list read: the value, or the place that is wrong
pub data Read (A : Type 0) : Type 0 where
  read : A → Read A
  broke : ℕ → Read A

-- the head of a list read: the value and how many octets it takes, or the place that is wrong
pub data Got (A : Type 0) : Type 0 where
  got : A → ℕ → Got A
  bad : ℕ → Got A

-- a content: the value, or that there is none
pub record Content (A : Type 0) : Type 1 where
  pub dec : List ℕ → Option A
  pub enc : A → List ℕ
  pub ok : A → Type 0
  -- what is read is within the limits, and its form is what was read
  pub sound : (c : List ℕ) (a : A) → Octets c → dec c ≡ some a → ok a × (c ≡ enc a)
  -- what is within the limits is read from its form
  pub complete : (a : A) → ok a → dec (enc a) ≡ some a
  -- a form is octets
  pub octets : (a : A) → ok a → Octets (enc a)

-- the same of a whole list, for forms whose length fits 64 bits; a refused list has a place that is
-- wrong
pub record Whole (A : Type 0) : Type 1 where
  pub dec : List ℕ → Read A
  pub enc : A → List ℕ
  pub ok : A → Type 0
  pub sound : (s : List ℕ) (a : A) → Octets s → dec s ≡ read a → ok a × (s ≡ enc a)
  pub complete : (a : A) → ok a → length (enc a) < 2 ^ 64 → dec (enc a) ≡ read a
  pub octets : (a : A) → ok a → length (enc a) < 2 ^ 64 → Octets (enc a)
  -- a wrong place lies in the list or at its end
  pub within : (s : List ℕ) (p : ℕ) → dec s ≡ broke p → p ≤ length s

-- the same of the head of a list, whatever follows it
pub record Element (A : Type 0) : Type 1 where
  pub dec : List ℕ → Got A
  pub enc : A → List ℕ
  pub ok : A → Type 0
  pub sound : (s : List ℕ) (a : A) (n : ℕ) → Octets s → dec s ≡ got a n → ok a × (s ≡ enc a ++ drop n s)
  pub complete : (a : A) (r : List ℕ) → ok a → length (enc a) < 2 ^ 64 → dec (enc a ++ r) ≡ got a (length (enc a))
  pub octets : (a : A) → ok a → length (enc a) < 2 ^ 64 → Octets (enc a)
  pub within : (s : List ℕ) (p : ℕ) → dec s ≡ bad p → p ≤ length s
  -- what it takes is there, and is not nothing
  pub inside : (s : List ℕ) (a : A) (n : ℕ) → dec s ≡ got a n → (0 < n) × (n ≤ length s)
