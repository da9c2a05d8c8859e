-- Contents of primitive elements: octets that pass a test, one string of octets, and a content under
-- another name. A content read as a whole list refuses its start.
-- octets_content, fixed_content, mapped_content_to, filled.
-- The definitions stand here; the laws, and what is made of them, in proofs/Contents.
-- Assumes nothing.
use Rattle.std.specs.Prelude.{ℕ, Bool, cond, List}
use Rattle.std.proofs.Math.Option.{Option, none, some}
use Rattle.octets.specs.Same.{same_of}
use Rattle.codec.specs.Codec.{Read, read, broke}

-- octets that pass a test
unfoldable pub octets_read : (List ℕ → Bool) → List ℕ → Option (List ℕ)
octets_read test c = cond (test c) (some c) none

-- these octets alone
unfoldable pub fixed_read : List ℕ → List ℕ → Option (Unit {0})
fixed_read x c = cond (same_of x c) (some tt) none

-- the same content under another name
abbrev pub renamed_option : {A B : Type 0} → (A → B) → Option A → Option B
renamed_option f none = none
renamed_option f (some a) = some (f a)

unfoldable pub mapped_read : {A B : Type 0} → (A → B) → (List ℕ → Option A) → List ℕ → Option B
mapped_read f d c = renamed_option f (d c)

-- a content as a whole list
abbrev pub or_start : {A : Type 0} → Option A → Read A
or_start none = broke 0
or_start (some a) = read a

unfoldable pub filled_dec : {A : Type 0} → (List ℕ → Option A) → List ℕ → Read A
filled_dec d c = or_start (d c)
