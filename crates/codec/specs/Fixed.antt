-- Fields of a fixed width, without a header; and a value that has to pass a test.
-- chunk (a width, and a content of that width), such (a whole list whose value passes a test).
-- The definitions stand here; the laws, and what is made of them, in proofs/Fixed.
-- Assumes nothing.
use Rattle.std.specs.Prelude.{ℕ, Bool, List, take}
use Rattle.std.proofs.Math.Bool.{cond}
use Rattle.std.proofs.Math.Option.{Option, none, some}
use Rattle.std.proofs.Math.Dec.{ltb}
use Rattle.std.proofs.Math.ListN.{length}
use Rattle.codec.specs.Codec.{Read, read, broke, Got, got, bad}

-- by the content of the first w octets
abbrev pub chunk_of : {A : Type 0} → ℕ → Option A → Got A
chunk_of w none = bad 0
chunk_of w (some a) = got a w

-- the first w octets; where there are fewer, the end is the place
unfoldable pub chunk_dec : {A : Type 0} → ℕ → (List ℕ → Option A) → List ℕ → Got A
chunk_dec w d s = cond (ltb (length s) w) (bad (length s)) (chunk_of w (d (take w s)))

-- the value passes a test; where it does not, the start is the place
abbrev pub such_of : {A : Type 0} → (A → Bool) → Read A → Read A
such_of test (broke p) = broke p
such_of test (read a) = cond (test a) (read a) (broke 0)

unfoldable pub such_dec : {A : Type 0} → (A → Bool) → (List ℕ → Read A) → List ℕ → Read A
such_dec test d s = such_of test (d s)
