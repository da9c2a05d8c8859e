-- The contents of the layout's primitive elements: what each may be, and as what it is read.
-- time_content and serial_content (in Numbers), oid_content, bits, single, empty, yes, nought; the tests between, anything,
-- reason_ok, status_ok.
-- The definitions stand here; the laws, and what is made of them, in proofs/Words.
-- Assumes nothing.
use Rattle.std.specs.Prelude.{ℕ, Bool, true, false, cond, leb, eqb, length}
use Rattle.std.proofs.Common.{lit<}
use mathlib.Core.List.{List, [], ◌∷◌}
use Rattle.std.proofs.Math.Option.{Option, none, some}
use Rattle.content.specs.Oid.{oid_ok}
use Rattle.codec.specs.Codec.{Content}
use Rattle.codec.proofs.Contents.{octets_content, fixed_content}
pub use Rattle.layout.specs.Numbers.{seconds_in}
unfoldable pub use Rattle.layout.specs.Numbers.{time_read, serial_read}

-- an OID
abbrev pub oid_content : Content (List ℕ)
oid_content = octets_content oid_ok

-- at least lo octets and at most hi
unfoldable pub between : ℕ → ℕ → List ℕ → Bool
between lo hi c = cond (leb lo (length c)) (leb (length c) hi) false

-- any octets
abbrev pub anything : List ℕ → Bool
anything c = true

-- a bit string of whole octets: 00, then the octets, at least one
unfoldable pub bits_read : List ℕ → Option (List ℕ)
bits_read [] = none
bits_read (x ∷ []) = none
bits_read (x ∷ y ∷ s) = cond (eqb x 0) (some (y ∷ s)) none

-- one octet that passes a test, as a number
unfoldable pub single_read : (ℕ → Bool) → List ℕ → Option ℕ
single_read test [] = none
single_read test (x ∷ []) = cond (test x) (some x) none
single_read test (x ∷ y ∷ s) = none

-- a reason: 0 to 10 but not 7
unfoldable pub reason_ok : ℕ → Bool
reason_ok n = cond (leb n 10) (cond (eqb n 7) false true) false

-- a response status: 0, 1, 2, 3, 5 or 6
unfoldable pub status_ok : ℕ → Bool
status_ok n = cond (leb n 6) (cond (eqb n 4) false true) false

-- no content at all
abbrev pub empty : Content (Unit {0})
empty = fixed_content [] tt

-- TRUE, as DER writes it
abbrev pub yes : Content (Unit {0})
yes = fixed_content (255 ∷ []) (lit< tt, tt)

-- the number 0
abbrev pub nought : Content (Unit {0})
nought = fixed_content (0 ∷ []) (lit< tt, tt)
