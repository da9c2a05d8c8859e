-- The algorithms that a test knows, as a list, and the octets of their identifiers; the two that an OID
-- with parameters absent or 05 00 has; SHA-1's.
-- Listed, Knows, heads_of; form_small; plain_of, null_of, knows_oid; sha1_heads_lem, knows_sha1.
-- The definitions stand here; the laws, and what is made of them, in proofs/Known.
-- Assumes nothing.
use Rattle.std.specs.Prelude.{ℕ, ◌≤◌, ◌≡◌, Bool, true, ◌⊎◌, length}
use mathlib.Core.List.{List, [], ◌∷◌}
use Rattle.std.proofs.Math.Option.{none, some}
use Rattle.codec.specs.Tree.{prim}
use Rattle.layout.specs.Reading.{Algorithm}
use Rattle.layout.specs.Limits.{AlgorithmOk}
use Rattle.layout.proofs.EntryFormat.{algorithm_identifier}

-- an algorithm is one of a list
abbrev pub Listed : Algorithm → List Algorithm → Type 0
Listed a [] = ⊥
Listed a (b ∷ l) = (a ≡ b) ⊎ Listed a l

-- a test knows exactly the algorithms of a list, each within the limits and of at most 1,024 octets
pub record Knows (known : Algorithm → Bool) (l : List Algorithm) : Type 0 where
  pub fits : (a : Algorithm) → Listed a l → AlgorithmOk a × (length (algorithm_identifier.enc a) ≤ 1024)
  pub knows : (a : Algorithm) → Listed a l → known a ≡ true
  pub only : (a : Algorithm) → known a ≡ true → Listed a l

-- the octets of their identifiers
abbrev pub heads_of : List Algorithm → List (List ℕ)
heads_of [] = []
heads_of (a ∷ l) = algorithm_identifier.enc a ∷ heads_of l

-- parameters absent
abbrev pub plain_of : List ℕ → Algorithm
plain_of o = record { oid = o; parameters = none }

-- parameters 05 00
abbrev pub null_of : List ℕ → Algorithm
null_of o = record { oid = o; parameters = some (prim 5 []) }
