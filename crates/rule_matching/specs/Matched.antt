-- What a match says of a CertID, part by part.
-- both; Matched, match_exactly, match_same.
-- The definition is in Match. Hashes have any length, and what algorithms are known is any test.
-- The definitions stand here; the laws, and what is made of them, in proofs/Matched.
-- Assumes nothing.
use Rattle.std.specs.Prelude.{ℕ, ◌≡◌, Bool, true, List}
use Rattle.layout.specs.Reading.{Algorithm, CertId}

-- a CertID's algorithm is known, and its hashes and its serial are these
pub record Matched (known : Algorithm → Bool) (name key : List ℕ) (number : ℕ) (c : CertId) : Type 0 where
  pub algorithm : known c.algorithm ≡ true
  pub name_hash : c.name_hash ≡ name
  pub key_hash : c.key_hash ≡ key
  pub serial : c.serial ≡ number
