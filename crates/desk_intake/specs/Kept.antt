-- What is kept of an input that comes in chunks.
-- kept_of; kept_with, space_kept; Holds. Their laws are in KeptLaws; how much room there must be is in Room.
-- Assumes nothing.
use Rattle.std.specs.Prelude.{ℕ, ◌≡◌, List, ◌++◌, length, take, drop}

-- what is kept of an input: the beginning that there is room for
unfoldable pub kept_of : ℕ → List ℕ → List ℕ
kept_of room l = take room l

-- what is kept of the first octets of a space, which are there already, and a chunk after them
unfoldable pub kept_with : List ℕ → ℕ → List ℕ → List ℕ
kept_with space done chunk = kept_of (length space) (take done space ++ chunk)

-- the space then: what is kept, and the rest as it was
unfoldable pub space_kept : List ℕ → ℕ → List ℕ → List ℕ
space_kept space done chunk = kept_with space done chunk ++ drop (length (kept_with space done chunk)) space

-- the first n octets of a space are what is kept of an input, all of it
pub record Holds (space : List ℕ) (n : ℕ) (input : List ℕ) : Type 0 where
  pub octets : take n space ≡ kept_of (length space) input
  pub count : n ≡ length (kept_of (length space) input)
