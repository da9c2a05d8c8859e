-- Laws of what a response is judged to be: what is judged basic reads as a basic response, and what reads
-- as one is judged so.
-- Reads, judged_basic, basic_judged.
-- The definitions are in Parts. Assumes nothing.
-- The definitions stand here; the laws, and what is made of them, in proofs/JudgedLaws.
use Rattle.std.specs.Prelude.{ℕ, ◌≤◌, ◌≡◌, List, length}
use Rattle.layout.specs.Reading.{Basic, basic}
use Rattle.layout.specs.Read.{reads}
use Rattle.layout.proofs.Read.{reading}
use Rattle.read_response.specs.Parts.{parts_in}
use Rattle.read_response.specs.declared.Parts.{Parts}

-- what is judged basic reads as a basic response, and its parts are where that has them
pub record Reads (s : List ℕ) (t : Parts) : Type 0 where
  pub value : Basic
  pub read : reading s ≡ reads (basic value)
  pub parts : t ≡ parts_in s value
  pub small : length s ≤ 16384
