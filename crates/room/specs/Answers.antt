-- What the program answers to the input that was read.
-- Answers; Inside. What reading leaves in the space is in crate desk_intake (Read), the answer in crate cache_line (Reply).
-- Assumes nothing.
use Rattle.std.specs.Prelude.{ℕ, ◌≤◌, ◌≡◌, List, length, take}
use Rattle.hexadecimal.specs.Hex.{hex_line}
use Rattle.desk_intake.specs.Read.{ReadAs}
use Rattle.desk_intake.specs.declared.Input.{Input}
use Rattle.cache_line.specs.declared.Reply.{Reply}
use Rattle.cache_line.specs.Reply.{reply_of, cache_of}

-- the octets to be written are the line and the cache of the whole input, all of them, whichever input the space holds
unfoldable pub Answers : List ℕ → Input → Reply → List ℕ → List ℕ → Type 0
Answers space input r line cache =
    (l : List ℕ) → ReadAs space input l → (take r.line line ≡ hex_line (reply_of l)) × (take r.cache cache ≡ cache_of l)

-- they are in their buffers
pub record Inside (r : Reply) (line cache : List ℕ) : Type 0 where
  pub said : r.line ≤ length line
  pub handed : r.cache ≤ length cache
