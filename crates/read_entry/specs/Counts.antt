-- A run of elements seen as a number: what the code answers.
-- Count; count_of. How a loop over the elements keeps it is in proofs/CountTurns.
-- Assumes nothing.
use Rattle.std.specs.Prelude.{ℕ, List, Result, Ok, Err, length}
use Rattle.element.specs.Places.{misfit}
use Rattle.element.specs.declared.Misfit.{Misfit}
use Rattle.codec.specs.Codec.{Read, read, broke}

-- how many elements there are, or the place that is wrong
abbrev pub Count : Type 0
Count = Result ℕ Misfit

-- the same of a reading
unfoldable pub count_of : {A : Type 0} → Read (List A) → Count
count_of (read l) = Ok (length l)
count_of (broke p) = Err (misfit p)
