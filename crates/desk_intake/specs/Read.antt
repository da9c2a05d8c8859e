-- What reading an input, one read after the other, leaves in the space.
-- Onward, ReadAs, WasRead. Their laws are in ReadLaws.
-- An input is the octets that the reads handed over, one after the other. Which octets these are no definition says; a program's
-- main.rt tells what has to be true of the operating system.
-- Assumes nothing.
use Rattle.std.specs.Prelude.{ℕ, ◌<◌, ◌≡◌, List, [], ◌++◌, length}
use Rattle.desk_intake.specs.Kept.{Holds}
use Rattle.desk_intake.specs.declared.Input.{Input}
use Rattle.desk_intake.specs.declared.Input.TheVariants.{More, End, Failed}

-- one read more: what the space holds of an input before it, it holds after it of that input and the octets that came; at the
-- end of the input none came
abbrev pub Onward : List ℕ → ℕ → List ℕ → Input → Type 0
Onward before done after (More n) = (l : List ℕ) → Holds before done l → (came : List ℕ) × (0 < length came) × Holds after n (l ++ came)
Onward before done after (End n) = (l : List ℕ) → Holds before done l → Holds after n l
Onward before done after Failed = Unit {0}

-- the input that reading came to: the space holds it; an empty one where reading did not come to the end
abbrev pub ReadAs : List ℕ → Input → List ℕ → Type 0
ReadAs space (More n) l = l ≡ []
ReadAs space (End n) l = Holds space n l
ReadAs space Failed l = l ≡ []

-- there is such an input
abbrev pub WasRead : List ℕ → Input → Type 0
WasRead space input = (l : List ℕ) × ReadAs space input l
