-- What a writer answers, and what it leaves in the lent buffer (document 01, "Numbers a refusal carries").
-- output_of, output_in. Their laws are in OutputLaws.
-- Assumes nothing.
use Rattle.std.specs.Prelude.{ℕ, cond, List, eqb, ltb}
use Rattle.octets.specs.Buffer.{put_in}
use Rattle.fields.specs.declared.Output.{Output}
use Rattle.fields.specs.declared.Output.TheVariants.{Octets, Refused}

-- the refusal of what is to be written (0: none), then 18 where the buffer has less than n octets, else that n were written
unfoldable pub output_of : ℕ → ℕ → ℕ → Output
output_of refusal size n = cond (eqb refusal 0) (cond (ltb size n) (Refused 18) (Octets n)) (Refused refusal)

-- the buffer with the new octets first and the rest unchanged; as it was where there is a refusal
unfoldable pub output_in : ℕ → List ℕ → List ℕ → List ℕ
output_in refusal out new = cond (eqb refusal 0) (put_in out 0 new) out
