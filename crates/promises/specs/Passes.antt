-- Which answers pass 1 to 5, of the check and of the desk's octets.
-- Passes. Exactly when an answer passes is in proofs/Passes.
-- Assumes nothing.
use Prim.Native.Nat.{ℕ, ◌<◌}
use Rattle.std.specs.Prelude.{◌≡◌}
use Rattle.answer.specs.declared.Verdict.TheVariants.{Refused}
use Rattle.answer.specs.declared.Answer.{Answer}

-- an answer passes 1 to 5: it is no refusal with one of these numbers
abbrev pub Passes : Answer → Type 0
Passes a = (n status : ℕ) → a.verdict ≡ Refused n status → 5 < n
