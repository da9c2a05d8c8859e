-- Contents of one octet and of none, seen as positions: what their readers answer.
-- code, CodeRead; code_of; single_at, fixed_at, empty_at. The laws are in CodeLaws.
-- That an element takes so many octets is step_of, in codec's Views.
-- Assumes nothing.
use Rattle.std.specs.Prelude.{ℕ, true, List, [], ◌∷◌, Result, Ok, Err}
use Rattle.element.specs.Places.{misfit}
use Rattle.element.specs.declared.Misfit.{Misfit}
use Rattle.codec.specs.Codec.{Got, got, bad}
use Rattle.codec.specs.Tagged.{own, tagged_dec}
use Rattle.codec.specs.Contents.{fixed_read, filled_dec}
use Rattle.layout.specs.Words.{single_read}
use Rattle.read_codes.specs.declared.Code.{Code}

-- the octet v, and the place n after its element
abbrev pub code : ℕ → ℕ → Code
code v n = record { value = v; next = n }

-- an element of one octet, or the place that is wrong
abbrev pub CodeRead : Type 0
CodeRead = Result Code Misfit

-- the octet that was read, and the place after it
unfoldable pub code_of : Got ℕ → CodeRead
code_of (got v n) = Ok (code v n)
code_of (bad p) = Err (misfit p)

-- an element with this tag whose content is one octet, whatever it is
unfoldable pub single_at : ℕ → List ℕ → Got ℕ
single_at t s = tagged_dec own t (filled_dec (single_read (λ x. true))) s

-- an element with this tag whose content is this octet
unfoldable pub fixed_at : ℕ → ℕ → List ℕ → Got (Unit {0})
fixed_at t x s = tagged_dec own t (filled_dec (fixed_read (x ∷ []))) s

-- an element with this tag and no content
unfoldable pub empty_at : ℕ → List ℕ → Got (Unit {0})
empty_at t s = tagged_dec own t (filled_dec (fixed_read [])) s
