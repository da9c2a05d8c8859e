-- Short names for what readers answer: a place that is wrong, a part of a list, and a header.
-- misfit, span, header; HeaderRead, Spot.
-- Assumes nothing.
use Rattle.std.specs.Prelude.{ℕ, Result}
use Rattle.element.specs.declared.Misfit.{Misfit}
use Rattle.element.specs.declared.Span.{Span}
use Rattle.element.specs.declared.Header.{Header}

-- the place that is wrong
abbrev pub misfit : ℕ → Misfit
misfit p = record { place = p }

-- the l octets from b
abbrev pub span : ℕ → ℕ → Span
span b l = record { start = b; len = l }

-- an element with the tag t, whose content starts at h and is n octets long
abbrev pub header : ℕ → ℕ → ℕ → Header
header t h n = record { tag = t; start = h; len = n }

-- what stands at the head of a part: a header, or the place that is wrong
abbrev pub HeaderRead : Type 0
HeaderRead = Result Header Misfit

-- where something stands in a part, or the place that is wrong
abbrev pub Spot : Type 0
Spot = Result Span Misfit
