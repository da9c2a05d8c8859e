-- Where the parts of a response are that are shown, by what the response is.
-- empty_span, no_parts, shown_parts.
-- An empty part starts at 0 and has no octets. That a part lies inside the response, and what its octets are, is in PartsLaws.
-- Assumes nothing.
use Rattle.std.specs.Prelude.{Ok, Err}
use Rattle.element.specs.declared.Span.{Span}
use Rattle.element.specs.Places.{span}
use Rattle.read_response.specs.declared.Parts.{Parts}
use Rattle.read_response.specs.Judged.{Judged}

-- an empty part
abbrev pub empty_span : Span
empty_span = span 0 0

-- the parts of what has none
abbrev pub no_parts : Parts
no_parts = record {
  signed = empty_span;
  responder = empty_span;
  entries = empty_span;
  count = 0;
  extensions = empty_span;
  algorithm = empty_span;
  signature = empty_span;
  certificates = empty_span;
}

-- the parts of a response, all empty where it is refused
unfoldable pub shown_parts : Judged → Parts
shown_parts (Ok p) = p
shown_parts (Err u) = no_parts
