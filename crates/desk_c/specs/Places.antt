-- What the C functions that show a part answer: a number, and where the part is; and what desk_misfit writes.
-- signed_span, algorithm_in, signature_span; header_size, behind_header, last_before, held_in, certificates_in; entry_number, entry_span;
-- place_over.
-- A refusal's part is empty: it starts at 0 and has no octets. So are the certificates where there are none, and the part
-- past the last entry. The parts are in crate show (Parts). That the octets there are the forms of the reading's parts is in
-- PlacesLaws, of the signed part and the signature in PartsLaws of crate show.
-- Assumes nothing.
use Rattle.std.specs.Prelude.{ℕ, ◌+◌, ◌-◌, cond, List, eqb, length, drop, Option, Some, None, Ok, Err}
use Rattle.element.specs.Header.{header_of}
use Rattle.element.specs.Places.{HeaderRead}
use Rattle.element.specs.declared.Span.{Span}
use Rattle.read_response.specs.Judged.{Judged}
use Rattle.show.specs.Parts.{empty_span, shown_parts}
use Rattle.show.specs.Shown.{octets_in}
use Rattle.show.specs.declared.Entry.{Entry}
use Rattle.show.specs.declared.Entry.TheVariants.{At, End, Refused}

-- where the signed part is, header included
abbrev pub signed_span : Judged → Span
signed_span j = (shown_parts j).signed

-- where the signature's algorithm identifier is, header included
abbrev pub algorithm_in : Judged → Span
algorithm_in j = (shown_parts j).algorithm

-- where the signature is, without its 00
abbrev pub signature_span : Judged → Span
signature_span j = (shown_parts j).signature

-- how many octets a header takes, none where there is no header
abbrev pub header_size : HeaderRead → ℕ
header_size (Ok h) = h.start
header_size (Err p) = 0

-- what stands behind the header at the head of a list
unfoldable pub behind_header : List ℕ → List ℕ
behind_header s = drop (header_size (header_of s)) s

-- so many octets before a place; an empty part where there are none
unfoldable pub last_before : ℕ → ℕ → Span
last_before end n = cond (eqb n 0) empty_span record { start = end - n; len = n }

-- of an element at a place that holds one other, what that other holds: it stands behind both headers
unfoldable pub held_in : List ℕ → Span → Span
held_in s at = last_before (at.start + at.len) (length (behind_header (behind_header (octets_in s at))))

-- where the certificates are, one after the other, without the A0 and the 30 around them
abbrev pub certificates_in : List ℕ → Judged → Span
certificates_in s j = held_in s (shown_parts j).certificates

-- the refusal of an entry, 0 where there is none
unfoldable pub entry_number : Entry → ℕ
entry_number (At start len) = 0
entry_number End = 0
entry_number (Refused number status place) = number

-- where an entry is
unfoldable pub entry_span : Entry → Span
entry_span (At start len) = record { start = start; len = len }
entry_span End = empty_span
entry_span (Refused number status place) = empty_span

-- a place, written over a number; without one the number stays
abbrev pub place_over : Option ℕ → ℕ → ℕ
place_over (Some p) n = p
place_over None n = n
