-- Where the parts of a basic response are: each stands after the forms of the parts before it. The
-- basic response's own content is the last octets of the response.
-- responses_size, entries_size, responses_at, responder_span, entries_span, extensions_span; signed_size,
-- fields_at, algorithm_size, signature_end, parts_from, parts_in; judged_as, judged_of. That the octets there are
-- the parts' forms is in PartsLaws.
-- Assumes nothing.
use Rattle.std.specs.Prelude.{ℕ, ◌+◌, ◌-◌, cond, List, ltb, length, Ok, Err}
use Rattle.element.specs.Places.{misfit, span}
use Rattle.element.specs.declared.Span.{Span}
use Rattle.codec.specs.Option.{option_enc}
use Rattle.codec.specs.Many.{forms}
use Rattle.layout.specs.Reading.{Signed, Basic, failed, basic}
use Rattle.layout.specs.Names.{fields_of}
use Rattle.layout.proofs.Format.{algorithm_identifier, extensions, single_response, responses, signed_fields, response_data, signature_bits, certificates, basic_body}
use Rattle.layout.specs.Read.{Outcome, reads, other_type, unfit}
use Rattle.layout.proofs.Read.{reading}
use Rattle.read_basic.specs.Views.{responder_size, produced_size}
use Rattle.read_response.specs.declared.Parts.{Parts}
use Rattle.read_response.specs.declared.Unread.TheVariants as unread
use Rattle.read_response.specs.Judged.{Judged}

-- the parts of a signed part whose fields, without a version, start at a place
abbrev pub responses_size : Signed → ℕ
responses_size d = length (responses.enc d.entries)

abbrev pub entries_size : Signed → ℕ
entries_size d = length (forms single_response.enc d.entries)

-- the entries' element comes after the responder id and producedAt
abbrev pub responses_at : ℕ → Signed → ℕ
responses_at at d = at + (responder_size d + produced_size d)

abbrev pub responder_span : ℕ → Signed → Span
responder_span at d = span at (responder_size d)

-- the entries are the last octets of their element
abbrev pub entries_span : ℕ → Signed → Span
entries_span at d = span (responses_at at d + (responses_size d - entries_size d)) (entries_size d)

abbrev pub extensions_span : ℕ → Signed → Span
extensions_span at d = span (responses_at at d + responses_size d) (length (option_enc extensions.enc d.extensions))

-- the parts of a basic response whose content starts at a place
abbrev pub signed_size : Basic → ℕ
signed_size b = length (response_data.enc b.signed)

-- the fields, without a version, are the signed part's last octets
abbrev pub fields_at : ℕ → Basic → ℕ
fields_at at b = at + (signed_size b - length (signed_fields.enc (fields_of b.signed)))

abbrev pub algorithm_size : Basic → ℕ
algorithm_size b = length (algorithm_identifier.enc b.algorithm)

abbrev pub signature_end : ℕ → Basic → ℕ
signature_end at b = at + (signed_size b + (algorithm_size b + length (signature_bits.enc b.signature)))

unfoldable pub parts_from : ℕ → Basic → Parts
parts_from at b = record {
  signed = span at (signed_size b);
  responder = responder_span (fields_at at b) b.signed;
  entries = entries_span (fields_at at b) b.signed;
  count = length b.signed.entries;
  extensions = extensions_span (fields_at at b) b.signed;
  algorithm = span (at + signed_size b) (algorithm_size b);
  signature = span (signature_end at b - length b.signature) (length b.signature);
  certificates = span (signature_end at b) (length (option_enc certificates.enc b.certificates));
}

-- where the parts of a response are that reads as this
abbrev pub parts_in : List ℕ → Basic → Parts
parts_in s b = parts_from (length s - length (basic_body.enc b)) b

-- what a response of this size is
unfoldable pub judged_as : ℕ → Outcome → Judged
judged_as n (reads (basic b)) = Ok (parts_from (n - length (basic_body.enc b)) b)
judged_as n (reads (failed c)) = Err (unread.Failed c)
judged_as n other_type = Err unread.OtherType
judged_as n (unfit p) = Err (unread.Unfit (misfit p))

-- a response longer than 16,384 octets is not looked at
unfoldable pub judged_of : List ℕ → Judged
judged_of s = cond (ltb 16384 (length s)) (Err unread.TooLong) (judged_as (length s) (reading s))
