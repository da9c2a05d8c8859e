-- What is shown of a response: its signed part, its signature, and its entries one by one.
-- octets_in, signed_of, signature_of; refused_entry, entry_in, entry_as, entry_of. Their laws are in ShownLaws and
-- EntryLaws.
-- Assumes nothing.
use Rattle.std.specs.Prelude.{ℕ, ◌+◌, ◌-◌, cond, List, [], ltb, length, take, drop, Ok, Err}
use Rattle.element.specs.declared.Span.{Span}
use Rattle.codec.specs.Many.{forms}
use Rattle.layout.specs.Reading as reading
use Rattle.layout.proofs.Format.{single_response, basic_body}
use Rattle.layout.specs.Read.{Outcome, reads, other_type, unfit}
use Rattle.layout.proofs.Read.{reading}
use Rattle.read_response.specs.Parts.{parts_from, judged_as, judged_of}
use Rattle.read_response.specs.Refusals.{refusal_of}
use Rattle.read_response.specs.declared.Unread.TheVariants as unread
use Rattle.read_response.specs.Judged.{Judged}
use Rattle.show.specs.declared.Entry.{Entry}
use Rattle.show.specs.declared.Entry.TheVariants as entry

-- the octets at a place
abbrev pub octets_in : List ℕ → Span → List ℕ
octets_in s at = take at.len (drop at.start s)

-- ── the signed part, header included; the signature, without its 00 ──
-- a refusal gives an empty part
unfoldable pub signed_in : List ℕ → Judged → List ℕ
signed_in s (Ok p) = octets_in s p.signed
signed_in s (Err unread.TooLong) = []
signed_in s (Err (unread.Unfit m)) = []
signed_in s (Err (unread.Failed n)) = []
signed_in s (Err unread.OtherType) = []

unfoldable pub signed_of : List ℕ → List ℕ
signed_of s = signed_in s (judged_of s)

unfoldable pub signature_in : List ℕ → Judged → List ℕ
signature_in s (Ok p) = octets_in s p.signature
signature_in s (Err unread.TooLong) = []
signature_in s (Err (unread.Unfit m)) = []
signature_in s (Err (unread.Failed n)) = []
signature_in s (Err unread.OtherType) = []

unfoldable pub signature_of : List ℕ → List ℕ
signature_of s = signature_in s (judged_of s)

-- ── the entries one by one ──
-- a refusal instead of an entry
abbrev pub refused_entry : Judged → Entry
refused_entry j = entry.Refused (refusal_of j).number (refusal_of j).status (refusal_of j).place

-- of entries whose octets start at a place, the one with this ordinal, counted from 0: it comes after
-- the forms of those before it; at or past their number is the end
unfoldable pub entry_in : ℕ → List reading.Entry → ℕ → Entry
entry_in at l k =
    cond (ltb k (length l))
    (entry.At (at + length (forms single_response.enc (take k l))) (length (forms single_response.enc (take 1 (drop k l)))))
    entry.End

unfoldable pub entry_as : ℕ → ℕ → Outcome → Entry
entry_as n k (reads (reading.basic b)) = entry_in (parts_from (n - length (basic_body.enc b)) b).entries.start b.signed.entries k
entry_as n k (reads (reading.failed c)) = refused_entry (judged_as n (reads (reading.failed c)))
entry_as n k other_type = refused_entry (judged_as n other_type)
entry_as n k (unfit p) = refused_entry (judged_as n (unfit p))

-- the entry with this ordinal, header included
unfoldable pub entry_of : List ℕ → ℕ → Entry
entry_of s k = cond (ltb 16384 (length s)) (refused_entry (Err unread.TooLong)) (entry_as (length s) k (reading s))
