-- Where the CertID of an entry is, by the headers alone: the entry's, and that of its first element.
-- cert_in, cert_spot. That its octets there are its form is in EntryLaws.
-- Assumes nothing.
use Rattle.std.specs.Prelude.{ℕ, ◌+◌, List, Ok, Err, take, drop}
use Rattle.element.specs.Places.{Spot, misfit, span}
use Rattle.element.specs.Header.{header_of}
use Rattle.read_content.specs.Spots.{expected}

-- the same b octets further on
unfoldable pub spot_moved : ℕ → Spot → Spot
spot_moved b (Ok v) = Ok (span (b + v.start) v.len)
spot_moved b (Err p) = Err (misfit (b + p.place))

-- by where the entry's content is: the content of its first element
unfoldable pub cert_in : List ℕ → Spot → Spot
cert_in s (Ok v) = spot_moved v.start (expected 0x30 (header_of (take v.len (drop v.start s))))
cert_in s (Err p) = Err p

-- where the content of the CertID of the entry at the head of a list is, or the place that is wrong
unfoldable pub cert_spot : List ℕ → Spot
cert_spot s = cert_in s (expected 0x30 (header_of s))
