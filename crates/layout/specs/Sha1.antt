-- SHA-1 as an algorithm identifier names it (document 01, "Response layout"): its OID, and the two algorithm identifiers
-- that a CertID for a card may have.
-- sha1; plain_head, null_head.
-- Assumes nothing.
use Rattle.std.specs.Prelude.{ℕ, List, [], ◌∷◌}

-- SHA-1, 1.3.14.3.2.26
abbrev pub sha1 : List ℕ
sha1 = 0x2b ∷ 0x0e ∷ 0x03 ∷ 0x02 ∷ 0x1a ∷ []

-- SHA-1, parameters absent
abbrev pub plain_head : List ℕ
plain_head = 0x30 ∷ 0x07 ∷ 0x06 ∷ 0x05 ∷ sha1

-- SHA-1, parameters 05 00
abbrev pub null_head : List ℕ
null_head = 0x30 ∷ 0x09 ∷ 0x06 ∷ 0x05 ∷ 0x2b ∷ 0x0e ∷ 0x03 ∷ 0x02 ∷ 0x1a ∷ 0x05 ∷ 0x00 ∷ []
