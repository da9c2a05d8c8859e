-- Which entry is for a card, by the fields of its CertID (document 01, "Response layout").
-- is_plain, is_sha1, matches, is_for.
-- Assumes nothing.
use Rattle.std.specs.Prelude.{ℕ, Bool, true, false, ◌&&◌, List, [], eqb}
use Rattle.std.proofs.Math.Option.{Option, none, some}
use Rattle.octets.specs.Number.{value_of}
use Rattle.octets.specs.Same.{same_of}
use Rattle.codec.specs.Tree.{Tree, prim, node}
use Rattle.layout.specs.Reading.{Algorithm, CertId}
use Rattle.layout.specs.Sha1.{sha1}
use Rattle.answer.specs.Card.{serial_in}
use Rattle.answer.specs.declared.Card.{Card}

-- parameters absent or 05 00
abbrev pub is_plain : Option Tree → Bool
is_plain none = true
is_plain (some (prim t c)) = eqb t 5 && same_of c []
is_plain (some (node t r)) = false

-- SHA-1, parameters absent or 05 00
abbrev pub is_sha1 : Algorithm → Bool
is_sha1 a = same_of a.oid sha1 && is_plain a.parameters

-- a CertID has a known algorithm, both hashes and the serial; the hashes may have any length
unfoldable pub matches : (Algorithm → Bool) → List ℕ → List ℕ → ℕ → CertId → Bool
matches known name key serial c =
    known c.algorithm && same_of c.name_hash name && same_of c.key_hash key && eqb c.serial serial

-- a CertID is for the card if its algorithm is SHA-1, both hashes and the serial are equal
abbrev pub is_for : Card → CertId → Bool
is_for card c = matches is_sha1 card.name card.key (value_of (serial_in card)) c
