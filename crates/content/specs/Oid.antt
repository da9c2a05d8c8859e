-- The content of an OID (document 01, "Elements").
-- oid_from, oid_ok. Their laws are in OidLaws.
-- Assumes nothing.
use Rattle.std.specs.Prelude.{ℕ, List, [], ◌∷◌, Bool, true, false, cond, eqb, ltb}

-- the rest of an OID, where a part begins (true) or goes on (false): a part ends at an octet below 80 hex
unfoldable pub oid_from : Bool → List ℕ → Bool
oid_from begins [] = begins
oid_from true (x ∷ s) = cond (eqb x 128) false (oid_from (ltb x 128) s)
oid_from false (x ∷ s) = oid_from (ltb x 128) s

-- an OID has content; each part's first octet is not 80 hex, and the last octet is below 80 hex
unfoldable pub oid_ok : List ℕ → Bool
oid_ok [] = false
oid_ok (x ∷ s) = oid_from true (x ∷ s)
