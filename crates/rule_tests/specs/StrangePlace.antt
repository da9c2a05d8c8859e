-- The OIDs that are understood, as crate read_critical is told them, and whether it finds a place.
-- response_known, entry_known, is_place. That this is strange_in of crate rules, of the reading, is in
-- StrangeInLaws.
-- Assumes nothing.
use Rattle.std.specs.Prelude.{ℕ, Bool, true, false, List, [], ◌∷◌, None, Some, Option}
use Rattle.rules.specs.Signer.{ocsp_oid}

-- understood in the response: nonce and extended revoke
abbrev pub response_known : List (List ℕ)
response_known = ocsp_oid 2 ∷ ocsp_oid 9 ∷ []

-- understood in an entry: archive cutoff, told twice
abbrev pub entry_known : List (List ℕ)
entry_known = ocsp_oid 6 ∷ ocsp_oid 6 ∷ []

-- some extension is critical and not understood
unfoldable pub is_place : Option ℕ → Bool
is_place None = false
is_place (Some p) = true
