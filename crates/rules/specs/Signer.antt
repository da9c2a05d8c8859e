-- Who the signer is, and which critical extensions are understood, by the reading's fields.
-- is_signer; ocsp_oid, in_response, in_entry, strange, strange_in.
-- Assumes nothing.
use Rattle.std.specs.Prelude.{ℕ, Bool, true, false, cond, ◌&&◌, not, List, [], ◌∷◌}
use Rattle.std.proofs.Math.Option.{Option, none, some}
use Rattle.octets.specs.Same.{same_of}
use Rattle.codec.specs.Tree.{tree_enc}
use Rattle.layout.specs.Reading.{Extension, Responder, by_name, by_key}

-- responder ids compare by key hash, or by the whole Name octet by octet
unfoldable pub is_signer : List ℕ → List ℕ → Responder → Bool
is_signer key name (by_key k) = same_of k key
is_signer key name (by_name n) = same_of (tree_enc n) name

-- 1.3.6.1.5.5.7.48.1 and one number more
abbrev pub ocsp_oid : ℕ → List ℕ
ocsp_oid n = 0x2b ∷ 0x06 ∷ 0x01 ∷ 0x05 ∷ 0x05 ∷ 0x07 ∷ 0x30 ∷ 0x01 ∷ n ∷ []

-- understood in the response: nonce and extended revoke
abbrev pub in_response : List ℕ → Bool
in_response o = cond (same_of o (ocsp_oid 2)) true (same_of o (ocsp_oid 9))

-- understood in an entry: archive cutoff
abbrev pub in_entry : List ℕ → Bool
in_entry o = same_of o (ocsp_oid 6)

-- a critical extension is not understood
unfoldable pub strange : (List ℕ → Bool) → List Extension → Bool
strange known [] = false
strange known (e ∷ l) = cond (e.critical && not (known e.oid)) true (strange known l)

abbrev pub strange_in : (List ℕ → Bool) → Option (List Extension) → Bool
strange_in known none = false
strange_in known (some l) = strange known l
