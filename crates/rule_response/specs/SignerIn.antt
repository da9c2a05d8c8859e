-- Who the signer is, by the octets of the responder id, as the code looks at them.
-- key_in, signer_at, signs_in. That it says what is_signer of crate rules says of the
-- reading is in SignerInLaws.
-- Assumes nothing.
use Rattle.std.specs.Prelude.{ℕ, Bool, false, cond, List, ltb, length, take, drop, Ok, Err}
use Rattle.octets.specs.Same.{same_of}
use Rattle.element.specs.Header.{header_of}
use Rattle.element.specs.Places.{Spot}
use Rattle.read_content.specs.Spots.{expected}

-- a key's hash stands after A2 16 04 14
unfoldable pub key_in : List ℕ → List ℕ → Bool
key_in key s = cond (ltb (length s) 4) false (same_of (drop 4 s) key)

-- a Name is what an A1 holds
unfoldable pub signer_at : List ℕ → List ℕ → List ℕ → Spot → Bool
signer_at key name s (Ok v) = same_of (take v.len (drop v.start s)) name
signer_at key name s (Err p) = key_in key s

-- responder ids compare by key hash, or by the whole Name octet by octet
unfoldable pub signs_in : List ℕ → List ℕ → List ℕ → Bool
signs_in key name s = signer_at key name s (expected 0xa1 (header_of s))
