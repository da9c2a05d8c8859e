-- The OIDs of a list of extensions, by the headers alone: what the code looks at again before an
-- extension whose OID has to be new.
-- name; named_in, name_of, name_at; on_name, oids_of. Where a name is found in no extension, the rest is not looked
-- at; that it is found in every one that is read is in NamedLaws.
-- Assumes nothing.
use Rattle.std.specs.Prelude.{ℕ, zero, suc, ◌+◌, List, ◌∷◌, Option, Some, None, Ok, Err, take, drop}
use Rattle.element.specs.Places.{Spot}
use Rattle.element.specs.Header.{header_of}
use Rattle.read_content.specs.Spots.{expected}
use Rattle.read_oids.specs.declared.Name.{Name}

-- an OID that starts at b and is l octets long, in an extension of n octets
abbrev pub name : ℕ → ℕ → ℕ → Name
name b l n = record { start = b; len = l; next = n }

-- the OID of an extension whose content starts at b and ends at e, by where it is in the content
unfoldable pub named_in : ℕ → ℕ → Spot → Option Name
named_in b e (Ok v) = Some (name (b + v.start) v.len e)
named_in b e (Err p) = None

-- the OID of the extension at the head of a list, by where its content is
unfoldable pub name_of : List ℕ → Spot → Option Name
name_of s (Ok v) = named_in v.start (v.start + v.len) (expected 0x06 (header_of (take v.len (drop v.start s))))
name_of s (Err p) = None

-- where the OID of the extension at the head of a list is, and how many octets the extension takes
unfoldable pub name_at : List ℕ → Option Name
name_at s = name_of s (expected 0x30 (header_of s))

-- what is made of an OID, or of none
abbrev pub on_name : {A : Type 0} → Option Name → (ℕ → ℕ → ℕ → A) → A → A
on_name (Some v) f x = f v.start v.len v.next
on_name None f x = x

-- those seen and the OIDs of the first k extensions of a list, the last first
unfoldable pub oids_of : ℕ → List (List ℕ) → List ℕ → List (List ℕ)
oids_of zero seen s = seen
oids_of (suc k) seen s = on_name (name_at s) (λ u l n. oids_of k (take l (drop u s) ∷ seen) (drop n s)) seen
