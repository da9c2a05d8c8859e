-- Critical extensions that are not understood (document 01, refusals 9 and 12), and where the first of
-- them stands in a part that holds extensions.
-- is_strange, any_strange; strange_moved, strange_at, strange_read, strange_of; strange_here, by the octets of one
-- extension; HeldFrom, where to look for what an element holds. That the place is there exactly where some extension
-- is so is in StrangeLaws.
-- Assumes nothing.
use Rattle.std.specs.Prelude.{ℕ, ◌+◌, ◌-◌, ◌≤◌, ◌≡◌, Bool, true, false, cond, List, [], ◌∷◌, Option, Some, None, length, drop}
use Rattle.codec.specs.Codec.{Read, read, broke}
use Rattle.codec.specs.Keys.{new_to}
use Rattle.codec.specs.Sequence.{only_dec}
use Rattle.codec.specs.Starts.{starts_with}
use Rattle.codec.specs.Tagged.{inner, tagged_dec}
use Rattle.layout.specs.Reading.{Extension}
use Rattle.layout.proofs.Format.{extension_after, extension_list, extensions}

-- critical, and its OID is none of the known ones
unfoldable pub is_strange : List (List ℕ) → Extension → Bool
is_strange known e = cond e.critical (new_to known e.oid) false

-- some extension is so
unfoldable pub any_strange : List (List ℕ) → List Extension → Bool
any_strange known [] = false
any_strange known (e ∷ l) = cond (is_strange known e) true (any_strange known l)

-- the same n octets further on
unfoldable pub strange_moved : ℕ → Option ℕ → Option ℕ
strange_moved n None = None
strange_moved n (Some p) = Some (n + p)

-- the place of the first that is so: the sum of the forms before it
unfoldable pub strange_at : List (List ℕ) → List Extension → Option ℕ
strange_at known [] = None
strange_at known (e ∷ l) = cond (is_strange known e) (Some 0) (strange_moved (length ((extension_after []).enc e)) (strange_at known l))

-- its place in a part that ends with the list, after the headers; none in a part that is not read
unfoldable pub strange_read : List (List ℕ) → List ℕ → Read (List Extension) → Option ℕ
strange_read known p (read l) = strange_moved (length p - length (extension_list.enc l)) (strange_at known l)
strange_read known p (broke q) = None

-- its place in a part that is the extensions and nothing more; none in any other, as one of no octets
unfoldable pub strange_of : List (List ℕ) → List ℕ → Option ℕ
strange_of known p = strange_read known p (only_dec extensions.dec p)

-- the same of one extension, by its OID and the octets after it
unfoldable pub strange_here : List (List ℕ) → List ℕ → List ℕ → Bool
strange_here known oid rest = cond (starts_with 0x01 rest) (new_to known oid) false

-- n is where to look for what an element with tag t holds that fills p from m on: the same is found from n
-- on, by every reading that finds nothing in no octets. If there is no such element, n may be the end
pub record HeldFrom (p : List ℕ) (m t n : ℕ) : Type 0 where
  pub le : n ≤ length p
  pub same : (known : List (List ℕ)) (d : List ℕ → Read (List Extension)) → strange_read known p (d []) ≡ None
      → strange_read known p (only_dec (tagged_dec inner t d) (drop m p)) ≡ strange_read known p (d (drop n p))
