-- The element at the head of a list, cut into its parts: what a header that was found says of its
-- content, and that an element's octets are found and cut so. What is small enough is made of parts
-- that are.
-- Part, part_of, form_found, form_content; small_left, small_right, small_content.
-- The definitions stand here; the laws, and what is made of them, in proofs/PartLaws.
-- Assumes nothing.
use Rattle.std.specs.Prelude.{ℕ, ◌^◌, ◌<◌, ◌≡◌, true, List, ◌++◌, length, drop}
use Rattle.octets.specs.Octets.{Octets}
use Rattle.element.specs.Tag.{tag_ok}
use Rattle.element.specs.Form.{form_of}

-- the list is an element with this tag and content, and what follows it
pub record Part (s : List ℕ) (t : ℕ) (c : List ℕ) (n : ℕ) : Type 0 where
  pub tag : tag_ok t ≡ true
  pub octet : t < 256
  pub small : length c < 2 ^ 64
  pub octets : Octets c
  pub same : s ≡ form_of t c ++ drop n s
