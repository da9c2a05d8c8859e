-- Keys that are octets, and where a key stands: a content that is none of those before it, and the
-- element, sequence and names around it.
-- new_to, new_content; keyed_content, keyed_primitive, keyed_tagged, keyed_field, keyed_mapped_ok,
-- keyed_mapped.
-- The definitions stand here; the laws, and what is made of them, in proofs/Keys.
-- Assumes nothing.
use Rattle.std.specs.Prelude.{ℕ, Bool, List, [], ◌∷◌}
use Rattle.std.proofs.Math.Bool.{true, false, cond}
use Rattle.octets.specs.Same.{same_of}

-- whether octets are none of those
unfoldable pub new_to : List (List ℕ) → List ℕ → Bool
new_to [] c = true
new_to (x ∷ seen) c = cond (same_of x c) false (new_to seen c)

-- octets that pass a test and are none of those
unfoldable pub new_test : (List ℕ → Bool) → List (List ℕ) → List ℕ → Bool
new_test test seen c = cond (test c) (new_to seen c) false
