-- A free element whose own tag is wanted. The header counts first, then the tag, then what the
-- element holds: a wrong tag refuses the element's own place, 0.
-- tree_tagged. Any free element is in TreeRead.
-- The definitions stand here; the laws, and what is made of them, in proofs/TreeTagged.
-- Assumes nothing.
use Rattle.std.specs.Prelude.{ℕ, ◌≡◌, List, eqb, Ok, Err}
use Rattle.std.proofs.Math.Bool.{cond}
use Rattle.element.specs.Header.{header_of}
use Rattle.element.specs.Places.{HeaderRead}
use Rattle.codec.specs.Codec.{Got, bad}
use Rattle.codec.specs.Tree.{Tree, tree_tag, Upto}
use Rattle.codec.specs.TreeRead.{tree_dec}

-- by the header: the tag is the one that is wanted
abbrev pub wanted_of : ℕ → (List ℕ → Got Tree) → List ℕ → HeaderRead → Got Tree
wanted_of t d s (Ok h) = cond (eqb h.tag t) (d s) (bad 0)
wanted_of t d s (Err p) = bad p.place

unfoldable pub tree_tagged_dec : ℕ → ℕ → List ℕ → Got Tree
tree_tagged_dec t d s = wanted_of t (tree_dec d) s (header_of s)

-- the tag is the one that is wanted; within the limits, and at most d deep
abbrev pub TreeTaggedOk : ℕ → ℕ → Tree → Type 0
TreeTaggedOk t d a = (tree_tag a ≡ t) × Upto d a
