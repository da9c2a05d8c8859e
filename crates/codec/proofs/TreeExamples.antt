-- Small trees, computed: one that is written and read, and one that is too deep.
-- Assumes nothing.
use Rattle.std.specs.Prelude.{◌≡◌, refl, [], ◌∷◌}
use Rattle.element.specs.Tag.{tag_ok}
use Rattle.element.specs.Length.{length_form}
use Rattle.element.specs.Form.{form_of}
use Rattle.element.specs.Header.{header_of, length_at, inside_of}
use Rattle.codec.specs.Codec.{got, bad}
use Rattle.codec.specs.Many.{many_dec, all_dec}
use Rattle.codec.specs.Tree.{Tree, prim, node, stop, more, depth, tree_enc}
use Rattle.codec.specs.TreeRead.{node_dec, tree_dec}
use Rattle.codec.proofs.TreeRead.{tree}
use Rattle.codec.specs.TreeTagged.{tree_tagged_dec}
use Rattle.codec.proofs.TreeTagged.{tree_tagged}

-- a sequence of a primitive element and an empty sequence
abbrev small : Tree
small = node 0x30 (more (prim 4 (7 ∷ [])) (more (node 0x30 stop) stop))

small_deep : depth small ≡ 2
unfolding depth
small_deep = refl

small_written : tree_enc small ≡ 0x30 ∷ 5 ∷ 4 ∷ 1 ∷ 7 ∷ 0x30 ∷ 0 ∷ []
unfolding tree_enc form_of length_form
small_written = refl

small_read : (tree_tagged 0x30 2).dec (0x30 ∷ 5 ∷ 4 ∷ 1 ∷ 7 ∷ 0x30 ∷ 0 ∷ []) ≡ got small 7
unfolding tree_tagged_dec tree_dec node_dec header_of tag_ok length_at inside_of all_dec many_dec
small_read = refl

-- at most one deep: the first element inside is refused at its first octet, a header of two after
too_deep : (tree 1).dec (0x30 ∷ 5 ∷ 4 ∷ 1 ∷ 7 ∷ 0x30 ∷ 0 ∷ []) ≡ bad 2
unfolding tree_dec node_dec header_of tag_ok length_at inside_of all_dec many_dec
too_deep = refl
