-- Free elements, kept as trees: an element is primitive or holds a run; a run is nothing, or an
-- element followed by a run. Their depth, their octets and their limits.
-- Tree, Run, depth, tree_enc, TreeOk, Upto. Their reading is in TreeRead.
-- The definitions stand here; the laws, and what is made of them, in proofs/Tree.
-- Assumes nothing.
use Rattle.std.specs.Prelude.{ℕ, suc, ◌≤◌, ◌<◌, ◌≡◌, Bool, true, false, cond, List, [], ◌∷◌, ◌++◌, leb}
use Rattle.octets.specs.Octets.{Octets}
use Rattle.element.specs.Tag.{tag_of, tag_ok}
use Rattle.element.specs.Form.{form_of}

mutual
  -- a tag, and octets or a run
  pub data Tree : Type 0 where
    prim : ℕ → List ℕ → Tree
    node : ℕ → Run → Tree

  pub data Run : Type 0 where
    stop : Run
    more : Tree → Run → Run

-- the tag of the element itself
abbrev pub tree_tag : Tree → ℕ
tree_tag (prim t c) = t
tree_tag (node t r) = t

-- the bit of a tag that says that the element holds a run
abbrev pub constructed : ℕ → Bool
constructed t = (tag_of t).constructed

abbrev pub larger : ℕ → ℕ → ℕ
larger a b = cond (leb a b) b a

-- how many lie one inside the other, the element itself counted as the first
unfoldable mutual
  pub depth : Tree → ℕ
  depth (prim t c) = 1
  depth (node t r) = suc (deepest r)

  pub deepest : Run → ℕ
  deepest stop = 0
  deepest (more t r) = larger (depth t) (deepest r)

-- the octets
unfoldable mutual
  pub tree_enc : Tree → List ℕ
  tree_enc (prim t c) = form_of t c
  tree_enc (node t r) = form_of t (run_enc r)

  pub run_enc : Run → List ℕ
  run_enc stop = []
  run_enc (more t r) = tree_enc t ++ run_enc r

-- the limits: the tag fits and is an octet, its constructed bit is set exactly where the element
-- holds a run, and a primitive content is octets
unfoldable mutual
  pub TreeOk : Tree → Type 0
  TreeOk (prim t c) = (tag_ok t ≡ true) × (t < 256) × (constructed t ≡ false) × Octets c
  TreeOk (node t r) = (tag_ok t ≡ true) × (t < 256) × (constructed t ≡ true) × RunOk r

  pub RunOk : Run → Type 0
  RunOk stop = Unit {0}
  RunOk (more t r) = TreeOk t × RunOk r

-- within the limits, and at most d deep
unfoldable pub Upto : ℕ → Tree → Type 0
Upto d a = TreeOk a × (depth a ≤ d)

-- a run is a list of trees
abbrev pub run_of : List Tree → Run
run_of [] = stop
run_of (a ∷ l) = more a (run_of l)

abbrev pub list_of : Run → List Tree
list_of stop = []
list_of (more a r) = a ∷ list_of r
