-- Free elements, kept as trees: an element is primitive or holds a run; a run is nothing, or an
-- element followed by a run. Their depth, their octets and their limits.
-- Tree, Run, depth, tree_enc, TreeOk, Upto. Their reading is in TreeRead.
-- The laws stand here, and what is made of them; the definitions in specs/Tree.
-- Assumes nothing.
use Rattle.std.specs.Prelude.{ℕ, ◌^◌, ◌≤◌, ◌<◌, ◌≡◌, refl, Bool, true, false, cond, List, [], ◌∷◌, ◌++◌, leb, length}
use Rattle.std.proofs.Common.{arith, ap, leb-true, leb-false}
use Rattle.octets.specs.Octets.{Octets}
use Rattle.octets.specs.OctetsLaws.{octets_append}
use Rattle.element.specs.FormLaws.{form_octets}
use Rattle.codec.proofs.PartLaws.{small_left, small_right, small_content}
use Rattle.codec.specs.Many.{forms, All}
use Rattle.codec.specs.Tree.{Run, RunOk, Tree, TreeOk, Upto, deepest, depth, larger, list_of, more, node, prim, run_enc, run_of, stop, tree_enc}

-- a tree's octets are octets
mutual
  unfolding TreeOk tree_enc

  pub tree_octets : (a : Tree) → TreeOk a → length (tree_enc a) < 2 ^ 64 → Octets (tree_enc a)
  tree_octets (prim t c) h z = form_octets t c h.1 (small_content t c z) h.3
  tree_octets (node t r) h z =
      let y = small_content t (run_enc r) z in
      form_octets t (run_enc r) h.1 y (run_octets r h.3 y)

  pub run_octets : (r : Run) → RunOk r → length (run_enc r) < 2 ^ 64 → Octets (run_enc r)
  run_octets stop h z = tt
  run_octets (more t r) h z =
      let x = tree_enc t in
      let y = run_enc r in
      octets_append x y (tree_octets t h.0 (small_left x y z)) (run_octets r h.1 (small_right x y z))

pub run_list : (r : Run) → run_of (list_of r) ≡ r
run_list stop = refl
run_list (more a r) = ap (more a) (run_list r)

pub run_forms : (l : List Tree) → run_enc (run_of l) ≡ forms tree_enc l
unfolding run_enc
run_forms [] = refl
run_forms (a ∷ l) = ap (λ (r : List ℕ). tree_enc a ++ r) (run_forms l)

-- the larger of two, against a limit
larger_left : (a b d : ℕ) → larger a b ≤ d → a ≤ d
larger_left a b d = go (leb a b) refl
  where
    go : (x : Bool) → leb a b ≡ x → cond x b a ≤ d → a ≤ d
    go true t h = let u = leb-true a b t in omega arith
    go false t h = h

larger_right : (a b d : ℕ) → larger a b ≤ d → b ≤ d
larger_right a b d = go (leb a b) refl
  where
    go : (x : Bool) → leb a b ≡ x → cond x b a ≤ d → b ≤ d
    go true t h = h
    go false t h = let u = leb-false a b t in omega arith

larger_both : (a b d : ℕ) → a ≤ d → b ≤ d → larger a b ≤ d
larger_both a b d p q = go (leb a b)
  where
    go : (x : Bool) → cond x b a ≤ d
    go true = q
    go false = p

-- the trees of a run are within the limits and a depth exactly where the run is
pub run_ok : (d : ℕ) (l : List Tree) → All (Upto d) l → RunOk (run_of l) × (deepest (run_of l) ≤ d)
unfolding Upto RunOk deepest
run_ok d [] h = (tt, omega arith)
run_ok d (a ∷ l) h =
    let i = run_ok d l h.1 in
    ((h.0.0, i.0), larger_both (depth a) (deepest (run_of l)) d h.0.1 i.1)

pub ok_run : (d : ℕ) (r : Run) → RunOk r → deepest r ≤ d → All (Upto d) (list_of r)
unfolding Upto RunOk deepest
ok_run d stop h le = tt
ok_run d (more a r) h le =
    ((h.0, larger_left (depth a) (deepest r) d le), ok_run d r h.1 (larger_right (depth a) (deepest r) d le))

-- an element counts itself
pub depth_some : (a : Tree) → 1 ≤ depth a
unfolding depth
depth_some (prim t c) = omega arith
depth_some (node t r) = omega arith
