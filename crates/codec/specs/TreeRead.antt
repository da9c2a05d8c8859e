-- The reading of free elements, at most d deep: an element beyond is refused at its first octet,
-- whatever it is.
-- tree. The trees, their octets and their limits are in Tree; one with a wanted tag in TreeTagged.
-- The definitions stand here; the laws, and what is made of them, in proofs/TreeRead.
-- Assumes nothing.
use Rattle.std.specs.Prelude.{ℕ, zero, suc, ◌+◌, ◌^◌, ◌≤◌, ◌<◌, ◌≡◌, drop, Ok, Err}
use Rattle.std.proofs.Math.Bool.{cond}
use mathlib.Core.List.{List, ◌++◌}
use Rattle.std.proofs.Math.ListN.{length, take}
use Rattle.octets.specs.Octets.{Octets}
use Rattle.element.specs.Header.{header_of}
use Rattle.element.specs.Places.{HeaderRead}
use Rattle.codec.specs.Codec.{Got, got, bad}
use Rattle.codec.specs.Outcome.{renamed, attach}
use Rattle.codec.specs.Tagged.{inner}
use Rattle.codec.specs.Many.{all_dec}
use Rattle.codec.specs.Tree.{Tree, prim, node, constructed, tree_enc, Upto, run_of}

-- by the header: a run where the constructed bit is set, else octets that are not examined
abbrev pub node_of : (List ℕ → Got Tree) → List ℕ → HeaderRead → Got Tree
node_of d s (Ok h) =
    cond (constructed h.tag)
    (attach (inner h.start) (h.start + h.len) (renamed (λ l. node h.tag (run_of l)) (all_dec d (take h.len (drop h.start s)))))
    (got (prim h.tag (take h.len (drop h.start s))) (h.start + h.len))
node_of d s (Err p) = bad p.place

unfoldable pub node_dec : (List ℕ → Got Tree) → List ℕ → Got Tree
node_dec d s = node_of d s (header_of s)

unfoldable pub tree_dec : ℕ → List ℕ → Got Tree
tree_dec zero s = bad 0
tree_dec (suc d) s = node_dec (tree_dec d) s

-- what is carried from one depth to the next
pub record TreeLaws (d : ℕ) (dec : List ℕ → Got Tree) : Type 0 where
  pub sound : (s : List ℕ) (a : Tree) (n : ℕ) → Octets s → dec s ≡ got a n → Upto d a × (s ≡ tree_enc a ++ drop n s)
  pub complete : (a : Tree) (r : List ℕ) → Upto d a → length (tree_enc a) < 2 ^ 64 → dec (tree_enc a ++ r) ≡ got a (length (tree_enc a))
  pub within : (s : List ℕ) (p : ℕ) → dec s ≡ bad p → p ≤ length s
  pub inside : (s : List ℕ) (a : Tree) (n : ℕ) → dec s ≡ got a n → (0 < n) × (n ≤ length s)
