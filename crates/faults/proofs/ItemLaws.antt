-- An element's reading finds the first fault, given that the readings of its parts do.
-- leaf_finds, around_finds, either_finds, free_finds, free_with_finds; called_finds.
-- Rows are in RowLaws.
-- Assumes nothing.
use Rattle.std.specs.Prelude.{ℕ, zero, suc, ◌+◌, ◌≡◌, Bool, cond, eqb, take, drop, Ok, Err}
use Rattle.std.proofs.Common.{arith, sym, ap, inl, inr}
use Rattle.std.proofs.Math.Path.{refl}
use Rattle.std.proofs.Math.Bool.{true, false}
use mathlib.Core.List.{List, [], ◌∷◌}
use Rattle.std.proofs.Math.Option.{Option}
use Rattle.element.specs.Header.{header_of}
use Rattle.element.specs.declared.Header.{Header}
use Rattle.element.specs.Places.{HeaderRead, misfit}
use Rattle.element.specs.PlacesLaws.{same_place}
use Rattle.codec.specs.Codec.{Read, read, broke, Got, got, bad}
use Rattle.codec.specs.Outcome.{renamed, called, attach}
use Rattle.codec.specs.Contents.{filled_dec}
use Rattle.codec.specs.Tagged.{inner, own, tagged_of, tagged_dec}
use Rattle.codec.specs.Mapped.{called_dec}
use Rattle.codec.specs.Starts.{starts_with}
use Rattle.codec.specs.Choice.{choice_of, choice_dec}
use Rattle.codec.specs.Many.{all_dec}
use Rattle.codec.specs.Tree.{Tree, prim, node, constructed, run_of}
use Rattle.codec.specs.TreeRead.{node_of, node_dec, tree_dec}
use Rattle.codec.specs.TreeTagged.{wanted_of, tree_tagged_dec}
use Rattle.codec.specs.Views.{fit_of}
use Rattle.codec.proofs.ViewLaws.{fit_renamed}
use Rattle.codec.specs.Steps.{Fit}
use Rattle.faults.specs.Faults.{shift, unless, tagged_in, leaf_faults, around_faults, free_in, free_faults, free_with_faults, any_faults}
use Rattle.faults.specs.Order.{leftmost}
use Rattle.faults.specs.Finds.{Finds, HeadFinds, WholeFinds}
use Rattle.faults.proofs.RowLaws.{any_finds}

-- what an element's content gives the element, against the faults there
abbrev placed : (ℕ → ℕ) → Fit → Fit
placed k (Ok x) = Ok x
placed k (Err p) = Err (misfit (k p.place))

first_inner : (h : ℕ) (l : List ℕ) → leftmost (shift h l) ≡ placed (inner h) (leftmost l)
unfolding leftmost
first_inner h [] = refl
first_inner h (p ∷ l) = refl

attached : {A : Type 0} (k : ℕ → ℕ) (h : Header) (o : Read A) (l : List ℕ) → leftmost l ≡ placed k (fit_of o)
    → Finds (attach k (h.start + h.len) o) (Ok h) l
unfolding leftmost fit_of
attached k h (read a) [] e = (a, h, refl, refl)
attached k h (read a) (p ∷ l) e = let z : ◌≡◌ {A = ℕ} 0 1 = cc in absurd (omega arith)
attached k h (broke q) [] e = let z : ◌≡◌ {A = ℕ} 0 1 = cc in absurd (omega arith)
attached k h (broke q) (p ∷ l) e = ap bad (sym (same_place e))

-- ── a tag around a content or a whole list ──
module _ {A : Type 0} (at : ℕ → ℕ → ℕ) (u : ℕ) (d : List ℕ → Read A) where
  tagged_finds : (f : ℕ → List ℕ → List ℕ) → ((h : ℕ) (c : List ℕ) → leftmost (f h c) ≡ placed (at h) (fit_of (d c)))
      → (s : List ℕ) → Finds (tagged_dec at u d s) (header_of s) (tagged_in u f s (header_of s))
  unfolding tagged_dec
  tagged_finds f same s = go (header_of s)
    where
      on : (h : Header) (c : List ℕ) (b : Bool)
          → Finds (cond b (attach (at h.start) (h.start + h.len) (d c)) (bad 0)) (Ok h) (cond b (f h.start c) (0 ∷ []))
      on h c true = attached (at h.start) h (d c) (f h.start c) (same h.start c)
      on h c false = refl

      go : (x : HeaderRead) → Finds (tagged_of at u d s x) x (tagged_in u f s x)
      go (Err p) = refl
      go (Ok h) = on h (take h.len (drop h.start s)) (eqb h.tag u)

pub leaf_finds : {A : Type 0} (t : ℕ) (d : List ℕ → Option A) (test : List ℕ → Bool) → WholeFinds (filled_dec d) (λ c. unless (test c))
    → HeadFinds (tagged_dec own t (filled_dec d)) (leaf_faults t test)
unfolding leaf_faults leftmost
leaf_finds t d test w s = tagged_finds own t (filled_dec d) (λ h c. unless (test c)) (λ h c. rw (w c) (go (test c))) s
  where
    go : (b : Bool) → leftmost (unless b) ≡ placed (λ p. 0) (leftmost (unless b))
    go true = refl
    go false = refl

pub around_finds : {A : Type 0} (t : ℕ) (d : List ℕ → Read A) (g : List ℕ → List ℕ) → WholeFinds d g
    → HeadFinds (tagged_dec inner t d) (around_faults t g)
unfolding around_faults
around_finds t d g w s = tagged_finds inner t d (λ h c. shift h (g c)) (λ h c. rw (w c) (first_inner h (g c))) s

-- ── other names, and one of two ──
renamed_finds : {A B : Type 0} (k : A → B) (g : Got A) (x : HeaderRead) (l : List ℕ) → Finds g x l → Finds (called k g) x l
renamed_finds k g x [] v = (k v.0, v.1, v.2, ap (called k) v.3)
renamed_finds k g x (p ∷ l) v = ap (called k) v

pub called_finds : {A B : Type 0} (k : A → B) (d : List ℕ → Got A) (f : List ℕ → List ℕ) → HeadFinds d f → HeadFinds (called_dec k d) f
unfolding called_dec
called_finds k d f heads s = renamed_finds k (d s) (header_of s) (f s) (heads s)

pub either_finds : {A B : Type 0} (t : ℕ) (d : List ℕ → Got A) (f : List ℕ → List ℕ) → HeadFinds d f
    → (d' : List ℕ → Got B) (f' : List ℕ → List ℕ) → HeadFinds d' f'
    → HeadFinds (choice_dec t d d') (λ s. cond (starts_with t s) (f s) (f' s))
unfolding choice_dec choice_of
either_finds t d f heads d' f' heads' s = go (starts_with t s)
  where
    go : (b : Bool) → Finds (choice_of b d d' s) (header_of s) (cond b (f s) (f' s))
    go true = renamed_finds inl (d s) (header_of s) (f s) (heads s)
    go false = renamed_finds inr (d' s) (header_of s) (f' s) (heads' s)

-- ── free elements ──
module _ (d : List ℕ → Got Tree) (f : List ℕ → List ℕ) (heads : HeadFinds d f) where
  -- what is held is read as any number of elements
  held : (t h : ℕ) (c : List ℕ)
      → leftmost (shift h (any_faults f c)) ≡ placed (inner h) (fit_of (renamed (λ l. node t (run_of l)) (all_dec d c)))
  held t h c =
      rw (fit_renamed (λ l. node t (run_of l)) (all_dec d c), any_finds d f heads c)
      (first_inner h (any_faults f c))

  node_finds : HeadFinds (node_dec d) (λ s. free_in f s (header_of s))
  unfolding node_dec
  node_finds s = go (header_of s)
    where
      on : (h : Header) (c : List ℕ) (b : Bool)
          → Finds (cond b (attach (inner h.start) (h.start + h.len) (renamed (λ l. node h.tag (run_of l)) (all_dec d c))) (got (prim h.tag c) (h.start + h.len))) (Ok h)
          (cond b (shift h.start (any_faults f c)) [])
      on h c true = attached (inner h.start) h (renamed (λ l. node h.tag (run_of l)) (all_dec d c)) (shift h.start (any_faults f c)) (held h.tag h.start c)
      on h c false = (prim h.tag c, h, refl, refl)

      go : (x : HeaderRead) → Finds (node_of d s x) x (free_in f s x)
      go (Err p) = refl
      go (Ok h) = on h (take h.len (drop h.start s)) (constructed h.tag)

pub free_finds : (d : ℕ) → HeadFinds (tree_dec d) (free_faults d)
unfolding tree_dec free_faults
free_finds zero s = refl
free_finds (suc d) s = node_finds (tree_dec d) (free_faults d) (free_finds d) s

pub free_with_finds : (u d : ℕ) → HeadFinds (tree_tagged_dec u d) (free_with_faults u d)
unfolding tree_tagged_dec free_with_faults
free_with_finds u d s = go (header_of s) (free_finds d s)
  where
    on : (x : HeaderRead) → Finds (tree_dec d s) x (free_faults d s) → (b : Bool)
        → Finds (cond b (tree_dec d s) (bad 0)) x (cond b (free_faults d s) (0 ∷ []))
    on x v true = v
    on x v false = refl

    go : (x : HeaderRead) → Finds (tree_dec d s) x (free_faults d s) → Finds (wanted_of u (tree_dec d) s x) x (tagged_in u (λ h c. free_faults d s) s x)
    go (Err p) v = refl
    go (Ok h) v = on (Ok h) v (eqb h.tag u)
