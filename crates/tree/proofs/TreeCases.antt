-- The cases of the readers of free elements: what each return has learned of the depth, the header,
-- the run and the tag; and that the octets left fall from an element to its run. They are counted
-- twice, and once more for a run, since a run's first element may be all of it.
-- Assumes nothing.
use Prim.Native.Nat.{ℕ, zero, suc, ◌+◌, ◌-◌, ◌*◌, ◌^◌, ◌≤◌, ◌<◌}
use native.Mathlib.Omega.{arith}
use mathlib.Core.Path.{◌≡◌, refl, sym, ap, ◌∙◌}
use mathlib.Core.Bool.{Bool, true, false, cond}
use mathlib.Core.List.{List}
use lib.Dec.{eqb}
use lib.ListN.{length, get_or, take, drop, length-take, length-drop}
use borrow.Author.Tests.{eq-eqb, ne_eqb}
use Rattle.std.specs.Prelude.{Ok, Err}
use mir.Syntax.{w64}
use mir.Val.{Fits}
use Rattle.element.specs.Tag.{tag_of}
use Rattle.element.specs.Header.{header_of}
use Rattle.element.specs.HeaderLaws.{header_inside, header_tag}
use Rattle.element.specs.declared.Tag.{Tag}
use Rattle.element.specs.declared.Header.{Header}
use Rattle.element.specs.declared.Misfit.{Misfit}
use Rattle.element.specs.Places.{HeaderRead, misfit}
use Rattle.codec.specs.Codec.{bad}
use Rattle.codec.proofs.Any.{all}
use Rattle.codec.specs.Tree.{constructed}
use Rattle.codec.specs.TreeRead.{tree_dec, node_dec}
use Rattle.codec.proofs.TreeRead.{tree}
use Rattle.codec.specs.TreeTagged.{wanted_of, tree_tagged_dec}
use Rattle.codec.specs.Many.{all_dec}
use Rattle.codec.specs.Views.{step_of, fit_of}
use Rattle.codec.proofs.ViewLaws.{fit_fits, fit_breaks}
use Rattle.codec.specs.Steps.{Step, Fit}
use Rattle.tree.specs.Light.{unwanted_of}

-- by the depth
pub too_deep : (d : ℕ) (s : List ℕ) → d ≡ 0 → Err (misfit 0) ≡ step_of (tree_dec d s)
unfolding tree_dec step_of
too_deep zero s z = refl
too_deep (suc d) s z = absurd (omega arith)

one_less : (d : ℕ) (s : List ℕ) → (d ≡ 0 → ⊥) → tree_dec d s ≡ node_dec (tree_dec (d - 1)) s
unfolding tree_dec
one_less zero s z = absurd (z refl)
one_less (suc d) s z = let e : d ≡ suc d - 1 = omega arith in ap (λ (k : ℕ). node_dec (tree_dec k) s) e

-- a run is shorter than the element that holds it, and an element no longer than its run
pub run_falls : (s : List ℕ) (r : HeaderRead) → r ≡ header_of s → (h : Header) → r ≡ Ok h
    → (m : ℕ) → length s * 2 ≡ m
    → length (take (h.start + h.len - h.start) (drop h.start s)) * 2 + 1 < m
run_falls s r q h f m e =
    let i = header_inside s h.tag h.start h.len (sym q ∙ f) in
    simp (length-take, length-drop) (omega arith)

pub tree_falls : (s : List ℕ) (at m : ℕ) → length s * 2 + 1 ≡ m → length (take (length s - at) (drop at s)) * 2 < m
tree_falls s at m e = simp (length-take, length-drop) (omega arith)

-- by the header
module _ (s : List ℕ) (r : HeaderRead) (q : r ≡ header_of s) where
  pub found_end : (h : Header) → r ≡ Ok h → h.start + h.len ≤ length s
  found_end h f = (header_inside s h.tag h.start h.len (sym q ∙ f)).1

  pub found_sum : (h : Header) → r ≡ Ok h → length s < 2 ^ 64 → Fits w64 (h.start + h.len)
  found_sum h f z = record { fits = omega (arith, found_end h f) }

  -- the answer for a content, as the code lends it
  module _ (h : Header) (f : r ≡ Ok h) (d : ℕ) (x : Fit)
      (c : x ≡ fit_of (all_dec (tree_dec d) (take (h.start + h.len - h.start) (drop h.start s)))) where
    run_is : fit_of (all_dec (tree_dec d) (take h.len (drop h.start s))) ≡ x
    run_is = let e : h.start + h.len - h.start ≡ h.len = omega arith in rw e at (sym c)

    pub run_place : (p : Misfit) → x ≡ Err p → length s < 2 ^ 64 → Fits w64 (h.start + p.place)
    run_place p y lt =
        let v = (fit_breaks (all (tree d)) (take h.len (drop h.start s)) p.place (run_is ∙ y)).1 in
        let i = found_end h f in
        record { fits = omega (arith, simp (length-take, length-drop) at v) }

  module _ (d : ℕ) (z : d ≡ 0 → ⊥) where
    pub refused : (p : Misfit) → r ≡ Err p → Err p ≡ step_of (tree_dec d s)
    unfolding node_dec step_of
    refused p f = rw (one_less d s z, ← q, f)

    module _ (h : Header) (f : r ≡ Ok h) (k : Tag) (o : k ≡ tag_of h.tag) where
      bit : constructed h.tag ≡ k.constructed
      bit = ap (λ (x : Tag). x.constructed) (sym o)

      pub primitive : k.constructed ≡ false → Ok (h.start + h.len) ≡ step_of (tree_dec d s)
      unfolding node_dec step_of
      primitive b = rw (one_less d s z, ← q, f, bit, b)

      module _ (b : k.constructed ≡ true) (x : Fit)
          (c : x ≡ fit_of (all_dec (tree_dec (d - 1)) (take (h.start + h.len - h.start) (drop h.start s)))) where
        pub run_fits : (y : Unit) → x ≡ Ok y → Ok (h.start + h.len) ≡ step_of (tree_dec d s)
        unfolding node_dec step_of
        run_fits y g =
            let v = fit_fits (all (tree (d - 1))) (take h.len (drop h.start s)) (run_is h f (d - 1) x c ∙ g) in
            rw (one_less d s z, ← q, f, bit, b, v.1)

        pub run_breaks : (p : Misfit) → x ≡ Err p → Err (misfit (h.start + p.place)) ≡ step_of (tree_dec d s)
        unfolding node_dec step_of
        run_breaks p y =
            let v = fit_breaks (all (tree (d - 1))) (take h.len (drop h.start s)) p.place (run_is h f (d - 1) x c ∙ y) in
            rw (one_less d s z, ← q, f, bit, b, v.0)

pub ruleset tree_cases = (too_deep, run_falls, found_end, found_sum, run_place, refused, primitive, run_fits, run_breaks)

-- an element that is refused whatever it holds
module _ (s : List ℕ) (r : HeaderRead) (q : r ≡ header_of s) where
  pub unwanted_refused : (p : Misfit) → r ≡ Err p → Err p ≡ unwanted_of (header_of s)
  unfolding unwanted_of
  unwanted_refused p f = rw (← q, f)

  pub unwanted_found : (h : Header) → r ≡ Ok h → Err (misfit 0) ≡ unwanted_of (header_of s)
  unfolding unwanted_of
  unwanted_found h f = rw (← q, f)

pub ruleset unwanted_cases = (unwanted_refused, unwanted_found)

-- by the first octet, where it is the tag that is wanted or not
module _ (t d : ℕ) (s : List ℕ) (x : Step) where
  module _ (e : x ≡ unwanted_of (header_of s)) where
    by_header : ((h : Header) → header_of s ≡ Ok h → Err (misfit 0) ≡ step_of (cond (eqb h.tag t) (tree_dec d s) (bad 0)))
        → x ≡ step_of (tree_tagged_dec t d s)
    unfolding tree_tagged_dec step_of unwanted_of
    by_header f = e ∙ go (header_of s) refl
      where
        go : (y : HeaderRead) → header_of s ≡ y → unwanted_of y ≡ step_of (wanted_of t (tree_dec d) s y)
        go (Err p) q = refl
        go (Ok h) q = f h q

    pub wanted_shallow : d ≡ 0 → x ≡ step_of (tree_tagged_dec t d s)
    unfolding step_of
    wanted_shallow z = by_header (λ h q. on (eqb h.tag t))
      where
        on : (b : Bool) → Err (misfit 0) ≡ step_of (cond b (tree_dec d s) (bad 0))
        on true = too_deep d s z
        on false = refl

    pub wanted_none : length s ≡ 0 → x ≡ step_of (tree_tagged_dec t d s)
    wanted_none z = by_header (λ h q. absurd (omega (arith, header_inside s h.tag h.start h.len q)))

    pub wanted_other : (get_or s 0 0 ≡ t → ⊥) → x ≡ step_of (tree_tagged_dec t d s)
    unfolding step_of
    wanted_other o = by_header (λ h q. rw (ne_eqb h.tag t (λ i. o (header_tag s h.tag h.start h.len q ∙ i))))

  pub wanted_found : (d ≡ 0 → ⊥) → get_or s 0 0 ≡ t → x ≡ step_of (tree_dec d s) → x ≡ step_of (tree_tagged_dec t d s)
  unfolding tree_tagged_dec step_of
  wanted_found z o e = e ∙ go (header_of s) refl
    where
      go : (y : HeaderRead) → header_of s ≡ y → step_of (tree_dec d s) ≡ step_of (wanted_of t (tree_dec d) s y)
      go (Err p) q = sym (refused s (Err p) (sym q) d z p refl)
      go (Ok h) q = rw (eq-eqb h.tag t (sym (header_tag s h.tag h.start h.len q) ∙ o))

pub ruleset wanted_cases = (wanted_shallow, wanted_none, wanted_other, wanted_found)
