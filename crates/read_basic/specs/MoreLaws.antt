-- An element and then the rest, seen as positions: the answer for the two is the answer for the rest,
-- moved on by the octets that the element takes. Premises are what code has learned, as it left it.
-- place_inside; More, more_wrong, more_within, more_place, more_moved. What it says of two Results is in MoreReads.
-- Assumes nothing.
use Rattle.std.specs.Prelude.{ℕ, ◌+◌, ◌-◌, ◌^◌, ◌≤◌, ◌<◌, ◌≡◌, List, take, drop, Ok, Err}
use Rattle.std.proofs.Common.{arith, ◌∙◌, length-drop, Fits}
use Rattle.std.proofs.Math.Path.{refl, sym, ap}
use Rattle.std.proofs.Math.ListN.{length}
use Rattle.std.specs.Int.{w64}
use Rattle.octets.specs.Octets.{Octets}
use Rattle.octets.specs.OctetsLaws.{octets_drop}
use Rattle.octets.specs.LentLaws.{Known, known_octets, rest_is}
use Rattle.element.specs.Places.{misfit}
use Rattle.codec.specs.Codec.{Read, read, broke, got, Whole, Element}
use Rattle.codec.proofs.CodecLaws.{got_size, whole_size}
use Rattle.codec.specs.Sequence.{field_dec}
use Rattle.codec.specs.Views.{step_of}
use Rattle.codec.proofs.ViewLaws.{step_taken, step_bad}
use Rattle.codec.specs.Steps.{Step}

-- a place that an answer names lies in the list that was read
pub place_inside : {B U : Type 0} (w : Whole B) (u : Read B → U) (place : U → ℕ) → ((b : B) → place (u (read b)) ≤ length (w.enc b))
    → ((p : ℕ) → place (u (broke p)) ≤ p) → (s : List ℕ) → Octets s → place (u (w.dec s)) ≤ length s
place_inside {B} w u place holds breaks s o = go (w.dec s) refl
  where
    go : (x : Read B) → w.dec s ≡ x → place (u x) ≤ length s
    go (read b) e = omega (arith, holds b, whole_size w s b o e)
    go (broke p) e = omega (arith, breaks p, w.within s p e)

-- an element and then the rest: v is what the code answers for the two, u what it answers for the rest, moved is an
-- answer for the rest that many octets further on, and place is the place that it names
pub record More {A B U T : Type 0} (e : Element A) (w : Whole B) (u : Read B → U) (v : List ℕ → T) (broken : ℕ → T)
    (moved : ℕ → U → T) (place : U → ℕ) : Type 0 where
  pub both : Read (A × B) → T
  pub same : (s : List ℕ) → both (field_dec e.dec w.dec s) ≡ v s
  pub wrong : (p : ℕ) → broken p ≡ both (broke p)
  pub holds : (a : A) (b : B) → moved (length (e.enc a)) (u (read b)) ≡ both (read (a, b))
  pub breaks : (n p : ℕ) → moved n (u (broke p)) ≡ both (broke (n + p))
  pub holds_in : (b : B) → place (u (read b)) ≤ length (w.enc b)
  pub breaks_in : (p : ℕ) → place (u (broke p)) ≤ p

module _ {A B U T : Type 0} {e : Element A} {w : Whole B} {u : Read B → U} {v : List ℕ → T} {broken : ℕ → T} {moved : ℕ → U → T} {place : U → ℕ}
    (m : More e w u v broken moved place) (s : List ℕ) (x : Step) (q : x ≡ step_of (e.dec s)) where
  pub more_wrong : (p : ℕ) → x ≡ Err (misfit p) → broken p ≡ v s
  unfolding field_dec
  more_wrong p f = m.wrong p ∙ ap m.both (rw (step_bad e s p (sym q ∙ f)).0) ∙ m.same s

  module _ (n : ℕ) (f : x ≡ Ok n) (y : U) (c : y ≡ u (w.dec (take (length s - n) (drop n s)))) (known : Known s) (z : U) (g : y ≡ z) where
    rest : u (w.dec (drop n s)) ≡ z
    rest = rw (rest_is n s) at (sym c) ∙ g

    -- the place that is named lies in the list
    pub more_within : (k : ℕ) → place z ≡ k → n + k ≤ length s
    more_within k i =
        let le = (step_taken e s n (sym q ∙ f)).3 in
        let at = place_inside w u place m.holds_in m.breaks_in (drop n s) (octets_drop n s (known_octets s known)) in
        let j : place (u (w.dec (drop n s))) ≡ k = ap place rest ∙ i in
        omega (arith, length-drop n s)

    -- and is counted in 64 bits
    pub more_place : (k : ℕ) → place z ≡ k → length s < 2 ^ 64 → Fits w64 (n + k)
    more_place k i lt = record { fits = omega (arith, more_within k i) }

    -- the answer for the rest, moved on, is that for the two
    pub more_moved : (r : T) → moved n z ≡ r → r ≡ v s
    unfolding field_dec
    more_moved r i =
        let (a, d, _, _) = step_taken e s n (sym q ∙ f) in
        sym i ∙ ap (moved n) (sym rest) ∙ go a d (got_size e s a n (known_octets s known) d) (w.dec (drop n s)) refl ∙ m.same s
      where
        go : (a : A) → e.dec s ≡ got a n → length (e.enc a) ≡ n → (o : Read B) → w.dec (drop n s) ≡ o
            → moved n (u o) ≡ m.both (field_dec e.dec w.dec s)
        go a d size (read b) h = rw (d, h) (rw size at (m.holds a b))
        go a d size (broke p) h = rw (d, h) (m.breaks n p)
