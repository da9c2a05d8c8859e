-- The cases of the OIDs that are looked at again: the one at the head of a list, and the loop over
-- those before an extension. The loop is at a place up to which none of them is the OID.
-- Assumes nothing.
use Prim.Native.Nat.{ℕ, zero, suc, ◌+◌, ◌-◌, ◌^◌, ◌≤◌, ◌<◌}
use native.Mathlib.Omega.{arith}
use mathlib.Core.Path.{◌≡◌, refl, sym, ◌∙◌}
use mathlib.Core.Bool.{Bool, true, false, cond}
use mathlib.Core.List.{List, [], ◌∷◌}
use Rattle.std.specs.Prelude.{Option, Some, None, Ok, Err}
use lib.ListN.{length, take, drop, length-take, length-drop}
use lib.Seq.{drop-drop}
use mir.Syntax.{w64}
use mir.Val.{Fits}
use Rattle.octets.specs.Same.{same_of}
use Rattle.octets.specs.LentLaws.{part_is}
use Rattle.element.specs.Places.{Spot}
use Rattle.element.specs.declared.Misfit.{Misfit}
use Rattle.element.specs.declared.Span.{Span}
use Rattle.element.specs.Header.{header_of}
use Rattle.codec.specs.Keys.{new_to}
use Rattle.read_content.specs.Spots.{expected}
use Rattle.read_content.specs.ExpectLaws.{expected_at, content_end}
use Rattle.read_oids.specs.Seen.{name, named_in, name_of, name_at, on_name, oids_of}
use Rattle.read_oids.specs.NameLaws.{name_here, place_inside}
use Rattle.read_oids.specs.declared.Name.{Name}

-- ── the OID at the head ──
module _ (s : List ℕ) (r : Spot) (q : r ≡ expected 0x30 (header_of s)) where
  pub name_wrong : (p : Misfit) → r ≡ Err p → None ≡ name_at s
  unfolding name_at name_of
  name_wrong p f = rw (← q, f)

  module _ (v : Span) (f : r ≡ Ok v) (x : Spot) (c : x ≡ expected 0x06 (header_of (take (v.start + v.len - v.start) (drop v.start s)))) where
    name_then : name_at s ≡ named_in v.start (v.start + v.len) x
    unfolding name_at name_of
    name_then = rw (← q, f, ← part_is v.start v.len s, ← c)

    pub name_bare : (p : Misfit) → x ≡ Err p → None ≡ name_at s
    unfolding named_in
    name_bare p y = sym (name_then ∙ rw y)

    pub name_first : (u : Span) → x ≡ Ok u → length s < 2 ^ 64 → Fits w64 (v.start + u.start)
    name_first u y z =
        let j = (expected_at 0x06 (take (v.start + v.len - v.start) (drop v.start s)) u.start u.len (sym c ∙ y)).2 in
        let i = content_end 0x30 s r q v f in
        record { fits = omega (arith, simp (length-take, length-drop) at j) }

    pub name_is : (u : Span) → x ≡ Ok u → Some (name (v.start + u.start) u.len (v.start + v.len)) ≡ name_at s
    unfolding named_in
    name_is u y = sym (name_then ∙ rw y)

-- ── the loop ──
-- what was seen stays seen
also_seen : (y : List ℕ) (seen : List (List ℕ)) (x : List ℕ) → new_to seen x ≡ false → new_to (y ∷ seen) x ≡ false
unfolding new_to
also_seen y seen x h = go (same_of y x)
  where
    go : (b : Bool) → cond b false (new_to seen x) ≡ false
    go true = refl
    go false = h

oids_seen : (k : ℕ) (seen : List (List ℕ)) (s x : List ℕ) → new_to seen x ≡ false → new_to (oids_of k seen s) x ≡ false
unfolding oids_of
oids_seen zero seen s x h = h
oids_seen (suc k) seen s x h = go (name_at s) (λ more t i. oids_seen k more t x i)
  where
    go : (r : Option Name) → ((more : List (List ℕ)) (t : List ℕ) → new_to more x ≡ false → new_to (oids_of k more t) x ≡ false)
        → new_to (on_name r (λ u l n. oids_of k (take l (drop u s) ∷ seen) (drop n s)) seen) x ≡ false
    go None on = h
    go (Some v) on = on (take v.len (drop v.start s) ∷ seen) (drop v.next s) (also_seen (take v.len (drop v.start s)) seen x h)

-- one more, or none
oids_next : (k : ℕ) (seen : List (List ℕ)) (s : List ℕ) (v : Name) → 0 < k → name_at s ≡ Some v
    → oids_of k seen s ≡ oids_of (k - 1) (take v.len (drop v.start s) ∷ seen) (drop v.next s)
unfolding oids_of
oids_next zero seen s v h e = absurd (omega arith)
oids_next (suc k) seen s v h e = let i : suc k - 1 ≡ k = omega arith in rw (e, i)

oids_none : (k : ℕ) (seen : List (List ℕ)) (s : List ℕ) → name_at s ≡ None → oids_of k seen s ≡ seen
unfolding oids_of
oids_none zero seen s e = refl
oids_none (suc k) seen s e = rw e

-- k of the first count extensions are before the place, and none of them has the OID
pub record Looking (s : List ℕ) (count : ℕ) (x : List ℕ) (k at : ℕ) : Type 0 where
  pub le : at ≤ length s
  pub seen : List (List ℕ)
  pub new : new_to seen x ≡ true
  pub same : oids_of count [] s ≡ oids_of (count - k) seen (drop at s)

pub look_start : (s : List ℕ) (count : ℕ) (x : List ℕ) → Looking s count x 0 0
unfolding new_to
look_start s count x = let z : count - 0 ≡ count = omega arith in record { le = omega arith; seen = []; new = refl; same = rw z }

module _ (s : List ℕ) (count : ℕ) (x : List ℕ) (k at : ℕ) (i : Looking s count x k at) where
  pub look_end : count ≤ k → true ≡ new_to (oids_of count [] s) x
  unfolding oids_of
  look_end h = let z : count - k ≡ 0 = omega arith in sym (rw (i.same, z) i.new)

  -- by the name at the place
  module _ (r : Option Name) (q : r ≡ name_at (take (length s - at) (drop at s))) where
    pub look_none : r ≡ None → true ≡ new_to (oids_of count [] s) x
    look_none e = sym (rw (i.same, oids_none (count - k) i.seen (drop at s) (name_here s at r q ∙ e)) i.new)

    module _ (v : Name) (e : r ≡ Some v) (some : k < count) (z : Bool) (d : z ≡ same_of (take (at + v.start + v.len - (at + v.start)) (drop (at + v.start) s)) x) where
      more : oids_of count [] s ≡ oids_of (count - (k + 1)) (take v.len (drop v.start (drop at s)) ∷ i.seen) (drop v.next (drop at s))
      more =
          let j : count - k - 1 ≡ count - (k + 1) = omega arith in
          i.same ∙ rw j at (oids_next (count - k) i.seen (drop at s) v (omega arith) (name_here s at r q ∙ e))

      tested : new_to (take v.len (drop v.start (drop at s)) ∷ i.seen) x ≡ cond z false true
      unfolding new_to
      tested = rw (drop-drop v.start at s, ← part_is (at + v.start) v.len s, ← d, i.new)

      pub look_hit : z ≡ true → false ≡ new_to (oids_of count [] s) x
      look_hit y = sym (rw more (oids_seen (count - (k + 1)) (take v.len (drop v.start (drop at s)) ∷ i.seen) (drop v.next (drop at s)) x (rw y at tested)))

      pub look_next : z ≡ false → Looking s count x (k + 1) (at + v.next)
      look_next y = record {
        le = (place_inside s at r q v e i.le).2;
        seen = take v.len (drop v.start (drop at s)) ∷ i.seen;
        new = rw y at tested;
        same = rw (drop-drop v.next at s) at more;
      }
