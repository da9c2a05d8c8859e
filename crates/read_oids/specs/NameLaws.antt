-- Laws of the OID at the head of a list, and of the one at a place, as code lends what is left: where it
-- lies, and that the sums of places fit.
-- name_inside; name_here, place_inside, place_first, place_last, place_end, place_next_lem.
-- The definition is in Seen. Assumes nothing.
use Rattle.std.specs.Prelude.{ℕ, ◌+◌, ◌-◌, ◌^◌, ◌≤◌, ◌<◌, ◌≡◌, refl, List, Option, Some, Ok, Err, length, take, drop}
use Rattle.std.proofs.Common.{arith, sym, ap, ◌∙◌, length-take, length-drop, Fits}
use Rattle.std.specs.Int.{w64}
use Rattle.octets.specs.LentLaws.{rest_is}
use Rattle.element.specs.Places.{Spot}
use Rattle.element.specs.Header.{header_of}
use Rattle.read_content.specs.Spots.{expected}
use Rattle.read_content.specs.ExpectLaws.{never, expected_at}
use Rattle.read_oids.specs.Seen.{name, named_in, name_of, name_at}
use Rattle.read_oids.specs.declared.Name.{Name}

-- ── the OID at the head ──
-- it lies in its extension, and that in the list
pub name_inside : (s : List ℕ) (u l n : ℕ) → name_at s ≡ Some (name u l n) → (0 < n) × (u + l ≤ n) × (n ≤ length s)
unfolding name_at name_of named_in
name_inside s u l n e = go (expected 0x30 (header_of s)) refl e
  where
    inner : (b m : ℕ) → (2 ≤ b) × (b + m ≤ length s) → (x : Spot) → expected 0x06 (header_of (take m (drop b s))) ≡ x
        → named_in b (b + m) x ≡ Some (name u l n) → (0 < n) × (u + l ≤ n) × (n ≤ length s)
    inner b m i (Err p) y e = never (cc)
    inner b m i (Ok v) y e =
        let j : name (b + v.start) v.len (b + m) ≡ name u l n = cc in
        let ev : b + v.start ≡ u = ap (λ (x : Name). x.start) j in
        let ek : v.len ≡ l = ap (λ (x : Name). x.len) j in
        let en : b + m ≡ n = ap (λ (x : Name). x.next) j in
        let k = (expected_at 0x06 (take m (drop b s)) v.start v.len y).2 in
        let w = simp length-take at k in
        (omega (arith, i.0), omega arith, omega (arith, i.1))

    go : (x : Spot) → expected 0x30 (header_of s) ≡ x → name_of s x ≡ Some (name u l n) → (0 < n) × (u + l ≤ n) × (n ≤ length s)
    go (Err p) y e = never (cc)
    go (Ok v) y e =
        let i = expected_at 0x30 s v.start v.len y in
        inner v.start v.len (i.1, i.2) (expected 0x06 (header_of (take v.len (drop v.start s)))) refl e

-- ── the OID at a place, as the code lends what is left ──
module _ (s : List ℕ) (at : ℕ) (r : Option Name) (q : r ≡ name_at (take (length s - at) (drop at s))) where
  pub name_here : name_at (drop at s) ≡ r
  name_here = rw (rest_is at s) at (sym q)

  module _ (v : Name) (e : r ≡ Some v) (le : at ≤ length s) where
    pub place_inside : (0 < v.next) × (v.start + v.len ≤ v.next) × (at + v.next ≤ length s)
    place_inside =
        let i = name_inside (drop at s) v.start v.len v.next (name_here ∙ e) in
        (i.0, i.1, omega (arith, i.2, length-drop at s))

    pub place_first : length s < 2 ^ 64 → Fits w64 (at + v.start)
    place_first z = record { fits = omega (arith, place_inside.1, place_inside.2) }

    pub place_last : length s < 2 ^ 64 → Fits w64 (at + v.start + v.len)
    place_last z = record { fits = omega (arith, place_inside.1, place_inside.2) }

    pub place_end : at + v.start + v.len ≤ length s
    place_end = omega (arith, place_inside.1, place_inside.2)

    pub place_next_lem : length s < 2 ^ 64 → Fits w64 (at + v.next)
    place_next_lem z = record { fits = omega (arith, place_inside.2) }
