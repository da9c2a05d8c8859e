-- Laws of the header at the head of a list: what is found is there in its one form, each form is
-- found, and a refused place lies in the list or at its end.
-- Heads, header_sound, header_two, header_one, header_complete, header_inside, header_tag, header_within, header_empty.
-- The definitions are in Header and Form. Assumes nothing.
use Rattle.std.specs.Prelude.{ℕ, suc, ◌+◌, ◌-◌, ◌^◌, ◌≤◌, ◌<◌, ◌≡◌, Bool, true, false, ltb, eqb, length, take, drop, Ok, Err}
use Rattle.std.proofs.Math.Nat.{pow-le-pow_right}
use native.Mathlib.Omega.{arith}
use Rattle.std.proofs.Math.Path.{refl, ap}
use Rattle.std.proofs.Common.{sym, ◌∙◌, lit<, take-append-drop, length-drop, drop-drop, take_at, length-take-le}
use mathlib.Core.List.{List, [], ◌∷◌, ◌++◌}
use Rattle.std.proofs.Math.ListN.{get_or, length-append}
use borrow.Author.Tests.{ltb-true, ltb-false, lt-ltb, le-ltb, le-leb, ne_eqb}
use Rattle.octets.specs.Octets.{Octets}
use Rattle.octets.specs.OctetsLaws.{octets_at, octets_take, octets_drop}
use Rattle.octets.specs.Number.{value_of, octets_of}
use Rattle.octets.specs.NumberLaws.{value_bound, value_octets, octets_length, octets_value}
use Rattle.element.specs.Tag.{tag_ok}
use Rattle.element.specs.Length.{length_count, length_form, shortest}
use Rattle.element.specs.LengthLaws.{count_least, length_short, length_long, shortest_yes, shortest_is}
use Rattle.element.specs.Header.{inside_of, long_of, length_at, header_of}
use Rattle.element.specs.HeaderFoundLaws.{first_two, Lengths, one, more, Seen, seen, near_cond, near_at, near_inside}
use Rattle.element.specs.Form.{head_form, head_size}
use Rattle.element.specs.Places.{header, misfit}

-- a header takes two octets at least, and its content ends inside the list
pub header_inside : (s : List ℕ) (t h n : ℕ) → header_of s ≡ Ok (header t h n) → (2 ≤ h) × (h + n ≤ length s)
header_inside s t h n e = go (seen s t h n e).lengths
  where
    go : Lengths s h n → (2 ≤ h) × (h + n ≤ length s)
    go (one b eh en) = (omega arith, (seen s t h n e).whole)
    go (more k b le f eh en) = (omega arith, (seen s t h n e).whole)

-- its tag is the first octet
pub header_tag : (s : List ℕ) (t h n : ℕ) → header_of s ≡ Ok (header t h n) → get_or s 0 0 ≡ t
header_tag s t h n e = (seen s t h n e).first

-- what a header that was found says
pub record Heads (s : List ℕ) (t h n : ℕ) : Type 0 where
  pub tag : tag_ok t ≡ true
  pub octet : t < 256
  pub small : n < 2 ^ 64
  pub size : h ≡ head_size n
  pub whole : h + n ≤ length s
  pub same : s ≡ head_form t n ++ drop h s

module _ (s : List ℕ) (o : Octets s) (t h n : ℕ) (v : Seen s t h n) where
  octet_is : t < 256
  octet_is = rw v.first at (octets_at s o 0)

  starts : s ≡ t ∷ get_or s 1 0 ∷ drop 2 s
  starts = first_two s v.two ∙ ap (λ (x : ℕ). x ∷ get_or s 1 0 ∷ drop 2 s) v.first

  -- by the octets of the content's size: the second and those after it
  heads_by : (c : List ℕ) → n < 2 ^ 64 → length_form n ≡ get_or s 1 0 ∷ c → h ≡ 2 + length c → drop 2 s ≡ c ++ drop h s → Heads s t h n
  unfolding head_size
  heads_by c small f eh ed =
      record {
        tag = v.tag;
        octet = octet_is;
        small = small;
        size = rw f (omega arith);
        whole = v.whole;
        same = rw f (starts ∙ ap (λ (r : List ℕ). t ∷ get_or s 1 0 ∷ r) ed);
      }

  -- the content's size in one octet
  sound_one : get_or s 1 0 < 128 → h ≡ 2 → n ≡ get_or s 1 0 → Heads s t h n
  sound_one b eh en = heads_by [] (omega arith) (rw en (length_short (get_or s 1 0) b)) eh (rw eh)

  -- the content's size in k octets after the first
  module _ (k : ℕ) (eb : get_or s 1 0 ≡ 128 + k) (le : k ≤ 8) (q : shortest k n ≡ true) (eh : h ≡ 2 + k) (en : n ≡ value_of (take k (drop 2 s))) where
    there : length (take k (drop 2 s)) ≡ k
    there = length-take-le k (drop 2 s) (simp length-drop (omega (arith, v.whole)))

    digits : octets_of k n ≡ take k (drop 2 s)
    digits =
        let e = octets_value (take k (drop 2 s)) (octets_take k (drop 2 s) (octets_drop 2 s o)) in
        rw en (rw there at e)

    long_is : length_form n ≡ get_or s 1 0 ∷ take k (drop 2 s)
    long_is = let z = shortest_is k n q in length_long n z.0 ∙ rw (z.1, digits, eb)

    sound_more : Heads s t h n
    sound_more =
        let b = value_bound (take k (drop 2 s)) (octets_take k (drop 2 s) (octets_drop 2 s o)) in
        let c : n < 256 ^ k = rw en (rw there at b) in
        let up : 256 ^ k ≤ 256 ^ 8 = pow-le-pow_right (lit< tt) le in
        let w : drop 2 s ≡ take k (drop 2 s) ++ drop (2 + k) s =
        sym (take-append-drop k (drop 2 s)) ∙ ap (λ (r : List ℕ). take k (drop 2 s) ++ r) (drop-drop k 2 s) in
        heads_by (take k (drop 2 s)) (omega arith) long_is (omega (arith, there)) (rw eh w)

pub header_sound : (s : List ℕ) (t h n : ℕ) → Octets s → header_of s ≡ Ok (header t h n) → Heads s t h n
header_sound s t h n o e = go (seen s t h n e).lengths
  where
    go : Lengths s h n → Heads s t h n
    go (one b eh en) = sound_one s o t h n (seen s t h n e) b eh en
    go (more k b le q eh en) = sound_more s o t h n (seen s t h n e) k b le q eh en

-- two octets or more that begin with a tag are read by their length octets
pub header_two : (s : List ℕ) → 2 ≤ length s → (r : Bool) → r ≡ tag_ok (get_or s 0 0) → r ≡ true → header_of s ≡ length_at s (get_or s 0 0) (get_or s 1 0)
unfolding header_of
header_two s two r q k = rw (ne_eqb (length s) 0 (λ z. omega arith), ← q, k, le-ltb (length s) 2 two)

-- each form is found
pub header_one : (s : List ℕ) → 2 ≤ length s → get_or s 1 0 < 128 → get_or s 1 0 ≤ length s - 2 → tag_ok (get_or s 0 0) ≡ true
    → header_of s ≡ Ok (header (get_or s 0 0) 2 (get_or s 1 0))
unfolding length_at inside_of
header_one s two b i k = rw (header_two s two (tag_ok (get_or s 0 0)) refl k, lt-ltb (get_or s 1 0) 128 b, le-leb (get_or s 1 0) (length s - 2) i)

module _ (t k : ℕ) (c w : List ℕ) (ok : tag_ok t ≡ true) (size : length c ≡ k) (few : k ≤ 8) (some : 1 ≤ k)
    (short : shortest k (value_of c) ≡ true) (le : value_of c ≤ length w) where
  complete_long : long_of (t ∷ (128 + k) ∷ (c ++ w)) t k ≡ Ok (header t (2 + k) (value_of c))
  unfolding long_of inside_of
  complete_long =
      let l = length-append c w in
      let a = le-ltb (suc (suc (length (c ++ w)))) (2 + k) (omega arith) in
      let i = le-leb (value_of c) (suc (suc (length (c ++ w))) - (2 + k)) (omega arith) in
      simp (take_at c w k size, a, short, i)

  complete_more : header_of (t ∷ (128 + k) ∷ (c ++ w)) ≡ Ok (header t (2 + k) (value_of c))
  unfolding length_at
  complete_more =
      let z = header_two (t ∷ (128 + k) ∷ (c ++ w)) (omega arith) (tag_ok t) refl ok in
      let b = le-ltb (128 + k) 128 (omega arith) in
      let d = ne_eqb (128 + k) 128 (omega arith) in
      let f = le-ltb 136 (128 + k) (omega arith) in
      let g : 128 + k - 128 ≡ k = omega arith in
      simp (z, b, d, f, g, complete_long)

pub header_complete : (t n : ℕ) (w : List ℕ) → tag_ok t ≡ true → n < 2 ^ 64 → n ≤ length w
    → header_of (head_form t n ++ w) ≡ Ok (header t (head_size n) n)
unfolding head_size
header_complete t n w ok f le = go (ltb n 128) refl
  where
    go : (b : Bool) → ltb n 128 ≡ b → header_of (head_form t n ++ w) ≡ Ok (header t (1 + length (length_form n)) n)
    go true e = let h = ltb-true n 128 e in rw (length_short n h) (header_one (t ∷ n ∷ w) (omega arith) h (omega arith) ok)
    go false e =
        let h = ltb-false n 128 e in
        let c = count_least n (omega arith) f in
        let k = length_count n in
        let v : value_of (octets_of k n) ≡ n = value_octets k n c.below in
        let l : length (octets_of k n) ≡ k = octets_length k n in
        let m = complete_more t k (octets_of k n) w ok l c.most c.least (rw v (shortest_yes k n h refl)) (rw v le) in
        let z : 1 + suc k ≡ 2 + k = omega arith in
        rw (length_long n h, l, z) (rw v at m)

-- a refused place lies in the list or at its end
pub header_within : (s : List ℕ) (p : ℕ) → header_of s ≡ Err (misfit p) → p ≤ length s
unfolding header_of length_at long_of
header_within s =
    let z = near_at s 0 (omega arith) in
    let e = near_at s (length s) (omega arith) in
    let t = get_or s 0 0 in
    let b = get_or s 1 0 in
    let v = value_of (take (b - 128) (drop 2 s)) in
    near_cond s (eqb (length s) 0) _ _ z
    (near_cond s (tag_ok t) _ _
    (near_cond s (ltb (length s) 2) _ _ e
    (near_cond s (ltb b 128) _ _ (near_inside s (length s) t 2 b)
    (near_cond s (eqb b 128) _ _ z
    (near_cond s (ltb 136 b) _ _ z
    (near_cond s (ltb (length s) (2 + (b - 128))) _ _ e
    (near_cond s (shortest (b - 128) v) _ _ (near_inside s (length s) t (2 + (b - 128)) v) z))))))
    z)

-- where nothing stands, the place is the start
pub header_empty : header_of [] ≡ Err (misfit 0)
unfolding header_of
header_empty = refl
