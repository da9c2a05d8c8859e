-- How a header that was found was read: its tag is the first octet, and its length is one octet, or
-- is in k more; and what may be said of a place that was refused.
-- Seen and Near, with refused_found and first_two, serve the laws in HeaderLaws.
-- The definitions are in Header. Assumes nothing.
use Rattle.std.specs.Prelude.{ℕ, ◌+◌, ◌-◌, ◌≤◌, ◌<◌, ◌≡◌, Bool, List, [], ◌∷◌, leb, eqb, length, get_or, take, drop, Ok, Err}
use Rattle.std.proofs.Common.{arith, sym}
use Rattle.std.proofs.Math.Path.{refl}
use Rattle.std.proofs.Math.Bool.{true, false, cond}
use Rattle.std.proofs.Math.Dec.{ltb}
use borrow.Author.Tests.{ltb-true, ltb-false, leb-true}
use Rattle.octets.specs.Number.{value_of}
use Rattle.element.specs.Tag.{tag_ok}
use Rattle.element.specs.Length.{shortest}
use Rattle.element.specs.Header.{inside_of, long_of, length_at, header_of}
use Rattle.element.specs.Places.{HeaderRead, header, misfit}
use Rattle.element.specs.PlacesLaws.{same_place, same_header}

pub refused_found : (p t h n : ℕ) {X : Type 0} → Err (misfit p) ≡ Ok (header t h n) → X
refused_found p t h n e = let z : ◌≡◌ {A = ℕ} 0 1 = cc in absurd (omega arith)

-- where the other side is a refusal, the test held, or failed
kept : (b : Bool) (x : HeaderRead) (p t h n : ℕ) → cond b x (Err (misfit p)) ≡ Ok (header t h n) → (b ≡ true) × (x ≡ Ok (header t h n))
kept true x p t h n e = (refl, e)
kept false x p t h n e = refused_found p t h n e

passed : (b : Bool) (x : HeaderRead) (p t h n : ℕ) → cond b (Err (misfit p)) x ≡ Ok (header t h n) → (b ≡ false) × (x ≡ Ok (header t h n))
passed true x p t h n e = refused_found p t h n e
passed false x p t h n e = (refl, e)

-- the first two of a list that has two
pub first_two : (s : List ℕ) → 2 ≤ length s → s ≡ get_or s 0 0 ∷ get_or s 1 0 ∷ drop 2 s
first_two [] h = absurd (omega arith)
first_two (a ∷ []) h = absurd (omega arith)
first_two (a ∷ b ∷ s) h = refl

-- how the length of a found header was read: by one octet, or by k more
pub data Lengths (s : List ℕ) (h n : ℕ) : Type 0 where
  one : get_or s 1 0 < 128 → h ≡ 2 → n ≡ get_or s 1 0 → Lengths s h n
  more : (k : ℕ) → get_or s 1 0 ≡ 128 + k → k ≤ 8 → shortest k n ≡ true → h ≡ 2 + k → n ≡ value_of (take k (drop 2 s)) → Lengths s h n

pub record Seen (s : List ℕ) (t h n : ℕ) : Type 0 where
  pub two : 2 ≤ length s
  pub tag : tag_ok t ≡ true
  pub first : get_or s 0 0 ≡ t
  pub whole : h + n ≤ length s
  pub lengths : Lengths s h n

inside_found : (m t h n t' h' n' : ℕ) → h ≤ m → inside_of m t h n ≡ Ok (header t' h' n')
    → (t ≡ t') × (h ≡ h') × (n ≡ n') × (h + n ≤ m)
unfolding inside_of
inside_found m t h n t' h' n' le e =
    let q = kept (leb n (m - h)) _ _ t' h' n' e in
    let f = same_header q.1 in
    let b = leb-true n (m - h) q.0 in
    (f.0, f.1, f.2, omega arith)

module _ (s : List ℕ) (t h n : ℕ) (two : 2 ≤ length s) (tag : tag_ok (get_or s 0 0) ≡ true) where
  found_by : (h' n' : ℕ) → h' ≤ length s → inside_of (length s) (get_or s 0 0) h' n' ≡ Ok (header t h n) → Lengths s h' n' → Seen s t h n
  found_by h' n' le e w =
      let f = inside_found (length s) _ _ _ t h n le e in
      record {
        two = two;
        tag = rw f.0 at tag;
        first = f.0;
        whole = rw (f.1, f.2) at f.3;
        lengths = rw (f.1, f.2) at w;
      }

  long_found : (k : ℕ) → get_or s 1 0 ≡ 128 + k → k ≤ 8 → long_of s (get_or s 0 0) k ≡ Ok (header t h n) → Seen s t h n
  unfolding long_of
  long_found k eb le e =
      let p = passed (ltb (length s) (2 + k)) _ _ t h n e in
      let q = kept (shortest k (value_of (take k (drop 2 s)))) _ _ t h n p.1 in
      found_by (2 + k) _ (ltb-false (length s) (2 + k) p.0) q.1 (more k eb le q.0 refl refl)

  length_found : length_at s (get_or s 0 0) (get_or s 1 0) ≡ Ok (header t h n) → Seen s t h n
  unfolding length_at
  length_found e = go (ltb (get_or s 1 0) 128) refl e
    where
      go : (b : Bool) → ltb (get_or s 1 0) 128 ≡ b
          → cond b (inside_of (length s) (get_or s 0 0) 2 (get_or s 1 0))
          (cond (eqb (get_or s 1 0) 128) (Err (misfit 0)) (cond (ltb 136 (get_or s 1 0)) (Err (misfit 0)) (long_of s (get_or s 0 0) (get_or s 1 0 - 128)))) ≡ Ok (header t h n)
          → Seen s t h n
      go true eb e = found_by 2 (get_or s 1 0) two e (one (ltb-true (get_or s 1 0) 128 eb) refl refl)
      go false eb e =
          let p = passed (eqb (get_or s 1 0) 128) _ _ t h n e in
          let q = passed (ltb 136 (get_or s 1 0)) _ _ t h n p.1 in
          let lo = ltb-false (get_or s 1 0) 128 eb in
          let hi = ltb-false 136 (get_or s 1 0) q.0 in
          long_found (get_or s 1 0 - 128) (omega arith) (omega arith) q.1

pub seen : (s : List ℕ) (t h n : ℕ) → header_of s ≡ Ok (header t h n) → Seen s t h n
unfolding header_of
seen s t h n e =
    let p = passed (eqb (length s) 0) _ _ t h n e in
    let q = kept (tag_ok (get_or s 0 0)) _ _ t h n p.1 in
    let r = passed (ltb (length s) 2) _ _ t h n q.1 in
    length_found s t h n (ltb-false (length s) 2 r.0) q.0 r.1

-- if it is refused, the place lies in the list or at its end
abbrev pub Near : List ℕ → HeaderRead → Type 0
Near s x = (p : ℕ) → x ≡ Err (misfit p) → p ≤ length s

pub near_cond : (s : List ℕ) (b : Bool) (x y : HeaderRead) → Near s x → Near s y → Near s (cond b x y)
near_cond s true x y u v = u
near_cond s false x y u v = v

pub near_at : (s : List ℕ) (q : ℕ) → q ≤ length s → Near s (Err (misfit q))
near_at s q le p e = let i : q ≡ p = same_place e in omega arith

pub near_inside : (s : List ℕ) (m t h n : ℕ) → Near s (inside_of m t h n)
unfolding inside_of
near_inside s m t h n = near_cond s (leb n (m - h)) _ _ (λ p e. refused_found p t h n (sym e)) (near_at s 0 (omega arith))
