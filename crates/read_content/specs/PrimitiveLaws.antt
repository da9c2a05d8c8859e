-- Laws of a primitive element: what it was read from, and what its content is with another test.
-- content_read, primitive_got; other_bad, other_got.
-- Assumes nothing.
use Rattle.std.specs.Prelude.{ℕ, ◌+◌, ◌≡◌, Bool, true, false, cond, eqb, take, drop, Ok, Err}
use Rattle.std.proofs.Math.Path.{refl, ap}
use Rattle.std.proofs.Common.{◌∙◌}
use Rattle.std.proofs.Math.Option.{Option, none, some}
use mathlib.Core.List.{List}
use borrow.Author.Tests.{eqb-true, eq-eqb}
use Rattle.element.specs.Header.{header_of}
use Rattle.element.specs.Places.{HeaderRead, header}
use Rattle.codec.specs.Codec.{read, got, bad}
use Rattle.codec.specs.Outcome.{attach}
use Rattle.codec.proofs.Outcome.{attach_got, tested_got, bad_got, got_bad, broke_read}
use Rattle.codec.specs.Tagged.{own, tagged_of, tagged_dec}
use Rattle.codec.specs.Contents.{or_start, filled_dec}

-- a content that was read
pub content_read : {A : Type 0} (d : List ℕ → Option A) (c : List ℕ) (a : A) → filled_dec d c ≡ read a → d c ≡ some a
unfolding filled_dec
content_read {A} d c a e = go (d c) e
  where
    go : (o : Option A) → or_start o ≡ read a → o ≡ some a
    go none e = broke_read e
    go (some y) e = let i : y ≡ a = cc in ap some i

-- a header with this tag, and a content that is read
pub primitive_got : {A : Type 0} (t : ℕ) (s : List ℕ) (d : List ℕ → Option A) (a : A) (n : ℕ) → tagged_dec own t (filled_dec d) s ≡ got a n
    → (h : ℕ) × (m : ℕ) × (header_of s ≡ Ok (header t h m)) × (h + m ≡ n) × (d (take m (drop h s)) ≡ some a)
unfolding tagged_dec
primitive_got {A} t s d a n e = go (header_of s) refl e
  where
    go : (r : HeaderRead) → header_of s ≡ r → tagged_of own t (filled_dec d) s r ≡ got a n
        → (h : ℕ) × (m : ℕ) × (header_of s ≡ Ok (header t h m)) × (h + m ≡ n) × (d (take m (drop h s)) ≡ some a)
    go (Err j) q e = bad_got e
    go (Ok x) q e =
        let g = tested_got (eqb x.tag t) _ _ a n e in
        let w = attach_got (own x.start) (x.start + x.len) (filled_dec d (take x.len (drop x.start s))) a n g.1 in
        (x.start, x.len, q ∙ ap {B = HeaderRead} (λ (k : ℕ). Ok (header k x.start x.len)) (eqb-true x.tag t g.0), w.1, content_read d (take x.len (drop x.start s)) a w.0)

-- the same element with another content
module _ {A B : Type 0} (t : ℕ) (s : List ℕ) (d : List ℕ → Option A) (d' : List ℕ → Option B) where
  pub other_bad : (p : ℕ) → ((c : List ℕ) → d c ≡ none → d' c ≡ none) → tagged_dec own t (filled_dec d) s ≡ bad p → tagged_dec own t (filled_dec d') s ≡ bad p
  unfolding tagged_dec filled_dec
  other_bad p v e = go (header_of s) e
    where
      content : (h n : ℕ) (c : List ℕ) (x : Option A) → d c ≡ x → attach (own h) (h + n) (or_start x) ≡ bad p → attach (own h) (h + n) (or_start (d' c)) ≡ bad p
      content h n c none i e = rw (v c i) (let j : 0 ≡ p = cc in ap bad j)
      content h n c (some a) i e = got_bad e

      tag : (k : Bool) (h n : ℕ) (c : List ℕ) → cond k (attach (own h) (h + n) (or_start (d c))) (bad 0) ≡ bad p → cond k (attach (own h) (h + n) (or_start (d' c))) (bad 0) ≡ bad p
      tag true h n c e = content h n c (d c) refl e
      tag false h n c e = let i : 0 ≡ p = cc in ap bad i

      go : (r : HeaderRead) → tagged_of own t (filled_dec d) s r ≡ bad p → tagged_of own t (filled_dec d') s r ≡ bad p
      go (Err j) e = let i : j.place ≡ p = cc in ap bad i
      go (Ok x) e = tag (eqb x.tag t) x.start x.len (take x.len (drop x.start s)) e

  -- by what it gives where the first content is there
  pub other_got : (a : A) (n : ℕ) (o : Option B) → ((c : List ℕ) → d c ≡ some a → d' c ≡ o) → tagged_dec own t (filled_dec d) s ≡ got a n
      → tagged_dec own t (filled_dec d') s ≡ attach (own 0) n (or_start o)
  unfolding tagged_dec filled_dec
  other_got a n o v e =
      let (h, m, f, i, g) = primitive_got t s d a n e in
      rw (f, eq-eqb t t refl, v (take m (drop h s)) g, i)
