-- What a reading tells of its parts: the header before an element's content, the first field and what
-- follows it, an element that fills its holder; and a part of a part.
-- drop_in, cut_in; tagged_read, field_read; only_left.
-- The codecs are in crate codec. Assumes nothing.
use Rattle.std.specs.Prelude.{ℕ, ◌+◌, ◌≤◌, ◌<◌, ◌≡◌, Ok, Err, eqb, take}
use Rattle.std.proofs.Common.{arith, sym, ◌∙◌, length-take-le, take-take, take-add, drop_at, drop-drop, eqb-true}
use Rattle.std.proofs.Math.Path.{refl, ap}
use mathlib.Core.List.{List, [], ◌∷◌}
use Rattle.std.proofs.Math.ListN.{length, drop, length-drop}
use Rattle.element.specs.Places.{HeaderRead, header}
use Rattle.element.specs.Header.{header_of}
use Rattle.codec.specs.Codec.{Read, read, broke, Got, got}
use Rattle.codec.proofs.Outcome.{bad_got, tested_got, attach_got, on_got_read, further_read}
use Rattle.codec.specs.Tagged.{tagged_of, tagged_dec}
use Rattle.codec.specs.Mapped.{mapped_dec}
use Rattle.codec.specs.Sequence.{end_dec, field_dec, only_dec}

-- a part of a part
pub drop_in : (b l : ℕ) (s : List ℕ) → b + l ≤ length s → drop b (take (b + l) s) ≡ take l (drop b s)
drop_in b l s le = rw (take-add b l s) (drop_at (take b s) (take l (drop b s)) b (length-take-le b s (omega arith)))

pub cut_in : (b l h m : ℕ) (s : List ℕ) → b + l ≤ length s → h + m ≤ l → take m (drop h (take l (drop b s))) ≡ take m (drop (b + h) s)
cut_in b l h m s le i =
    let j : drop h (take (h + m) (drop b s)) ≡ take m (drop h (drop b s)) = drop_in h m (drop b s) (simp length-drop (omega arith)) in
    let k : take (h + m) (take l (drop b s)) ≡ take (h + m) (drop b s) = take-take (h + m) l (drop b s) i in
    let f : drop h (take (h + m) (take l (drop b s))) ≡ take m (drop h (take l (drop b s))) = drop_in h m (take l (drop b s)) (rw (length-take-le l (drop b s) (simp length-drop (omega arith))) i) in
    sym f ∙ ap (drop h) k ∙ j ∙ ap (take m) (drop-drop h b s)

-- ── an element with a tag ──
pub tagged_read : {A : Type 0} (at : ℕ → ℕ → ℕ) (t : ℕ) (d : List ℕ → Read A) (s : List ℕ) (a : A) (n : ℕ) → tagged_dec at t d s ≡ got a n
    → (h : ℕ) × (m : ℕ) × (header_of s ≡ Ok (header t h m)) × (h + m ≡ n) × (d (take m (drop h s)) ≡ read a)
unfolding tagged_dec
tagged_read at t d s a n e = go (header_of s) refl e
  where
    go : (y : HeaderRead) → header_of s ≡ y → tagged_of at t d s y ≡ got a n
        → (h : ℕ) × (m : ℕ) × (header_of s ≡ Ok (header t h m)) × (h + m ≡ n) × (d (take m (drop h s)) ≡ read a)
    go (Err p) q e = bad_got e
    go (Ok x) q e =
        let g = tested_got (eqb x.tag t) _ _ a n e in
        let r = attach_got (at x.start) (x.start + x.len) (d (take x.len (drop x.start s))) a n g.1 in
        let i : x.tag ≡ t = eqb-true x.tag t g.0 in
        (x.start, x.len, q ∙ ap {B = HeaderRead} (λ (v : ℕ). Ok (header v x.start x.len)) i, r.1, r.0)

-- ── an element, then a whole list ──
pub field_read : {A B : Type 0} (d : List ℕ → Got A) (d' : List ℕ → Read B) (s : List ℕ) (x : A × B) → field_dec d d' s ≡ read x
    → (n : ℕ) × (d s ≡ got x.0 n) × (d' (drop n s) ≡ read x.1)
unfolding field_dec
field_read {A} {B} d d' s x q =
    let (a, n, eg, f) = on_got_read (d s) _ x q in
    let (b, eb, ex) = further_read n (λ b. (a, b)) (d' (drop n s)) x f in
    (n, eg ∙ ap (λ (y : A × B). got y.0 n) ex, eb ∙ ap (λ (y : A × B). read y.1) ex)

-- ── an element that fills its holder ──
module _ {A : Type 0} (d : List ℕ → Got A) (s : List ℕ) where
  module _ (a : A) (n : ℕ) (q : d s ≡ got a n) where
    pub only_left : n < length s → only_dec d s ≡ broke n
    unfolding only_dec mapped_dec field_dec end_dec
    only_left lt = go (drop n s) refl
      where
        go : (l : List ℕ) → drop n s ≡ l → only_dec d s ≡ broke n
        go [] i = absurd (omega (arith, length-drop n s, ap length i))
        go (y ∷ l) i = rw (q, i) (ap broke (omega arith))
