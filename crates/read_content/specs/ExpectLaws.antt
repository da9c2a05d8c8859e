-- Laws of the header of an element with a tag: what `expect`'s answer tells of the list, and what it
-- gives an element with that tag. Premises are the facts that code has after a call of `expect`.
-- never; expected_at, expected_wrong; tagged_at_lem, tagged_wrong; content_first, content_end,
-- content_sum, content_length.
-- The definition is in Spots. Assumes nothing.
use Rattle.std.specs.Prelude.{ℕ, ◌+◌, ◌^◌, ◌≤◌, ◌<◌, ◌≡◌, refl, Bool, List, eqb, length, get_or, take, drop, Ok, Err}
use Rattle.std.proofs.Common.{arith, sym, ◌∙◌, length-drop, length-take-le, get_or-take, get_or-drop, Fits}
use Rattle.std.proofs.Math.Path.{ap}
use Rattle.std.proofs.Math.Bool.{true, false, cond}
use borrow.Author.Tests.{eqb-true, eq-eqb}
use Rattle.std.specs.Int.{w64}
use Rattle.element.specs.Header.{header_of}
use Rattle.element.specs.HeaderLaws.{header_inside, header_within}
use Rattle.element.specs.Places.{HeaderRead, Spot, header, misfit, span}
use Rattle.element.specs.declared.Span.{Span}
use Rattle.element.specs.PlacesLaws.{same_place, same_span}
use Rattle.codec.specs.Codec.{Read, bad}
use Rattle.codec.specs.Outcome.{attach}
use Rattle.codec.specs.Tagged.{tagged_of, tagged_dec}
use Rattle.read_content.specs.Spots.{expected}

-- from two constructors that are equal
pub never : {X : Type 0} → ◌≡◌ {A = ℕ} 0 1 → X
never z = absurd (omega arith)

found_of : (t : ℕ) (x : HeaderRead) (b l : ℕ) → expected t x ≡ Ok (span b l) → x ≡ Ok (header t b l)
unfolding expected
found_of t (Err p) b l e = never (cc)
found_of t (Ok h) b l e = go (eqb h.tag t) refl e
  where
    go : (k : Bool) → eqb h.tag t ≡ k → cond k (Ok (span h.start h.len)) (Err (misfit 0)) ≡ Ok (span b l) → ◌≡◌ {A = HeaderRead} (Ok (header h.tag h.start h.len)) (Ok (header t b l))
    go false i e = never (cc)
    go true i e = let v = same_span e in rw (eqb-true h.tag t i, v.0, v.1)

pub expected_at : (t : ℕ) (s : List ℕ) (b l : ℕ) → expected t (header_of s) ≡ Ok (span b l) → (header_of s ≡ Ok (header t b l)) × (2 ≤ b) × (b + l ≤ length s)
expected_at t s b l e =
    let f = found_of t (header_of s) b l e in
    let i = header_inside s t b l f in
    (f, i.0, i.1)

pub expected_wrong : (t : ℕ) (s : List ℕ) (p : ℕ) → expected t (header_of s) ≡ Err (misfit p) → p ≤ length s
unfolding expected
expected_wrong t s p e = go (header_of s) refl e
  where
    on : (k : Bool) (h n : ℕ) → cond k (Ok (span h n)) (Err (misfit 0)) ≡ Err (misfit p) → p ≤ length s
    on true h n e = never (cc)
    on false h n e = let i : 0 ≡ p = same_place e in omega arith

    go : (x : HeaderRead) → header_of s ≡ x → expected t x ≡ Err (misfit p) → p ≤ length s
    go (Err j) q e = let i : j.place ≡ p = same_place e in rw i at (header_within s j.place q)
    go (Ok h) q e = on (eqb h.tag t) h.start h.len e

-- what the header gives an element with this tag
module _ {A : Type 0} (at : ℕ → ℕ → ℕ) (t : ℕ) (d : List ℕ → Read A) (s : List ℕ) where
  pub tagged_at_lem : (b l : ℕ) → expected t (header_of s) ≡ Ok (span b l) → tagged_dec at t d s ≡ attach (at b) (b + l) (d (take l (drop b s)))
  unfolding tagged_dec
  tagged_at_lem b l e = rw (found_of t (header_of s) b l e, eq-eqb t t refl)

  pub tagged_wrong : (p : ℕ) → expected t (header_of s) ≡ Err (misfit p) → tagged_dec at t d s ≡ bad p
  unfolding tagged_dec expected
  tagged_wrong p e = go (header_of s) e
    where
      on : (k : Bool) (h n : ℕ) → cond k (Ok (span h n)) (Err (misfit 0)) ≡ Err (misfit p) → cond k (attach (at h) (h + n) (d (take n (drop h s)))) (bad 0) ≡ bad p
      on true h n e = never (cc)
      on false h n e = let i : 0 ≡ p = same_place e in ap bad i

      go : (x : HeaderRead) → expected t x ≡ Err (misfit p) → tagged_of at t d s x ≡ bad p
      go (Err j) e = let i : j.place ≡ p = same_place e in ap bad i
      go (Ok h) e = on (eqb h.tag t) h.start h.len e

-- a content's first octet
pub content_first : (b l : ℕ) (s : List ℕ) → 0 < l → get_or (take l (drop b s)) 0 0 ≡ get_or s b 0
content_first b l s h = let e : b + 0 ≡ b = omega arith in get_or-take l (drop b s) 0 0 h ∙ get_or-drop b s 0 0 ∙ ap (λ (i : ℕ). get_or s i 0) e

module _ (t : ℕ) (s : List ℕ) (r : Spot) (q : r ≡ expected t (header_of s)) where
  -- the content ends inside the list
  module _ (v : Span) (f : r ≡ Ok v) where
    pub content_end : v.start + v.len ≤ length s
    content_end = (expected_at t s v.start v.len (sym q ∙ f)).2

    pub content_sum : length s < 2 ^ 64 → Fits w64 (v.start + v.len)
    content_sum z = record { fits = omega (arith, content_end) }

    pub content_length : length (take v.len (drop v.start s)) ≡ v.len
    content_length = length-take-le v.len (drop v.start s) (simp length-drop (omega (arith, content_end)))
