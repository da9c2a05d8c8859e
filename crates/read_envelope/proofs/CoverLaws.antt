-- Laws of envelopes seen as positions: what an answer tells of the reading, and how the answer for an
-- element that is to fill its holder is made of the answer for its content.
-- cover_broken, cover_failed, cover_holds; only_fills, only_left, only_wrong; cover_closed,
-- cover_wrong.
-- The definitions are in Cover. Assumes nothing.
use Rattle.std.specs.Prelude.{ℕ, ◌+◌, ◌≤◌, ◌<◌, ◌≡◌, refl, Bool, take, drop, Ok, Err}
use native.Mathlib.Omega.{arith}
use Rattle.std.proofs.Math.Path.{ap}
use Rattle.std.proofs.Math.Bool.{true, false, cond}
use mathlib.Core.List.{List, [], ◌∷◌}
use Rattle.std.proofs.Math.Dec.{eqb}
use Rattle.std.proofs.Math.ListN.{length, length-drop, drop_of_length-le}
use borrow.Author.Tests.{eqb-true, eqb-false}
use Rattle.octets.specs.Same.{same_of}
use Rattle.element.specs.Header.{header_of}
use Rattle.element.specs.Places.{misfit, span}
use Rattle.element.specs.PlacesLaws.{same_place}
use Rattle.codec.specs.Codec.{Read, read, broke, Got, got, bad}
use Rattle.codec.specs.Outcome.{further, renamed, attach}
use Rattle.codec.specs.Mapped.{mapped_dec}
use Rattle.codec.specs.Sequence.{end_dec, field_dec, only_dec}
use Rattle.codec.specs.Tagged.{inner, tagged_dec}
use Rattle.layout.specs.Names.{Envelope, failure, success}
use Rattle.layout.specs.Read.{basic_type}
use Rattle.read_content.specs.Spots.{expected}
use Rattle.read_content.specs.ExpectLaws.{never, expected_at, tagged_at_lem, tagged_wrong}
use Rattle.read_envelope.specs.Cover.{covered, cover_by, covered_by}
use Rattle.read_envelope.specs.declared.Cover.TheVariants as cover

-- ── what an answer tells ──
pub cover_broken : {A : Type 0} (f : A → Envelope) (o : Read A) (p : ℕ) → cover_by f o ≡ Err (misfit p) → o ≡ broke p
unfolding cover_by
cover_broken f (broke q) p e = let i : q ≡ p = same_place e in ap broke i
cover_broken f (read a) p e = never (cc)

pub cover_failed : {A : Type 0} (f : A → Envelope) (o : Read A) (n : ℕ) → cover_by f o ≡ Ok (cover.Failed n) → (a : A) × (o ≡ read a) × (f a ≡ failure n)
unfolding cover_by covered
cover_failed f (broke q) n e = never (cc)
cover_failed f (read a) n e = (a, refl, go (f a) (cc))
  where
    go : (x : Envelope) → covered x ≡ cover.Failed n → x ≡ failure n
    go (failure m) e = let i : m ≡ n = cc in ap failure i
    go (success t c) e = never (cc)

pub cover_holds : {A : Type 0} (f : A → Envelope) (o : Read A) (b : Bool) (n : ℕ) → cover_by f o ≡ Ok (cover.Holds b n)
    → (a : A) × (t : List ℕ) × (c : List ℕ) × (o ≡ read a) × (f a ≡ success t c) × (same_of t basic_type ≡ b) × (length c ≡ n)
unfolding cover_by covered
cover_holds f (broke q) b n e = never (cc)
cover_holds {A} f (read a) b n e = go (f a) refl (cc)
  where
    go : (x : Envelope) → f a ≡ x → covered x ≡ cover.Holds b n
        → (y : A) × (t : List ℕ) × (c : List ℕ) × (◌≡◌ {A = Read A} (read a) (read y)) × (f y ≡ success t c) × (same_of t basic_type ≡ b) × (length c ≡ n)
    go (failure m) q e = never (cc)
    go (success t c) q e = (a, t, c, refl, q, cc, cc)

-- ── an element that is to fill its holder ──
module _ {A : Type 0} (d : List ℕ → Got A) (s : List ℕ) where
  pub only_wrong : (p : ℕ) → d s ≡ bad p → only_dec d s ≡ broke p
  unfolding only_dec mapped_dec field_dec
  only_wrong p q = rw q

  module _ (a : A) (n : ℕ) (q : d s ≡ got a n) where
    pub only_fills : length s ≤ n → only_dec d s ≡ read a
    unfolding only_dec mapped_dec field_dec end_dec
    only_fills le = rw (q, drop_of_length-le s le)

    pub only_left : n < length s → only_dec d s ≡ broke n
    unfolding only_dec mapped_dec field_dec end_dec
    only_left lt = rw q (go (drop n s) (simp length-drop (omega arith)))
      where
        go : (l : List ℕ) → 0 < length l → renamed (λ (x : A × Unit {0}). x.0) (further n (λ u. (a, u)) (end_dec l)) ≡ broke n
        go [] h = absurd (omega arith)
        go (x ∷ l) h = let e : n + 0 ≡ n = omega arith in ap broke e

-- by its header
module _ {A : Type 0} (f : A → Envelope) (t : ℕ) (d : List ℕ → Read A) (s : List ℕ) where
  pub cover_wrong : (p : ℕ) → expected t (header_of s) ≡ Err (misfit p) → cover_by f (only_dec (tagged_dec inner t d) s) ≡ Err (misfit p)
  unfolding cover_by
  cover_wrong p q = ap (cover_by f) (only_wrong (tagged_dec inner t d) s p (tagged_wrong inner t d s p q))

  module _ (b l : ℕ) (q : expected t (header_of s) ≡ Ok (span b l)) where
    end_in_lem : b + l ≤ length s
    end_in_lem = (expected_at t s b l q).2

    pub cover_closed : cover_by f (only_dec (tagged_dec inner t d) s) ≡ covered_by b (b + l) (length s) (cover_by f (d (take l (drop b s))))
    unfolding cover_by covered_by
    cover_closed = go (d (take l (drop b s))) (tagged_at_lem inner t d s b l q)
      where
        on : (a : A) → tagged_dec inner t d s ≡ got a (b + l) → (k : Bool) → eqb (b + l) (length s) ≡ k
            → cover_by f (only_dec (tagged_dec inner t d) s) ≡ cond k (Ok (covered (f a))) (Err (misfit (b + l)))
        on a g true e = ap (cover_by f) (only_fills (tagged_dec inner t d) s a (b + l) g (omega (arith, eqb-true (b + l) (length s) e)))
        on a g false e =
            let ne = eqb-false (b + l) (length s) e in
            ap (cover_by f) (only_left (tagged_dec inner t d) s a (b + l) g (omega (arith, end_in_lem, ne)))

        go : (o : Read A) → tagged_dec inner t d s ≡ attach (inner b) (b + l) o
            → cover_by f (only_dec (tagged_dec inner t d) s) ≡ covered_by b (b + l) (length s) (cover_by f o)
        go (broke p) g = ap (cover_by f) (only_wrong (tagged_dec inner t d) s (b + p) g)
        go (read a) g = on a g (eqb (b + l) (length s)) refl
