-- The cases of an element that fills what is left of a part, and the two such elements around a list of
-- extensions. Premises are the facts that code has after a call of `expect`.
-- inside_wrong, inside_first, inside_last, inside_more, inside_there; around_list.
-- Assumes nothing.
use Prim.Native.Nat.{ℕ, ◌+◌, ◌-◌, ◌^◌, ◌≤◌, ◌<◌}
use native.Mathlib.Omega.{arith}
use mathlib.Core.Path.{◌≡◌, refl, sym, ◌∙◌}
use mathlib.Core.List.{List}
use Rattle.std.specs.Prelude.{Option, Ok, Err}
use lib.ListN.{length, take, drop, length-drop, drop_of_length-le}
use lib.Seq.{take_all, drop-length, drop-drop}
use mir.Syntax.{w64}
use mir.Val.{Fits}
use Rattle.octets.specs.LentLaws.{rest_is}
use Rattle.element.specs.Places.{Spot, misfit}
use Rattle.element.specs.declared.Misfit.{Misfit}
use Rattle.element.specs.declared.Span.{Span}
use Rattle.element.specs.Header.{header_of}
use Rattle.element.specs.HeaderLaws.{header_empty}
use Rattle.codec.specs.Codec.{Read, read, broke}
use Rattle.codec.specs.Outcome.{attach}
use Rattle.codec.specs.Tagged.{inner, tagged_dec}
use Rattle.codec.specs.Mapped.{mapped_dec}
use Rattle.codec.specs.Each.{each_dec}
use Rattle.codec.specs.Sequence.{end_dec, field_dec, only_dec}
use Rattle.codec.specs.Views.{fit_of}
use Rattle.codec.proofs.ViewLaws.{fit_only_bad, fit_only_left}
use Rattle.layout.specs.Reading.{Extension}
use Rattle.layout.proofs.Format.{extension_list, extensions}
use Rattle.read_content.specs.Spots.{expected}
use Rattle.read_content.specs.ExpectLaws.{expected_at, tagged_at_lem, tagged_wrong}
use Rattle.read_critical.specs.Strange.{strange_read, strange_of, HeldFrom}
use Rattle.read_critical.specs.StrangeLaws.{strange_broke}

-- ── one element ──
module _ (s : List ℕ) (at t : ℕ) where
  -- it is refused, whatever it holds: nothing is found in it, and nothing at the end
  inside_none : ((d : List ℕ → Read (List Extension)) → (k : ℕ) × (fit_of (only_dec (tagged_dec inner t d) (drop at s)) ≡ Err (misfit k))) → HeldFrom s at t (length s)
  inside_none h = record {
    le = omega arith;
    same = λ known d e. strange_broke known s (only_dec (tagged_dec inner t d) (drop at s)) (h d).0 (h d).1 ∙ rw (drop-length s) (sym e);
  }

  module _ (le : at ≤ length s) (r : Spot) (q : r ≡ expected t (header_of (take (length s - at) (drop at s)))) where
    here : expected t (header_of (drop at s)) ≡ r
    here = rw (rest_is at s) at (sym q)

    pub inside_wrong : (p : Misfit) → r ≡ Err p → HeldFrom s at t (length s)
    inside_wrong p f =
        inside_none (λ d. (p.place, fit_only_bad (tagged_dec inner t d) (drop at s) p.place (tagged_wrong inner t d (drop at s) p.place (here ∙ f))))

    module _ (v : Span) (f : r ≡ Ok v) where
      ends : at + v.start + v.len ≤ length s
      ends = omega (arith, (expected_at t (drop at s) v.start v.len (here ∙ f)).2, length-drop at s)

      pub inside_first : length s < 2 ^ 64 → Fits w64 (at + v.start)
      inside_first z = record { fits = omega (arith, ends) }

      pub inside_last : length s < 2 ^ 64 → Fits w64 (at + v.start + v.len)
      inside_last z = record { fits = omega (arith, ends) }

      -- how it is read, by what it holds
      its : (d : List ℕ → Read (List Extension)) → tagged_dec inner t d (drop at s) ≡ attach (inner v.start) (v.start + v.len) (d (take v.len (drop v.start (drop at s))))
      its d = tagged_at_lem inner t d (drop at s) v.start v.len (here ∙ f)

      pub inside_more : (at + v.start + v.len ≡ length s → ⊥) → HeldFrom s at t (length s)
      inside_more ne = inside_none (λ d. go d (d (take v.len (drop v.start (drop at s)))) refl)
        where
          go : (d : List ℕ → Read (List Extension)) (x : Read (List Extension)) → d (take v.len (drop v.start (drop at s))) ≡ x
              → (k : ℕ) × (fit_of (only_dec (tagged_dec inner t d) (drop at s)) ≡ Err (misfit k))
          go d (broke p) e = (v.start + p, fit_only_bad (tagged_dec inner t d) (drop at s) (v.start + p) (its d ∙ rw e))
          go d (read a) e =
              let lt : v.start + v.len < length (drop at s) = omega (arith, ends, length-drop at s) in
              (v.start + v.len, fit_only_left (tagged_dec inner t d) (drop at s) a (v.start + v.len) (its d ∙ rw e) lt)

      module _ (full : at + v.start + v.len ≡ length s) where
        content_is : take v.len (drop v.start (drop at s)) ≡ drop (at + v.start) s
        content_is = rw (drop-drop v.start at s) (take_all v.len (drop (at + v.start) s) (simp length-drop (omega arith)))

        filled : (known : List (List ℕ)) (d : List ℕ → Read (List Extension))
            → strange_read known s (only_dec (tagged_dec inner t d) (drop at s)) ≡ strange_read known s (d (drop (at + v.start) s))
        unfolding only_dec mapped_dec field_dec end_dec strange_read
        filled known d = rw (its d, content_is) (go (d (drop (at + v.start) s)))
          where
            go : (x : Read (List Extension)) → strange_read known s (only_dec (λ _. attach (inner v.start) (v.start + v.len) x) (drop at s)) ≡ strange_read known s x
            go (broke p) = refl
            go (read a) = let le : length (drop at s) ≤ v.start + v.len = simp length-drop (omega arith) in rw (drop_of_length-le (drop at s) le)

        pub inside_there : HeldFrom s at t (at + v.start)
        inside_there = record { le = omega arith; same = λ known d e. filled known d }

-- ── the two around a list ──
pub around_list : (known : List (List ℕ)) (s : List ℕ) (m n : ℕ) → HeldFrom s 0 0xa1 m → HeldFrom s m 0x30 n → (x : Option ℕ)
    → x ≡ strange_read known s (extension_list.dec (drop n s)) → x ≡ strange_of known s
unfolding strange_of strange_read extensions extension_list each_dec only_dec mapped_dec field_dec tagged_dec
around_list known s m n u v x q =
    q ∙ sym (u.same known (only_dec (tagged_dec inner 0x30 extension_list.dec)) (rw header_empty) ∙ v.same known extension_list.dec refl)
