-- The cases of the contents that stay octets: an OID, a string, a bit string.
-- octets_pass, octets_fail, in oid_cases; string_short, string_long, string_fits, in string_cases; bits_few,
-- bits_place, bits_start, bits_unused, bits_whole, in bits_cases; any_octets.
-- Assumes nothing.
use Rattle.std.specs.Prelude.{ℕ, ◌+◌, ◌-◌, ◌^◌, ◌≤◌, ◌<◌, ◌≡◌, refl, Bool, true, false, List, [], ◌∷◌, length, get_or, take, drop, Ok, Err}
use Rattle.std.proofs.Common.{arith, sym, ap, ◌∙◌, length-drop, Fits}
use Rattle.std.proofs.Math.Option.{none, some}
use Rattle.std.specs.Int.{w64}
use borrow.Author.Tests.{eq-eqb, ne_eqb, le-leb, lt-leb}
use Rattle.octets.specs.LentLaws.{part_is}
use Rattle.element.specs.Header.{header_of}
use Rattle.element.specs.Places.{Spot, misfit, span}
use Rattle.element.specs.declared.Span.{Span}
use Rattle.codec.specs.Tagged.{own, tagged_dec}
use Rattle.codec.specs.Contents.{octets_read, filled_dec}
use Rattle.layout.specs.Words.{between, anything, bits_read}
use Rattle.read_content.specs.Spots.{expected, spot_of}
use Rattle.read_content.specs.ExpectLaws.{content_first, content_end, content_sum, content_length}
use Rattle.read_content.specs.PrimitiveCaseLaws.{element_none, element_some, wrong_spot}

few_bits : (c : List ℕ) → length c < 2 → bits_read c ≡ none
unfolding bits_read
few_bits [] h = refl
few_bits (x ∷ []) h = refl
few_bits (x ∷ y ∷ c) h = absurd (omega arith)

unused_bits : (c : List ℕ) → (get_or c 0 0 ≡ 0 → ⊥) → bits_read c ≡ none
unfolding bits_read
unused_bits [] o = refl
unused_bits (x ∷ []) o = refl
unused_bits (x ∷ y ∷ c) o = rw (ne_eqb x 0 o)

whole_bits : (c : List ℕ) → 2 ≤ length c → get_or c 0 0 ≡ 0 → bits_read c ≡ some (drop 1 c)
unfolding bits_read
whole_bits [] h o = absurd (omega arith)
whole_bits (x ∷ []) h o = absurd (omega arith)
whole_bits (x ∷ y ∷ c) h o = rw (eq-eqb x 0 o)

module _ (t : ℕ) (s : List ℕ) (r : Spot) (q : r ≡ expected t (header_of s)) where
  module _ (v : Span) (f : r ≡ Ok v) where
    -- octets that pass a test, or fail it
    module _ (test : List ℕ → Bool) where
      test_passed : test (take v.len (drop v.start s)) ≡ true → Ok v ≡ spot_of (tagged_dec own t (filled_dec (octets_read test)) s)
      unfolding spot_of octets_read
      test_passed e =
          let n = content_length t s r q v f in
          let m : v.start + v.len - v.len ≡ v.start = omega arith in
          sym (ap spot_of (element_some t s r q (octets_read test) v f (take v.len (drop v.start s)) (rw e)) ∙ rw (n, m))

      test_failed : test (take v.len (drop v.start s)) ≡ false → Err (misfit 0) ≡ spot_of (tagged_dec own t (filled_dec (octets_read test)) s)
      unfolding spot_of octets_read
      test_failed e = rw (element_none t s r q (octets_read test) v f (rw e))

      module _ (z : Bool) (d : z ≡ test (take (v.start + v.len - v.start) (drop v.start s))) where
        pub octets_pass : z ≡ true → Ok v ≡ spot_of (tagged_dec own t (filled_dec (octets_read test)) s)
        octets_pass y = test_passed (rw (part_is v.start v.len s, y) at (sym d))

        pub octets_fail : z ≡ false → Err (misfit 0) ≡ spot_of (tagged_dec own t (filled_dec (octets_read test)) s)
        octets_fail y = test_failed (rw (part_is v.start v.len s, y) at (sym d))

    -- a string within its limits, or not
    module _ (lo hi : ℕ) where
      pub string_short : v.len < lo → Err (misfit 0) ≡ spot_of (tagged_dec own t (filled_dec (octets_read (between lo hi))) s)
      unfolding between
      string_short y = test_failed (between lo hi) (rw (content_length t s r q v f, lt-leb lo v.len y))

      module _ (least : lo ≤ v.len) where
        pub string_long : hi < v.len → Err (misfit 0) ≡ spot_of (tagged_dec own t (filled_dec (octets_read (between lo hi))) s)
        unfolding between
        string_long y = test_failed (between lo hi) (rw (content_length t s r q v f, le-leb lo v.len least, lt-leb v.len hi y))

        pub string_fits : v.len ≤ hi → Ok v ≡ spot_of (tagged_dec own t (filled_dec (octets_read (between lo hi))) s)
        unfolding between
        string_fits y = test_passed (between lo hi) (rw (content_length t s r q v f, le-leb lo v.len least, le-leb v.len hi y))

    -- a bit string of whole octets, or not
    pub bits_few : v.len < 2 → Err (misfit 0) ≡ spot_of (tagged_dec own t (filled_dec bits_read) s)
    unfolding spot_of
    bits_few y = rw (element_none t s r q bits_read v f (few_bits (take v.len (drop v.start s)) (omega (arith, content_length t s r q v f))))

    module _ (y : 2 ≤ v.len) where
      pub bits_place : v.start < length s
      bits_place = omega (arith, content_end t s r q v f)

      pub bits_start : length s < 2 ^ 64 → Fits w64 (v.start + 1)
      bits_start z = record { fits = omega (arith, content_end t s r q v f) }

      pub bits_unused : (get_or s v.start 0 ≡ 0 → ⊥) → Err (misfit 0) ≡ spot_of (tagged_dec own t (filled_dec bits_read) s)
      unfolding spot_of
      bits_unused o =
          rw (element_none t s r q bits_read v f
          (unused_bits (take v.len (drop v.start s)) (λ e. o (sym (content_first v.start v.len s (omega arith)) ∙ e))))

      pub bits_whole : get_or s v.start 0 ≡ 0 → Ok (span (v.start + 1) (v.len - 1)) ≡ spot_of (tagged_dec own t (filled_dec bits_read) s)
      unfolding spot_of
      bits_whole o =
          let c = take v.len (drop v.start s) in
          let n = content_length t s r q v f in
          let k : length (drop 1 c) ≡ v.len - 1 = length-drop 1 c ∙ rw n in
          let m : v.start + v.len - (v.len - 1) ≡ v.start + 1 = omega arith in
          sym (ap spot_of (element_some t s r q bits_read v f (drop 1 c)
          (whole_bits c (omega arith) (content_first v.start v.len s (omega arith) ∙ o))) ∙ rw (k, m))

  -- any octets
  pub any_octets : r ≡ spot_of (tagged_dec own t (filled_dec (octets_read anything)) s)
  any_octets = go r refl
    where
      go : (x : Spot) → r ≡ x → r ≡ spot_of (tagged_dec own t (filled_dec (octets_read anything)) s)
      go (Ok v) f = f ∙ test_passed v f anything refl
      go (Err p) f = f ∙ wrong_spot t s r q (octets_read anything) p f

pub ruleset oid_cases = (content_end, content_sum, wrong_spot, octets_pass, octets_fail)

pub ruleset string_cases = (wrong_spot, string_short, string_long, string_fits)

pub ruleset bits_cases = (wrong_spot, bits_few, bits_place, bits_start, bits_unused, bits_whole)
