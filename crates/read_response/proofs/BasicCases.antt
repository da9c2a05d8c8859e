-- The cases of the readers of a basic response's content and of what follows its signed part.
-- Assumes nothing.
use Prim.Native.Nat.{ℕ, ◌+◌, ◌-◌, ◌≤◌}
use native.Mathlib.Omega.{arith}
use mathlib.Core.Path.{◌≡◌, refl, sym, ap, ◌∙◌}
use mathlib.Core.List.{List}
use Rattle.std.specs.Prelude.{Ok, Err}
use lib.ListN.{length, take, drop, length-drop}
use Rattle.octets.specs.Octets.{Octets}
use Rattle.octets.specs.OctetsLaws.{octets_take, octets_drop}
use Rattle.octets.specs.LentLaws.{Known, known_octets, rest_is, part_is, part_length}
use Rattle.element.specs.Header.{header_of}
use Rattle.element.specs.Places.{misfit}
use Rattle.element.specs.PlacesLaws.{same_place}
use Rattle.element.specs.declared.Misfit.{Misfit}
use Rattle.element.specs.declared.Span.{Span}
use Rattle.codec.specs.Codec.{Read, read, broke}
use Rattle.codec.proofs.CodecLaws.{got_size, whole_size}
use Rattle.codec.specs.Outcome.{attach}
use Rattle.codec.specs.Tagged.{inner, tagged_dec}
use Rattle.codec.specs.Sequence.{field_dec}
use Rattle.codec.specs.Mapped.{mapped_dec}
use Rattle.layout.specs.Reading.{Signed}
use Rattle.layout.specs.Names.{fields_of}
use Rattle.layout.proofs.Format.{signed_body, response_data, basic_body}
use Rattle.read_content.specs.Spots.{expected}
use Rattle.read_content.specs.ExpectLaws.{never, expected_at, tagged_at_lem, tagged_wrong, expected_wrong}
use Rattle.read_basic.specs.Views.{InsideRead, TailRead, version_size, certificates_on, signature_on, algorithm_on, inside_at, inside_signed, tail_of}
use Rattle.read_basic.specs.declared.Inside.{Inside}
use Rattle.read_basic.specs.declared.Tail.{Tail}
use Rattle.read_response.specs.Content.{content_of}
use Rattle.read_response.specs.Placed.{front_at, parts_at, tailed}
use Rattle.read_response.specs.declared.basics.Front.{Front}
use Rattle.read_response.proofs.Sizes.{fields_size, signed_length, inside_end, tail_end, inside_ends, tail_ends, Rest, made, parts_same}

-- ── what follows the signed part, of n octets ──
module _ (s : List ℕ) (n : ℕ) where
  tail_as : (z : TailRead) → tail_of (algorithm_on.dec (take (length s - n) (drop n s))) ≡ z → tail_of (algorithm_on.dec (drop n s)) ≡ z
  tail_as z t = rw (rest_is n s) at t

  module _ (le : n ≤ length s) (known : Known s) where
    tail_in : (z : TailRead) → tail_of (algorithm_on.dec (take (length s - n) (drop n s))) ≡ z → n + tail_end z ≤ length s
    tail_in z t =
        let v = rw (tail_as z t) at (tail_ends (drop n s) (octets_drop n s (known_octets s known))) in
        omega (arith, length-drop n s)

    pub tail_place : (p : Misfit) → tail_of (algorithm_on.dec (take (length s - n) (drop n s))) ≡ Err p → n + p.place ≤ length s
    tail_place p t = tail_in (Err p) t

    pub tail_fits : (v : Tail) → tail_of (algorithm_on.dec (take (length s - n) (drop n s))) ≡ Ok v → n + v.start + v.len ≤ length s
    tail_fits v t = let h = tail_in (Ok v) t in omega arith

module _ (s : List ℕ) (x : Front) where
  pub tail_err : (p : Misfit) → tail_of (algorithm_on.dec (take (length s - x.signed.len) (drop x.signed.len s))) ≡ Err p
      → tailed x (length s) (tail_of (algorithm_on.dec (drop x.signed.len s))) ≡ Err (misfit (x.signed.start + x.signed.len + p.place))
  unfolding tailed
  tail_err p t = rw (tail_as s x.signed.len (Err p) t)

  pub tail_found : (v : Tail) → tail_of (algorithm_on.dec (take (length s - x.signed.len) (drop x.signed.len s))) ≡ Ok v
      → tailed x (length s) (tail_of (algorithm_on.dec (drop x.signed.len s))) ≡ Ok (parts_at x v.algorithm v.start v.len (x.signed.start + length s))
  unfolding tailed
  tail_found v t = rw (tail_as s x.signed.len (Ok v) t)

-- ── the content ──
module _ (s : List ℕ) where
  pub head_place : (p : Misfit) → expected 0x30 (header_of s) ≡ Err p → p.place ≤ length s
  head_place p e = expected_wrong 0x30 s p.place e

  pub basic_err : (at : ℕ) (p : Misfit) → expected 0x30 (header_of s) ≡ Err p → content_of at (basic_body.dec s) ≡ Err (misfit (at + p.place))
  unfolding content_of basic_body response_data mapped_dec field_dec
  basic_err at p e = rw (tagged_wrong inner 0x30 signed_body.dec s p.place e)

  module _ (v : Span) (e : expected 0x30 (header_of s) ≡ Ok v) where
    pub head_end : v.start + v.len ≤ length s
    head_end = (expected_at 0x30 s v.start v.len e).2

    pub held_octets : Known s → Octets (take v.len (drop v.start s))
    held_octets known = octets_take v.len (drop v.start s) (octets_drop v.start s (known_octets s known))

    -- by what the content is read as
    pub tagged_as : {A : Type 0} (d : List ℕ → Read A) (o : Read A) → d (take v.len (drop v.start s)) ≡ o → tagged_dec inner 0x30 d s ≡ attach (inner v.start) (v.start + v.len) o
    tagged_as d o i = tagged_at_lem inner 0x30 d s v.start v.len e ∙ rw i

    -- what the content says, as the code lends it
    inside_as : (y : InsideRead) → inside_signed (signed_body.dec (take (v.start + v.len - v.start) (drop v.start s))) ≡ y
        → inside_signed (signed_body.dec (take v.len (drop v.start s))) ≡ y
    inside_as y c = rw (part_is v.start v.len s) at c

    module _ (known : Known s) where
      inside_in : (y : InsideRead) → inside_signed (signed_body.dec (take (v.start + v.len - v.start) (drop v.start s))) ≡ y → inside_end y ≤ v.len
      inside_in y c = rw (inside_as y c, part_length v.start v.len s head_end) at (inside_ends (take v.len (drop v.start s)) (held_octets known))

      module _ (p : Misfit) (c : inside_signed (signed_body.dec (take (v.start + v.len - v.start) (drop v.start s))) ≡ Err p) where
        pub inside_place : v.start + p.place ≤ length s
        inside_place = let w = inside_in (Err p) c in omega (arith, head_end)

        pub inside_err : (at : ℕ) → content_of at (basic_body.dec s) ≡ Err (misfit (at + v.start + p.place))
        unfolding content_of basic_body response_data mapped_dec field_dec inside_signed inside_at
        inside_err at = go (signed_body.dec (take v.len (drop v.start s))) refl (inside_as (Err p) c)
          where
            go : (o : Read Signed) → signed_body.dec (take v.len (drop v.start s)) ≡ o → inside_signed o ≡ Err p
                → content_of at (basic_body.dec s) ≡ Err (misfit (at + v.start + p.place))
            go (read d) i w = never (cc)
            go (broke j) i w =
                let h : j ≡ p.place = same_place w in
                let k : at + (v.start + j) ≡ at + v.start + p.place = omega arith in
                rw (tagged_as signed_body.dec (broke j) i, k)

      module _ (n : Inside) (c : inside_signed (signed_body.dec (take (v.start + v.len - v.start) (drop v.start s))) ≡ Ok n) where
        pub front_fits : v.start + n.from + n.start + n.len ≤ v.start + v.len
        front_fits = let h = inside_in (Ok n) c in omega arith

        module _ (at : ℕ) (z : Front) (w : z ≡ front_at at (v.start + n.from) (v.start + v.len) n.responder n.start n.len n.count) where
          -- by what the content and the rest are read as
          both : (d : Signed) → signed_body.dec (take v.len (drop v.start s)) ≡ read d → (o : Read Rest) → algorithm_on.dec (drop (v.start + v.len) s) ≡ o
              → content_of at (basic_body.dec s) ≡ tailed (front_at at (v.start + n.from) (v.start + v.len) n.responder n.start n.len n.count) (length s) (tail_of o)
          unfolding content_of basic_body response_data mapped_dec field_dec algorithm_on signature_on certificates_on tailed tail_of inside_signed inside_at
          both d i (broke p) h =
              let j : at + (v.start + v.len + p) ≡ at + (v.start + v.len) + p = omega arith in
              rw (tagged_as signed_body.dec (read d) i, h, j)
          both d i (read u) h =
              let signed = tagged_as signed_body.dec (read d) i in
              let all : basic_body.dec s ≡ read (made d u) = rw (signed, h) in
              let whole = got_size response_data s d (v.start + v.len) (known_octets s known) signed in
              let size = whole_size signed_body (take v.len (drop v.start s)) d (held_octets known) i ∙ part_length v.start v.len s head_end in
              let same : inside_signed (read d) ≡ Ok n = ap inside_signed (sym i) ∙ inside_as (Ok n) c in
              let skipped : n.from ≡ version_size d = let f : inside_at (version_size d) (fields_of d) ≡ n = cc in sym (ap (λ (x : Inside). x.from) f) in
              let held : v.start + n.from + fields_size d ≡ v.start + v.len = omega (arith, signed_length d) in
              ap (content_of at) all
              ∙ sym (parts_same d u at (v.start + n.from) (v.start + v.len) (length s) n.from n.responder n.start n.len n.count same whole held
              (whole_size basic_body s (made d u) (known_octets s known) all))

          pub body_found : content_of at (basic_body.dec s) ≡ tailed z (length s) (tail_of (algorithm_on.dec (drop z.signed.len s)))
          unfolding inside_signed
          body_found = rw w (go (signed_body.dec (take v.len (drop v.start s))) refl (inside_as (Ok n) c))
            where
              go : (o : Read Signed) → signed_body.dec (take v.len (drop v.start s)) ≡ o → inside_signed o ≡ Ok n
                  → content_of at (basic_body.dec s) ≡ tailed (front_at at (v.start + n.from) (v.start + v.len) n.responder n.start n.len n.count) (length s) (tail_of (algorithm_on.dec (drop (v.start + v.len) s)))
              go (broke j) i h = never (cc)
              go (read d) i h = both d i (algorithm_on.dec (drop (v.start + v.len) s)) refl

pub ruleset tail_cases = (tail_place, tail_fits, tail_err, tail_found)

pub ruleset body_cases = (head_place, head_end, basic_err, inside_place, inside_err, front_fits, body_found)
