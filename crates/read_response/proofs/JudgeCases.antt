-- The cases of the reader of the basic response, and of the response as a whole.
-- Assumes nothing.
use Prim.Native.Nat.{ℕ, ◌+◌, ◌-◌, ◌≤◌, ◌<◌}
use native.Mathlib.Omega.{arith}
use mathlib.Core.Path.{◌≡◌, refl, sym, ap, ◌∙◌}
use mathlib.Core.Bool.{Bool, true, false}
use mathlib.Core.List.{List}
use Rattle.std.specs.Prelude.{Result, Ok, Err}
use lib.ListN.{length, take, drop, length-drop}
use borrow.Author.Tests.{lt-ltb, le-ltb}
use Rattle.octets.specs.Same.{same_of}
use Rattle.octets.specs.LentLaws.{Known, known_octets, rest_is, part_is, part_length}
use Rattle.element.specs.Header.{header_of}
use Rattle.element.specs.Places.{misfit}
use Rattle.element.specs.declared.Misfit.{Misfit}
use Rattle.element.specs.declared.Span.{Span}
use Rattle.codec.specs.Codec.{Read, read, broke, got}
use Rattle.codec.specs.Tagged.{inner, tagged_dec}
use Rattle.codec.proofs.CodecLaws.{whole_size}
use Rattle.layout.specs.Reading.{Basic}
use Rattle.layout.specs.Names.{Envelope, failure, success}
use Rattle.layout.proofs.Format.{basic_body, basic_response, envelope}
use Rattle.layout.specs.Read.{basic_type, inner_reading}
use Rattle.layout.proofs.Read.{envelope_reading, reading}
use Rattle.layout.proofs.InnerLaws.{string_read}
use Rattle.layout.proofs.Theorem.{inner_place}
use Rattle.read_content.specs.Spots.{expected}
use Rattle.read_content.specs.ExpectLaws.{never, tagged_wrong}
use Rattle.read_envelope.specs.Cover.{cover_of}
use Rattle.read_envelope.proofs.CoverLaws.{only_wrong, only_fills, only_left, cover_broken, cover_failed, cover_holds}
use Rattle.read_envelope.specs.declared.Cover.{Cover}
use Rattle.read_envelope.specs.declared.Cover.TheVariants as cover
use Rattle.read_response.specs.Parts.{parts_from, judged_as, judged_of}
use Rattle.read_response.specs.Content.{content_of}
use Rattle.read_response.specs.declared.Parts.{Parts}
use Rattle.read_response.specs.declared.Unread.TheVariants as unread
use Rattle.read_response.specs.Judged.{Judged}
use Rattle.read_response.proofs.BasicCases.{head_place, head_end, held_octets, tagged_as}

-- ── what the answer for the content tells ──
body_broke : (at : ℕ) (o : Read Basic) (p : Misfit) → content_of at o ≡ Err p → (j : ℕ) × (o ≡ broke j) × (at + j ≡ p.place)
unfolding content_of
body_broke at (broke j) p e = (j, refl, cc)
body_broke at (read b) p e = never (cc)

body_read : (at : ℕ) (o : Read Basic) (t : Parts) → content_of at o ≡ Ok t → (b : Basic) × (o ≡ read b) × (parts_from at b ≡ t)
unfolding content_of
body_read at (broke j) t e = never (cc)
body_read at (read b) t e = (b, refl, cc)

-- ── the basic response, which starts at a place ──
module _ (s : List ℕ) (from : ℕ) where
  pub string_err : (p : Misfit) → expected 0x30 (header_of s) ≡ Err p
      → judged_as (from + length s) (inner_reading from (basic_response.dec s)) ≡ Err (unread.Unfit (misfit (from + p.place)))
  unfolding judged_as basic_response
  string_err p f = rw (only_wrong (tagged_dec inner 0x30 basic_body.dec) s p.place (tagged_wrong inner 0x30 basic_body.dec s p.place f))

  module _ (v : Span) (f : expected 0x30 (header_of s) ≡ Ok v) where
    pub body_length : length (take (v.start + v.len - v.start) (drop v.start s)) ≡ v.len
    body_length = rw (part_is v.start v.len s) (part_length v.start v.len s (head_end s v f))

    -- what the content says, as the code lends it
    body_as : (y : Result Parts Misfit) → content_of (from + v.start) (basic_body.dec (take (v.start + v.len - v.start) (drop v.start s))) ≡ y
        → content_of (from + v.start) (basic_body.dec (take v.len (drop v.start s))) ≡ y
    body_as y c = rw (part_is v.start v.len s) at c

    pub body_err : (p : Misfit) → content_of (from + v.start) (basic_body.dec (take (v.start + v.len - v.start) (drop v.start s))) ≡ Err p
        → judged_as (from + length s) (inner_reading from (basic_response.dec s)) ≡ Err (unread.Unfit p)
    unfolding judged_as basic_response
    body_err p c =
        let (j, e, i) = body_broke (from + v.start) (basic_body.dec (take v.len (drop v.start s))) p (body_as (Err p) c) in
        let k : from + (v.start + j) ≡ p.place = omega arith in
        rw (only_wrong (tagged_dec inner 0x30 basic_body.dec) s (v.start + j) (tagged_as s v f basic_body.dec (broke j) e))
        (ap (λ (n : ℕ). Err (unread.Unfit (misfit n))) k)

    module _ (t : Parts) (c : content_of (from + v.start) (basic_body.dec (take (v.start + v.len - v.start) (drop v.start s))) ≡ Ok t) where
      reads_as : (d : Basic) × (basic_body.dec (take v.len (drop v.start s)) ≡ read d) × (parts_from (from + v.start) d ≡ t)
      reads_as = body_read (from + v.start) (basic_body.dec (take v.len (drop v.start s))) t (body_as (Ok t) c)

      tagged_got : tagged_dec inner 0x30 basic_body.dec s ≡ got reads_as.0 (v.start + v.len)
      tagged_got = tagged_as s v f basic_body.dec (read reads_as.0) reads_as.1

      pub body_fills : Known s → v.start + v.len ≡ length s → judged_as (from + length s) (inner_reading from (basic_response.dec s)) ≡ Ok t
      unfolding judged_as basic_response
      body_fills known i =
          let le : length s ≤ v.start + v.len = omega arith in
          let size = whole_size basic_body (take v.len (drop v.start s)) reads_as.0 (held_octets s v f known) reads_as.1 ∙ part_length v.start v.len s (head_end s v f) in
          let at : from + length s - v.len ≡ from + v.start = omega arith in
          rw (only_fills (tagged_dec inner 0x30 basic_body.dec) s reads_as.0 (v.start + v.len) tagged_got le, size, at, reads_as.2)

      pub body_left : (v.start + v.len ≡ length s → ⊥)
          → judged_as (from + length s) (inner_reading from (basic_response.dec s)) ≡ Err (unread.Unfit (misfit (from + (v.start + v.len))))
      unfolding judged_as basic_response
      body_left n =
          let lt : v.start + v.len < length s = omega (arith, head_end s v f) in
          rw (only_left (tagged_dec inner 0x30 basic_body.dec) s reads_as.0 (v.start + v.len) tagged_got lt)

-- ── the response as a whole ──
module _ (s : List ℕ) where
  pub too_long : 16384 < length s → judged_of s ≡ Err unread.TooLong
  unfolding judged_of
  too_long lt = rw (lt-ltb 16384 (length s) lt)

  -- by what the envelope is read as
  by_envelope : length s ≤ 16384 → (o : Read Envelope) → envelope.dec s ≡ o → judged_of s ≡ judged_as (length s) (envelope_reading s o)
  unfolding judged_of reading
  by_envelope le o e = rw (le-ltb 16384 (length s) le, e)

  pub envelope_err : length s ≤ 16384 → (p : Misfit) → cover_of (envelope.dec s) ≡ Err p → judged_of s ≡ Err (unread.Unfit p)
  unfolding judged_as
  envelope_err le p f = by_envelope le (broke p.place) (cover_broken (λ v. v) (envelope.dec s) p.place f)

  pub envelope_failed : length s ≤ 16384 → (n : ℕ) → cover_of (envelope.dec s) ≡ Ok (cover.Failed n) → judged_of s ≡ Err (unread.Failed n)
  unfolding judged_as
  envelope_failed le n f =
      let (v, e, i) = cover_failed (λ v. v) (envelope.dec s) n f in
      by_envelope le (read (failure n)) (e ∙ ap read i)

  -- a successful one, by its type and string
  module _ (le : length s ≤ 16384) (t c : List ℕ) (e : envelope.dec s ≡ read (success t c)) where
    other_type_lem : same_of t basic_type ≡ false → judged_of s ≡ Err unread.OtherType
    unfolding judged_as
    other_type_lem k = by_envelope le (read (success t c)) e ∙ rw k

    basic_type_lem : Known s → same_of t basic_type ≡ true → (n : ℕ) → length c ≡ n
        → judged_of s ≡ judged_as (length s) (inner_reading (length s - n) (basic_response.dec (drop (length s - n) s)))
    basic_type_lem known k n i =
        let j : c ≡ drop (length s - n) s = rw (← i) (inner_place s t c (known_octets s known) e) in
        rw (← i) (by_envelope le (read (success t c)) e ∙ rw k)
        ∙ ap (λ (r : List ℕ). judged_as (length s) (inner_reading (length s - n) (basic_response.dec r))) j

  module _ (b : Bool) (n : ℕ) (f : cover_of (envelope.dec s) ≡ Ok (cover.Holds b n)) where
    held : (t : List ℕ) × (c : List ℕ) × (envelope.dec s ≡ read (success t c)) × (same_of t basic_type ≡ b) × (length c ≡ n)
    held =
        let (v, t, c, e, i, k, j) = cover_holds (λ v. v) (envelope.dec s) b n f in
        (t, c, e ∙ ap read i, k, j)

    pub string_inside : n ≤ length s
    string_inside = omega (arith, string_read s held.0 held.1 held.2, held.4)

    -- the string, as the code lends it, ends where the response does
    pub string_ends : length s - n + length (take (length s - (length s - n)) (drop (length s - n) s)) ≡ length s
    string_ends = rw (rest_is (length s - n) s) (simp length-drop (omega (arith, string_inside)))

    module _ (le : length s ≤ 16384) where
      pub type_other : b ≡ false → judged_of s ≡ Err unread.OtherType
      type_other i = other_type_lem le held.0 held.1 held.2 (held.3 ∙ i)

      pub type_basic : Known s → b ≡ true → judged_of s
          ≡ judged_as (length s - n + length (take (length s - (length s - n)) (drop (length s - n) s)))
          (inner_reading (length s - n) (basic_response.dec (take (length s - (length s - n)) (drop (length s - n) s))))
      type_basic known i = rw (string_ends, rest_is (length s - n) s) (basic_type_lem le held.0 held.1 held.2 known (held.3 ∙ i) n held.4)

pub ruleset basic_cases = (head_place, head_end, string_err, body_length, body_err, body_fills, body_left)

pub ruleset whole_cases = (too_long, envelope_err, envelope_failed, string_inside, string_ends, type_other, type_basic)
