-- The cases of the reader of the entries' sequence and maybe extensions.
-- Assumes nothing.
use Prim.Native.Nat.{ℕ, ◌+◌, ◌-◌, ◌≤◌}
use native.Mathlib.Omega.{arith}
use mathlib.Core.Path.{◌≡◌, refl, ap, ◌∙◌}
use mathlib.Core.List.{List}
use Rattle.std.specs.Prelude.{Result, Ok, Err}
use lib.ListN.{length, take, drop, length-drop}
use Rattle.octets.specs.OctetsLaws.{octets_take, octets_drop}
use Rattle.octets.specs.LentLaws.{Known, known_octets, rest_is, part_is, part_length}
use Rattle.element.specs.Header.{header_of}
use Rattle.element.specs.Places.{misfit}
use Rattle.element.specs.PlacesLaws.{same_place}
use Rattle.element.specs.declared.Misfit.{Misfit}
use Rattle.element.specs.declared.Span.{Span}
use Rattle.codec.specs.Codec.{Read, read, broke, got}
use Rattle.codec.proofs.CodecLaws.{got_size, whole_size}
use Rattle.codec.specs.Tagged.{inner}
use Rattle.codec.specs.Many.{many_dec}
use Rattle.codec.proofs.Many.{many}
use Rattle.codec.specs.Sequence.{field_dec}
use Rattle.codec.specs.Steps.{Fit}
use Rattle.codec.specs.Views.{fit_of}
use Rattle.codec.proofs.ViewLaws.{fit_fits, fit_breaks}
use Rattle.layout.specs.Reading.{Entry}
use Rattle.layout.proofs.Format.{single_response, responses}
use Rattle.read_content.specs.Spots.{expected}
use Rattle.read_content.specs.ExpectLaws.{never, expected_at, tagged_at_lem, tagged_wrong}
use Rattle.read_entry.specs.Counts.{count_of}
use Rattle.read_ending.specs.Ends.{extensions_on}
use Rattle.read_basic.specs.Views.{listed, responses_on, listed_of, entries_length}

count_broke : (o : Read (List Entry)) (p : ℕ) → count_of o ≡ Err (misfit p) → o ≡ broke p
unfolding count_of
count_broke (broke j) p e = let i : j ≡ p = same_place e in ap broke i
count_broke (read m) p e = never (cc)

count_read : (o : Read (List Entry)) (k : ℕ) → count_of o ≡ Ok k → (m : List Entry) × (o ≡ read m) × (length m ≡ k)
unfolding count_of
count_read (broke j) k e = never (cc)
count_read (read m) k e = (m, refl, cc)

-- the entries, by their octets
abbrev entries_dec : List ℕ → Read (List Entry)
entries_dec = (many 0 64 single_response).dec

module _ (s : List ℕ) where
  pub entries_err : (p : Misfit) → expected 0x30 (header_of s) ≡ Err p → listed_of (responses_on.dec s) ≡ Err p
  unfolding listed_of responses_on responses field_dec
  entries_err p f = rw (tagged_wrong inner 0x30 (many_dec single_response.dec 0 64) s p.place f)

  module _ (v : Span) (f : expected 0x30 (header_of s) ≡ Ok v) where
    pub entries_end : v.start + v.len ≤ length s
    entries_end = (expected_at 0x30 s v.start v.len f).2

    -- the entries, as the code lends them
    entries_as : (o : Result ℕ Misfit) → count_of ((many 0 64 single_response).dec (take (v.start + v.len - v.start) (drop v.start s))) ≡ o
        → count_of (entries_dec (take v.len (drop v.start s))) ≡ o
    entries_as o c = rw (part_is v.start v.len s) at c

    module _ (p : Misfit) (c : count_of ((many 0 64 single_response).dec (take (v.start + v.len - v.start) (drop v.start s))) ≡ Err p) where
      broken : entries_dec (take v.len (drop v.start s)) ≡ broke p.place
      broken = count_broke (entries_dec (take v.len (drop v.start s))) p.place (entries_as (Err p) c)

      pub entries_place_lem : v.start + p.place ≤ length s
      entries_place_lem =
          let w = (many 0 64 single_response).within (take v.len (drop v.start s)) p.place broken in
          omega (arith, entries_end, part_length v.start v.len s entries_end)

      pub entries_broken : listed_of (responses_on.dec s) ≡ Err (misfit (v.start + p.place))
      unfolding listed_of responses_on responses field_dec
      entries_broken = rw (tagged_at_lem inner 0x30 (many_dec single_response.dec 0 64) s v.start v.len f, broken)

    module _ (k : ℕ) (c : count_of ((many 0 64 single_response).dec (take (v.start + v.len - v.start) (drop v.start s))) ≡ Ok k) where
      entries_read : (m : List Entry) × (entries_dec (take v.len (drop v.start s)) ≡ read m) × (length m ≡ k)
      entries_read = count_read (entries_dec (take v.len (drop v.start s))) k (entries_as (Ok k) c)

      responses_got : responses.dec s ≡ got entries_read.0 (v.start + v.len)
      unfolding responses
      responses_got = tagged_at_lem inner 0x30 (many_dec single_response.dec 0 64) s v.start v.len f ∙ rw entries_read.1

      -- what follows them, as the code lends it
      more_as : (z : Fit) → fit_of (extensions_on.dec (take (length s - (v.start + v.len)) (drop (v.start + v.len) s))) ≡ z
          → fit_of (extensions_on.dec (drop (v.start + v.len) s)) ≡ z
      more_as z d = rw (rest_is (v.start + v.len) s) at d

      module _ (p : Misfit) (d : fit_of (extensions_on.dec (take (length s - (v.start + v.len)) (drop (v.start + v.len) s))) ≡ Err p) where
        more_bad : (extensions_on.dec (drop (v.start + v.len) s) ≡ broke p.place) × (p.place ≤ length (drop (v.start + v.len) s))
        more_bad = fit_breaks extensions_on (drop (v.start + v.len) s) p.place (more_as (Err p) d)

        pub more_place : v.start + v.len + p.place ≤ length s
        more_place = omega (arith, more_bad.1, entries_end, length-drop (v.start + v.len) s)

        pub more_broken : listed_of (responses_on.dec s) ≡ Err (misfit (v.start + v.len + p.place))
        unfolding listed_of responses_on field_dec
        more_broken = rw (responses_got, more_bad.0)

      pub entries_found : Known s → (u : Unit) → fit_of (extensions_on.dec (take (length s - (v.start + v.len)) (drop (v.start + v.len) s))) ≡ Ok u
          → listed_of (responses_on.dec s) ≡ Ok (listed v.start v.len k)
      unfolding listed_of responses_on field_dec
      entries_found w u d =
          let o = known_octets s w in
          let m = entries_read.0 in
          let size = got_size responses s m (v.start + v.len) o responses_got in
          let held = whole_size (many 0 64 single_response) (take v.len (drop v.start s)) m (octets_take v.len (drop v.start s) (octets_drop v.start s o)) entries_read.1 in
          let long : entries_length m ≡ v.len = held ∙ part_length v.start v.len s entries_end in
          let i : v.start + v.len - v.len ≡ v.start = omega arith in
          rw (responses_got, (fit_fits extensions_on (drop (v.start + v.len) s) (more_as (Ok u) d)).1, size, long, i, entries_read.2)

pub ruleset list_cases = (entries_err, entries_end, entries_place_lem, entries_broken, more_place, more_broken, entries_found)
