-- The cases of the reader of the type and the string.
-- Assumes nothing.
use Prim.Native.Nat.{ℕ, ◌+◌, ◌-◌, ◌≤◌, ◌<◌}
use native.Mathlib.Omega.{arith}
use mathlib.Core.Path.{◌≡◌}
use mathlib.Core.List.{List}
use Rattle.std.specs.Prelude.{Ok, Err}
use lib.ListN.{length, take, drop, length-drop}
use Rattle.octets.specs.Same.{same_of}
use Rattle.octets.specs.LentLaws.{rest_is, part_is}
use Rattle.element.specs.Places.{misfit, Spot}
use Rattle.element.specs.declared.Misfit.{Misfit}
use Rattle.element.specs.declared.Span.{Span}
use Rattle.codec.specs.Codec.{got, bad}
use Rattle.codec.specs.Sequence.{field_dec}
use Rattle.layout.specs.Words.{anything}
use Rattle.layout.proofs.ElementKinds.{oid, string}
use Rattle.layout.specs.Read.{basic_type}
use Rattle.read_content.specs.Spots.{spot_of}
use Rattle.read_content.specs.LastLaws.{last_oid, last_string}
use Rattle.read_content.specs.SpotLaws.{spot_reads, spot_wrong}
use Rattle.read_envelope.specs.Cover.{type_string, covered, cover_by, bytes_of}
use Rattle.read_envelope.proofs.CoverLaws.{only_wrong, only_fills, only_left}
use Rattle.read_envelope.specs.declared.Cover.TheVariants as cover

module _ (s : List ℕ) where
  pub type_err : (p : Misfit) → spot_of (oid.dec s) ≡ Err p → bytes_of (type_string.dec s) ≡ Err p
  unfolding cover_by type_string field_dec
  type_err p e = rw (spot_wrong oid s p.place e).0

  module _ (v : Span) (e : spot_of (oid.dec s) ≡ Ok v) where
    type_got : (oid.dec s ≡ got (take v.len (drop v.start s)) (v.start + v.len)) × (length (take v.len (drop v.start s)) ≡ v.len) × (v.start + v.len ≤ length s)
    type_got = spot_reads oid last_oid s v.start v.len e

    pub type_end : v.start + v.len ≤ length s
    type_end = type_got.2

    -- what follows the type, as the code lends it
    abbrev after : List ℕ
    after = take (length s - (v.start + v.len)) (drop (v.start + v.len) s)

    string_as : (x : Spot) → spot_of ((string anything).dec after) ≡ x → spot_of ((string anything).dec (drop (v.start + v.len) s)) ≡ x
    string_as x k = rw (rest_is (v.start + v.len) s) at k

    module _ (p : Misfit) (k : spot_of ((string anything).dec (take (length s - (v.start + v.len)) (drop (v.start + v.len) s))) ≡ Err p) where
      string_bad : ((string anything).dec (drop (v.start + v.len) s) ≡ bad p.place) × (p.place ≤ length (drop (v.start + v.len) s))
      string_bad = spot_wrong (string anything) (drop (v.start + v.len) s) p.place (string_as (Err p) k)

      pub string_err : bytes_of (type_string.dec s) ≡ Err (misfit (v.start + v.len + p.place))
      unfolding cover_by type_string field_dec
      string_err = rw (type_got.0, only_wrong (string anything).dec (drop (v.start + v.len) s) p.place string_bad.0)

      pub string_place : v.start + v.len + p.place ≤ length s
      string_place = omega (arith, type_end, string_bad.1, length-drop (v.start + v.len) s)

    module _ (w : Span) (k : spot_of ((string anything).dec (take (length s - (v.start + v.len)) (drop (v.start + v.len) s))) ≡ Ok w) where
      string_got : ((string anything).dec (drop (v.start + v.len) s) ≡ got (take w.len (drop w.start (drop (v.start + v.len) s))) (w.start + w.len))
          × (length (take w.len (drop w.start (drop (v.start + v.len) s))) ≡ w.len) × (w.start + w.len ≤ length (drop (v.start + v.len) s))
      string_got = spot_reads (string anything) (last_string anything) (drop (v.start + v.len) s) w.start w.len (string_as (Ok w) k)

      pub string_end : v.start + v.len + w.start + w.len ≤ length s
      string_end = omega (arith, string_got.2, type_end, length-drop (v.start + v.len) s)

      pub string_fills : v.start + v.len + w.start + w.len ≡ length s
          → bytes_of (type_string.dec s) ≡ Ok (cover.Holds (same_of (take (v.start + v.len - v.start) (drop v.start s)) basic_type) w.len)
      unfolding cover_by covered type_string field_dec
      string_fills i =
          let le : length (drop (v.start + v.len) s) ≤ w.start + w.len = simp length-drop (omega arith) in
          rw (type_got.0, only_fills (string anything).dec (drop (v.start + v.len) s) _ (w.start + w.len) string_got.0 le, string_got.1, part_is v.start v.len s)

      pub string_left : (v.start + v.len + w.start + w.len ≡ length s → ⊥) → bytes_of (type_string.dec s) ≡ Err (misfit (v.start + v.len + w.start + w.len))
      unfolding cover_by type_string field_dec
      string_left n =
          let lt : w.start + w.len < length (drop (v.start + v.len) s) = simp length-drop (omega (arith, string_end)) in
          let j : v.start + v.len + w.start + w.len ≡ v.start + v.len + (w.start + w.len) = omega arith in
          rw (type_got.0, only_left (string anything).dec (drop (v.start + v.len) s) _ (w.start + w.len) string_got.0 lt, j)

pub ruleset string_cases = (type_err, type_end, string_err, string_place, string_end, string_fills, string_left)
