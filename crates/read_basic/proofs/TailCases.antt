-- The cases of the readers of what follows the signed part.
-- Assumes nothing.
use Prim.Native.Nat.{ℕ, ◌+◌, ◌-◌, ◌≤◌}
use native.Mathlib.Omega.{arith}
use mathlib.Core.Path.{◌≡◌, refl}
use mathlib.Core.List.{List}
use Rattle.std.specs.Prelude.{cond, Ok, Err}
use lib.ListN.{length, take, drop, length-append, length-drop}
use Rattle.octets.specs.LentLaws.{Known, known_octets, rest_is}
use Rattle.element.specs.Places.{misfit}
use Rattle.element.specs.declared.Misfit.{Misfit}
use Rattle.element.specs.declared.Span.{Span}
use Rattle.codec.specs.Codec.{broke, got}
use Rattle.codec.proofs.CodecLaws.{got_size}
use Rattle.codec.specs.Sequence.{field_dec}
use Rattle.codec.specs.Starts.{starts_with}
use Rattle.codec.specs.Steps.{Fit}
use Rattle.codec.specs.Views.{step_of, fit_of}
use Rattle.codec.proofs.ViewLaws.{fit_fits, fit_breaks}
use Rattle.layout.proofs.Format.{algorithm_identifier, signature_bits, certificates, certificates_start}
use Rattle.read_content.specs.Spots.{spot_of}
use Rattle.read_content.specs.LastLaws.{last_bits}
use Rattle.read_content.specs.SpotLaws.{spot_reads, spot_wrong}
use Rattle.read_sequence.specs.Judged.{filled_by}
use Rattle.read_sequence.specs.ViewLaws.{fit_optional}
use Rattle.read_basic.specs.Views.{tail, certificates_on, signature_on, algorithm_on, signature_spot, tail_of}
use Rattle.read_basic.specs.MoreReads.{MoreRead, reads_wrong, reads_end, reads_place, reads_broken, reads_start, reads_moved}
use Rattle.read_basic.specs.declared.Tail.{Tail}

-- ── maybe certificates, by the first octet ──
pub certificates_is : (s : List ℕ) → fit_of (certificates_on.dec s) ≡ filled_by (length s) (cond (starts_with 0xa0 s) (step_of (certificates.dec s)) (Ok 0))
unfolding certificates_on
certificates_is s = fit_optional 0xa0 certificates certificates_start s

-- ── the signature, then maybe certificates ──
module _ (s : List ℕ) where
  pub signature_err : (p : Misfit) → spot_of (signature_bits.dec s) ≡ Err p → signature_spot (signature_on.dec s) ≡ Err p
  unfolding signature_spot signature_on field_dec
  signature_err p f = rw (spot_wrong signature_bits s p.place f).0

  module _ (v : Span) (f : spot_of (signature_bits.dec s) ≡ Ok v) where
    bits : (signature_bits.dec s ≡ got (take v.len (drop v.start s)) (v.start + v.len)) × (length (take v.len (drop v.start s)) ≡ v.len) × (v.start + v.len ≤ length s)
    bits = spot_reads signature_bits last_bits s v.start v.len f

    pub signature_end : v.start + v.len ≤ length s
    signature_end = bits.2

    -- what follows it, as the code lends it
    certificates_as : (z : Fit) → fit_of (certificates_on.dec (take (length s - (v.start + v.len)) (drop (v.start + v.len) s))) ≡ z
        → fit_of (certificates_on.dec (drop (v.start + v.len) s)) ≡ z
    certificates_as z c = rw (rest_is (v.start + v.len) s) at c

    module _ (p : Misfit) (c : fit_of (certificates_on.dec (take (length s - (v.start + v.len)) (drop (v.start + v.len) s))) ≡ Err p) where
      certificates_bad : (certificates_on.dec (drop (v.start + v.len) s) ≡ broke p.place) × (p.place ≤ length (drop (v.start + v.len) s))
      certificates_bad = fit_breaks certificates_on (drop (v.start + v.len) s) p.place (certificates_as (Err p) c)

      pub certificates_place : v.start + v.len + p.place ≤ length s
      certificates_place = omega (arith, bits.2, certificates_bad.1, length-drop (v.start + v.len) s)

      pub certificates_broken : signature_spot (signature_on.dec s) ≡ Err (misfit (v.start + v.len + p.place))
      unfolding signature_spot signature_on field_dec
      certificates_broken = rw (bits.0, certificates_bad.0)

    pub signature_found : Known s → (u : Unit) → fit_of (certificates_on.dec (take (length s - (v.start + v.len)) (drop (v.start + v.len) s))) ≡ Ok u
        → signature_spot (signature_on.dec s) ≡ Ok v
    unfolding signature_spot signature_on field_dec
    signature_found k u c =
        let size = got_size signature_bits s (take v.len (drop v.start s)) (v.start + v.len) (known_octets s k) bits.0 in
        let i : v.start + v.len - v.len ≡ v.start = omega arith in
        rw (bits.0, (fit_fits certificates_on (drop (v.start + v.len) s) (certificates_as (Ok u) c)).1, size, bits.1, i)

-- ── the algorithm, then the rest ──
-- after an algorithm of n octets
abbrev pub moved : ℕ → Span → Tail
moved n v = tail n (n + v.start) v.len

pub algorithm_more : MoreRead algorithm_identifier signature_on signature_spot (λ s. tail_of (algorithm_on.dec s)) moved (λ v. v.start)
unfolding algorithm_on signature_on signature_spot tail_of
algorithm_more = record {
  both = tail_of;
  same = λ s. refl;
  wrong = λ p. refl;
  holds = λ a b. refl;
  breaks = λ n p. refl;
  holds_in = λ b. simp length-append (omega arith);
  breaks_in = λ p. omega arith;
}

module _ (s : List ℕ) where
  pub algorithm_err : (p : Misfit) → step_of (algorithm_identifier.dec s) ≡ Err p → tail_of (algorithm_on.dec s) ≡ Err p
  algorithm_err = reads_wrong algorithm_more s

  module _ (n : ℕ) (f : step_of (algorithm_identifier.dec s) ≡ Ok n) where
    pub algorithm_end : n ≤ length s
    algorithm_end = reads_end algorithm_more s n f

    module _ (known : Known s) where
      pub algorithm_place : (p : Misfit) → signature_spot (signature_on.dec (take (length s - n) (drop n s))) ≡ Err p → n + p.place ≤ length s
      algorithm_place = reads_place algorithm_more s n f known

      pub algorithm_broken : (p : Misfit) → signature_spot (signature_on.dec (take (length s - n) (drop n s))) ≡ Err p → tail_of (algorithm_on.dec s) ≡ Err (misfit (n + p.place))
      algorithm_broken = reads_broken algorithm_more s n f known

      pub algorithm_start : (k : Span) → signature_spot (signature_on.dec (take (length s - n) (drop n s))) ≡ Ok k → n + k.start ≤ length s
      algorithm_start = reads_start algorithm_more s n f known

      pub algorithm_found : (k : Span) → signature_spot (signature_on.dec (take (length s - n) (drop n s))) ≡ Ok k → tail_of (algorithm_on.dec s) ≡ Ok (tail n (n + k.start) k.len)
      algorithm_found = reads_moved algorithm_more s n f known

pub ruleset signature_cases = (signature_err, signature_end, certificates_place, certificates_broken, signature_found)

pub ruleset algorithm_cases = (algorithm_err, algorithm_end, algorithm_place, algorithm_broken, algorithm_start, algorithm_found)
