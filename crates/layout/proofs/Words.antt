-- The contents of the layout's primitive elements: what each may be, and as what it is read.
-- time_content and serial_content (in Numbers), oid_content, bits, single, empty, yes, nought; the tests between, anything,
-- reason_ok, status_ok.
-- The laws stand here, and what is made of them; the definitions in specs/Words.
-- Assumes nothing.
use Rattle.std.specs.Prelude.{ℕ, ◌<◌, ◌≡◌, refl, Bool, true, eqb, length}
use Rattle.std.proofs.Common.{arith, lit<, eqb-true}
use mathlib.Core.List.{List, [], ◌∷◌}
use Rattle.std.proofs.Math.Option.{some}
use Rattle.octets.specs.Octets.{Octets}
use Rattle.codec.specs.Codec.{Content}
use Rattle.layout.proofs.Numbers.{none_some, passed}
pub use Rattle.layout.proofs.Numbers.{time_read_lem, time_full, time_content, serial_read_lem, serial_full, serial_content}
use Rattle.layout.specs.Words.{bits_read, single_read}

pub bits_read_lem : (c a : List ℕ) → Octets c → bits_read c ≡ some a → (Octets a × (0 < length a)) × (c ≡ 0 ∷ a)
unfolding bits_read
bits_read_lem [] a o e = none_some e
bits_read_lem (x ∷ []) a o e = none_some e
bits_read_lem (x ∷ y ∷ s) a o e =
    let (k, i) = passed (eqb x 0) (y ∷ s) a e in
    let z = eqb-true x 0 k in
    rw (← i, z) (((o.1, omega arith)), refl)

pub bits_full : (a : List ℕ) → Octets a × (0 < length a) → bits_read (0 ∷ a) ≡ some a
unfolding bits_read
bits_full [] h = absurd (omega (arith, h.1))
bits_full (y ∷ s) h = refl

abbrev pub bits : Content (List ℕ)
bits = record {
  dec = bits_read;
  enc = λ a. 0 ∷ a;
  ok = λ a. Octets a × (0 < length a);
  sound = bits_read_lem;
  complete = bits_full;
  octets = λ a h. (lit< tt, h.0);
}

module _ (test : ℕ → Bool) where
  pub single_read_lem : (c : List ℕ) (n : ℕ) → Octets c → single_read test c ≡ some n → ((n < 256) × (test n ≡ true)) × (c ≡ n ∷ [])
  unfolding single_read
  single_read_lem [] n o e = none_some e
  single_read_lem (x ∷ []) n o e =
      let (k, i) = passed (test x) x n e in
      rw (← i) ((o.0, k), refl)
  single_read_lem (x ∷ y ∷ s) n o e = none_some e

  pub single_full : (n : ℕ) → (n < 256) × (test n ≡ true) → single_read test (n ∷ []) ≡ some n
  unfolding single_read
  single_full n h = rw h.1

  abbrev pub single : Content ℕ
  single = record {
    dec = single_read test;
    enc = λ n. n ∷ [];
    ok = λ n. (n < 256) × (test n ≡ true);
    sound = single_read_lem;
    complete = single_full;
    octets = λ n h. (h.0, tt);
  }
