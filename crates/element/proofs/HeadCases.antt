-- The cases of the header's readers: what each return has learned of the octets.
-- wrong_tag, no_tag, no_length; short_length, no_count, large_count, long_length, all in read_cases; no_octets,
-- not_outside, too_long, counted, all in long_cases.
-- Assumes nothing.
use Prim.Native.Nat.{ℕ, suc, ◌+◌, ◌-◌, ◌≤◌, ◌<◌}
use mathlib.Core.Path.{◌≡◌, refl}
use mathlib.Core.List.{List, [], ◌∷◌}
use mathlib.Core.Bool.{Bool, true, false}
use native.Mathlib.Omega.{arith}
use lib.ListN.{length, get_or, take, drop}
use Rattle.std.specs.Prelude.{Option, Some, None, Err}
use borrow.Author.Tests.{eq-eqb, ne_eqb, lt-ltb, le-ltb}
use Rattle.octets.specs.Number.{value_of, number_at}
use Rattle.octets.specs.NumberLaws.{number_inside}
use Rattle.element.specs.Tag.{tag_ok}
use Rattle.element.specs.Length.{shortest}
use Rattle.element.specs.Header.{inside_of, long_of, length_at, header_of}
use Rattle.element.specs.HeaderLaws.{header_two}
use Rattle.element.specs.Places.{HeaderRead, misfit}

-- by the tag
pub wrong_tag : (s : List ℕ) (r : Bool) → r ≡ tag_ok (get_or s 0 0) → r ≡ false → Err (misfit 0) ≡ header_of s
unfolding header_of
wrong_tag [] r q f = refl
wrong_tag (a ∷ s) r q f = rw (ne_eqb (suc (length s)) 0 (λ z. omega arith), ← q, f)

pub no_tag : (s : List ℕ) → length s ≡ 0 → Err (misfit 0) ≡ header_of s
unfolding header_of
no_tag s z = rw (eq-eqb (length s) 0 z)

pub no_length : (s : List ℕ) → (length s ≡ 0 → ⊥) → length s < 2 → (r : Bool) → r ≡ tag_ok (get_or s 0 0) → r ≡ true → Err (misfit (length s)) ≡ header_of s
unfolding header_of
no_length s z l r q f = rw (ne_eqb (length s) 0 z, ← q, f, lt-ltb (length s) 2 l)

-- by the first length octet
module _ (s : List ℕ) (l : 2 ≤ length s) (r : Bool) (q : r ≡ tag_ok (get_or s 0 0)) (f : r ≡ true) where
  pub short_length : get_or s 1 0 < 128 → (x : HeaderRead) → x ≡ inside_of (length s) (get_or s 0 0) 2 (get_or s 1 0) → x ≡ header_of s
  unfolding length_at
  short_length b x e = rw (header_two s l r q f, lt-ltb (get_or s 1 0) 128 b) e

  module _ (b : 128 ≤ get_or s 1 0) where
    pub no_count : get_or s 1 0 ≡ 128 → Err (misfit 0) ≡ header_of s
    unfolding length_at
    no_count e = rw (header_two s l r q f, le-ltb (get_or s 1 0) 128 b, eq-eqb (get_or s 1 0) 128 e)

    module _ (n : get_or s 1 0 ≡ 128 → ⊥) where
      pub large_count : 136 < get_or s 1 0 → Err (misfit 0) ≡ header_of s
      unfolding length_at
      large_count e = rw (header_two s l r q f, le-ltb (get_or s 1 0) 128 b, ne_eqb (get_or s 1 0) 128 n, lt-ltb 136 (get_or s 1 0) e)

      pub long_length : get_or s 1 0 ≤ 136 → (x : HeaderRead) → x ≡ long_of s (get_or s 0 0) (get_or s 1 0 - 128) → x ≡ header_of s
      unfolding length_at
      long_length e x w = rw (header_two s l r q f, le-ltb (get_or s 1 0) 128 b, ne_eqb (get_or s 1 0) 128 n, le-ltb 136 (get_or s 1 0) e) w

pub ruleset read_cases = (wrong_tag, no_tag, no_length, short_length, no_count, large_count, long_length)

-- by k more length octets
pub no_octets : (s : List ℕ) (t k : ℕ) → length s < 2 + k → Err (misfit (length s)) ≡ long_of s t k
unfolding long_of
no_octets s t k l = rw (lt-ltb (length s) (2 + k) l)

module _ (s : List ℕ) (t k : ℕ) (e : k ≤ 8) (l : 2 + k ≤ length s) (r : Option ℕ) (q : r ≡ number_at s 2 k) where
  pub not_outside : r ≡ None → Err (misfit 0) ≡ long_of s t k
  not_outside f = let z : ◌≡◌ {A = ℕ} 0 1 = cc (number_inside s 2 k e l) in absurd (omega arith)

  module _ (n : ℕ) (f : r ≡ Some n) (b : Bool) (g : b ≡ shortest k n) where
    value_is : value_of (take k (drop 2 s)) ≡ n
    value_is = cc (number_inside s 2 k e l)

    pub too_long : b ≡ false → Err (misfit 0) ≡ long_of s t k
    unfolding long_of
    too_long h = rw (le-ltb (length s) (2 + k) l, value_is, ← g, h)

    pub counted : b ≡ true → (x : HeaderRead) → x ≡ inside_of (length s) t (2 + k) n → x ≡ long_of s t k
    unfolding long_of
    counted h x w = rw (le-ltb (length s) (2 + k) l, value_is, ← g, h) w

pub ruleset long_cases = (no_octets, not_outside, too_long, counted)
