-- A line that was written is in the buffer, all of it.
-- line_inside, line_counted: of any octets that are put at a buffer's start, with how many they are, or 0 where there is no room.
-- Assumes nothing.
use Rattle.std.specs.Prelude.{ℕ, ◌≤◌, ◌≡◌, refl, Bool, true, false, cond, List, ltb, length, take}
use Rattle.std.proofs.Common.{arith, sym, length-take-le, ltb-false}
use Rattle.octets.specs.Buffer.{put_in, put_size}
use Rattle.octets.specs.BufferLaws.{put_in_length}

module _ (out new line : List ℕ) (n : ℕ) (q : n ≡ put_size out new) (e : line ≡ put_in out 0 new) where
  pub line_inside : n ≤ length line
  line_inside = rw (e, put_in_length out 0 new) (go (ltb (length out) (length new)) refl q)
    where
      go : (b : Bool) → ltb (length out) (length new) ≡ b → n ≡ cond b 0 (length new) → n ≤ length out
      go true i z = omega arith
      go false i z = omega (arith, ltb-false (length out) (length new) i)

  pub line_counted : n ≡ length (take n line)
  line_counted = sym (length-take-le n line line_inside)
