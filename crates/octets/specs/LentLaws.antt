-- What code knows of a lent slice, and the parts of it that it lends further, on plain values.
-- Known, known_octets; rest_is, part_is, part_length.
-- Assumes nothing.
use Rattle.std.specs.Prelude.{ℕ, ◌+◌, ◌-◌, ◌≤◌, ◌≡◌, List, length, get_or, take, drop}
use Rattle.std.proofs.Common.{arith, length-drop, take_all, length-take-le, Fits}
use Rattle.std.specs.Int.{w8}
use Rattle.octets.specs.Octets.{Octets}
use Rattle.octets.specs.OctetsLaws.{octets_from}

-- what a slice of octets holds is octets
abbrev pub Known : List ℕ → Type 0
Known s = (i : ℕ) → Fits w8 (get_or s i 0)

pub known_octets : (s : List ℕ) → Known s → Octets s
known_octets s k = octets_from s (λ i lt. (k i).fits)

-- what follows the first n
pub rest_is : (n : ℕ) (s : List ℕ) → take (length s - n) (drop n s) ≡ drop n s
rest_is n s = take_all (length s - n) (drop n s) (simp length-drop (omega arith))

-- a part from b to b + l
pub part_is : (b l : ℕ) (s : List ℕ) → take (b + l - b) (drop b s) ≡ take l (drop b s)
part_is b l s = let e : b + l - b ≡ l = omega arith in rw e

pub part_length : (b l : ℕ) (s : List ℕ) → b + l ≤ length s → length (take l (drop b s)) ≡ l
part_length b l s le = length-take-le l (drop b s) (simp length-drop (omega arith))
