-- How a loop over elements counts them: what is known of the count after a turn.
-- onwards; counts, by which the turns of codec's TurnLaws are those of a count. The definition is in
-- specs/Counts.
-- Assumes nothing.
use Prim.Native.Nat.{ℕ, ◌+◌}
use native.Mathlib.Omega.{arith}
use mathlib.Core.Path.{◌≡◌, refl, ap}
use mathlib.Core.List.{List, ◌∷◌}
use Rattle.std.specs.Prelude.{Ok, Err}
use Rattle.element.specs.Places.{misfit}
use Rattle.codec.specs.Codec.{Read, read, broke}
use Rattle.codec.specs.Outcome.{further}
use Rattle.codec.specs.TurnLaws.{Telling}
use Rattle.read_entry.specs.Counts.{Count, count_of}

-- the answer for what is left, after k elements that end at a place
unfoldable pub onwards : ℕ → ℕ → Count → Count
onwards at k (Ok m) = Ok (k + m)
onwards at k (Err p) = Err (misfit (at + p.place))

onwards_start : (x : Count) → x ≡ onwards 0 0 x
unfolding onwards
onwards_start (Ok m) = ap Ok (omega arith)
onwards_start (Err p) = ap (λ (j : ℕ). Err (misfit j)) (omega arith)

onwards_next : {A : Type 0} (at k n : ℕ) (a : A) (o : Read (List A)) → onwards at k (count_of (further n (λ l. a ∷ l) o)) ≡ onwards (at + n) (k + 1) (count_of o)
unfolding onwards count_of
onwards_next at k n a (read l) = ap Ok (omega arith)
onwards_next at k n a (broke p) = ap (λ (j : ℕ). Err (misfit j)) (omega arith)

pub counts : (A : Type 0) → Telling {A = A} count_of onwards (λ k. Ok k) (λ p. Err (misfit p))
unfolding onwards count_of
counts A = record {
  start = onwards_start;
  ends = λ at k. ap Ok (omega arith);
  stops = λ at k p. refl;
  next = onwards_next;
}
