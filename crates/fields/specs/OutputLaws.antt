-- Laws of writing: each answer exactly when it is due, and the buffer that goes with it.
-- output_refused, output_short, output_written; kept_refused, kept_short, first_written.
-- The definitions are in Output. Assumes nothing.
use Rattle.std.specs.Prelude.{ℕ, ◌≤◌, ◌<◌, ◌≡◌, List, ◌++◌, length, drop}
use Rattle.std.proofs.Common.{zero-add, arith, ap, ◌∙◌, ne_eqb, lt-ltb, le-ltb}
use Rattle.octets.specs.BufferLaws.{put_in_room, put_in_short}
use Rattle.fields.specs.declared.Output.TheVariants.{Octets, Refused}
use Rattle.fields.specs.Output.{output_of, output_in}

-- ---- the answer

pub output_refused : (refusal size n : ℕ) → (refusal ≡ 0 → ⊥) → output_of refusal size n ≡ Refused refusal
unfolding output_of
output_refused refusal size n h = rw (ne_eqb refusal 0 h)

pub output_short : (size n : ℕ) → size < n → output_of 0 size n ≡ Refused 18
unfolding output_of
output_short size n h = rw (lt-ltb size n h)

pub output_written : (size n : ℕ) → n ≤ size → output_of 0 size n ≡ Octets n
unfolding output_of
output_written size n h = rw (le-ltb size n h)

-- ---- the buffer

-- a refusal leaves it as it was
pub kept_refused : (refusal : ℕ) (out new : List ℕ) → (refusal ≡ 0 → ⊥) → output_in refusal out new ≡ out
unfolding output_in
kept_refused refusal out new h = rw (ne_eqb refusal 0 h)

pub kept_short : (out new : List ℕ) → length out < length new → output_in 0 out new ≡ out
unfolding output_in
kept_short out new h = put_in_short out 0 new (omega arith)

-- otherwise the new octets come first, and the rest is unchanged
pub first_written : (out new : List ℕ) → length new ≤ length out → output_in 0 out new ≡ new ++ drop (length new) out
unfolding output_in
first_written out new h = put_in_room out 0 new (omega arith) ∙ ap (λ (k : ℕ). new ++ drop k out) (zero-add (length new))
