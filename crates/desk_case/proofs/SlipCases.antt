-- What the code knows at each return of the slip's writer, and the contract there.
-- slip_buffer, slip_written, slip_none, in slip_cases.
-- Assumes nothing.
use Prim.Native.Nat.{ℕ}
use native.Mathlib.Omega.{arith}
use mathlib.Core.Path.{◌≡◌, refl, sym, ap, ◌∙◌}
use mathlib.Core.Bool.{Bool, true, false, cond}
use mathlib.Core.List.{List}
use lib.Dec.{ltb}
use lib.ListN.{length}
use Rattle.octets.specs.Buffer.{put_in, put_size}
use Rattle.answer.specs.declared.Answer.{Answer}
use Rattle.fields.specs.declared.Output.{Output}
use Rattle.fields.specs.declared.Output.TheVariants.{Octets as Wrote, Refused}
use Rattle.fields.specs.Output.{output_of, output_in}
use Rattle.slip.specs.Slip.{slip_of}
use Rattle.desk_question.specs.Asked.{asked}

-- how many octets are written in a buffer of this size, 0 where there is no room
abbrev Count : ℕ → ℕ → ℕ
Count size n = cond (ltb size n) 0 n

-- ---- the slip

-- what a writer answers where nothing is refused but for room
count_of : (n size k : ℕ) → Wrote n ≡ output_of 0 size k → n ≡ Count size k
unfolding output_of
count_of n size k e = go (ltb size k) e
  where
    go : (t : Bool) → Wrote n ≡ cond t (Refused 18) (Wrote k) → n ≡ cond t 0 k
    go true e = let z : ◌≡◌ {A = ℕ} 0 1 = cc in absurd (omega arith)
    go false e = cc

count_none : (m size k : ℕ) → Refused m ≡ output_of 0 size k → 0 ≡ Count size k
unfolding output_of
count_none m size k e = go (ltb size k) e
  where
    go : (t : Bool) → Refused m ≡ cond t (Refused 18) (Wrote k) → 0 ≡ cond t 0 k
    go true e = refl
    go false e = let z : ◌≡◌ {A = ℕ} 0 1 = cc in absurd (omega arith)

module _ (q r : List ℕ) (a : Answer) (e : a ≡ asked q r) where
  -- what the buffer is then
  pub slip_buffer : (out o : List ℕ) → o ≡ output_in 0 out (slip_of a) → o ≡ put_in out 0 (slip_of (asked q r))
  unfolding output_in
  slip_buffer out o f = f ∙ rw e

  module _ (out : List ℕ) (w : Output) (f : w ≡ output_of 0 (length out) (length (slip_of a))) where
    same : w ≡ output_of 0 (length out) (length (slip_of (asked q r)))
    same = f ∙ ap (λ (x : Answer). output_of 0 (length out) (length (slip_of x))) e

    pub slip_written : (n : ℕ) → w ≡ Wrote n → n ≡ put_size out (slip_of (asked q r))
    slip_written n i = count_of n (length out) (length (slip_of (asked q r))) (sym i ∙ same)

    pub slip_none : (m : ℕ) → w ≡ Refused m → 0 ≡ put_size out (slip_of (asked q r))
    slip_none m i = count_none m (length out) (length (slip_of (asked q r))) (sym i ∙ same)

pub ruleset slip_cases = (slip_buffer, slip_written, slip_none)
