-- Laws of reading: what a program knows at each turn of its reading, and at the end of it.
-- came_more; went_on, ended; end_counted.
-- The definitions are in Read. Assumes nothing.
use Rattle.std.specs.Prelude.{ℕ, ◌≡◌, List, ◌++◌, length, take}
use Rattle.std.proofs.Common.{arith, sym, subst, length-take-le}
use Rattle.desk_intake.specs.Kept.{kept_with, space_kept, Holds}
use Rattle.desk_intake.specs.KeptLaws.{holds_inside, holds_next}
use Rattle.desk_intake.specs.declared.Input.{Input}
use Rattle.desk_intake.specs.declared.Input.TheVariants.{More, End}
use Rattle.desk_intake.specs.Read.{Onward, ReadAs, WasRead}

-- a read that brought octets: the space holds them after what it held
module _ (before : List ℕ) (done : ℕ) (chunk : List ℕ) (n : ℕ) {after : List ℕ} {next : ℕ} where
  pub came_more : (n ≡ 0 → ⊥) → n ≡ length (take n chunk) → next ≡ length (kept_with before done (take n chunk))
      → after ≡ space_kept before done (take n chunk) → Onward before done after (More next)
  came_more some e r o l h = (take n chunk, omega arith, holds_next before done l h (take n chunk) after next r o)

module _ (before : List ℕ) (done : ℕ) (after : List ℕ) (n : ℕ) (input : Input) (o : Onward before done after input) where
  -- a turn that read more: the space holds an input again
  pub went_on : input ≡ More n → (l : List ℕ) × Holds before done l → (l : List ℕ) × Holds after n l
  went_on e (l, h) =
      let (came, some, holds) = subst (λ (i : Input). Onward before done after i) e o l h in
      (l ++ came, holds)

  -- the end: the space holds the input
  pub ended : input ≡ End n → (l : List ℕ) × Holds before done l → WasRead after (End n)
  ended e (l, h) = (l, subst (λ (i : Input). Onward before done after i) e o l h)

module _ (space : List ℕ) (input : Input) (n : ℕ) (r : WasRead space input) (e : input ≡ End n) where
  -- the octets that are kept are in the space
  pub end_counted : n ≡ length (take n space)
  end_counted =
      let (l, h) = r in
      let k : Holds space n l = subst (λ (i : Input). ReadAs space i l) e h in
      sym (length-take-le n space (holds_inside space n l k))
