-- What the program knows of the line that it writes. What it knows of its reading is in crate desk_intake (ReadLaws).
-- says_end, says_none; line_inside, line_counted.
-- Assumes nothing.
use Prim.Native.Nat.{ℕ, ◌≤◌}
use mathlib.Core.Path.{◌≡◌, sym, ap, subst, ◌∙◌}
use mathlib.Core.Logic.{◌⊎◌, ⊎_elim}
use mathlib.Core.List.{List, []}
use lib.ListN.{length, take}
use lib.Seq.{length-take-le}
use Rattle.octets.specs.Buffer.{put_in, put_size}
use Rattle.desk_question.specs.Line.{line_of}
use Rattle.desk_line.specs.LineLaws as line
use Rattle.desk_intake.specs.Kept.{Holds}
use Rattle.desk_intake.specs.Room.{room_least}
use Rattle.desk_intake.specs.Read.{ReadAs, WasRead}
use Rattle.desk_intake.specs.SameLineLaws.{kept_same_line}
use Rattle.desk_intake.specs.declared.Input.{Input}
use Rattle.desk_intake.specs.declared.Input.TheVariants.{More, End, Failed}
use Rattle.desk.specs.Input.{Says}

-- ---- the line

module _ (space : List ℕ) (input : Input) (before : List ℕ) (k : ℕ) (after : List ℕ) where
  -- at the end of the input: its line, though only its beginning may be kept
  pub says_end : room_least ≤ length space → (n : ℕ) → input ≡ End n
      → k ≡ put_size before (line_of (take n space)) → after ≡ put_in before 0 (line_of (take n space)) → Says space input before k after
  unfolding Says
  says_end room n e v w l h =
      let holds : Holds space n l = subst (λ (i : Input). ReadAs space i l) e h in
      let same : line_of (take n space) ≡ line_of l = ap line_of holds.octets ∙ kept_same_line (length space) l room in
      subst (λ (s : List ℕ). (k ≡ put_size before s) × (after ≡ put_in before 0 s)) same (v, w)

  -- where reading failed, and where it did not come to the end: the line of an empty input
  pub says_none : ((n : ℕ) × (input ≡ More n)) ⊎ (input ≡ Failed)
      → k ≡ put_size before (line_of []) → after ≡ put_in before 0 (line_of []) → Says space input before k after
  unfolding Says
  says_none e v w l h =
      let none : l ≡ [] =
      ⊎_elim (λ (n, i). subst (λ (i : Input). ReadAs space i l) i h) (λ i. subst (λ (i : Input). ReadAs space i l) i h) e in
      rw none (v, w)

-- the line is in its buffer, all of it
module _ (space : List ℕ) (input : Input) (before : List ℕ) (k : ℕ) (after : List ℕ) (r : WasRead space input) (s : Says space input before k after) where
  pub line_inside : k ≤ length after
  unfolding Says
  line_inside = let p = s r.0 r.1 in line.line_inside before (line_of r.0) after k p.0 p.1

  pub line_counted : k ≡ length (take k after)
  line_counted = sym (length-take-le k after line_inside)
