-- What the code knows at each return of the line's writer, and the contract there.
-- end_least_lem; end_inside, end_counted, desk_count, desk_buffer, in end_cases; line_inside, line_counted, line_count, line_buffer,
-- line_read, in line_cases.
-- Assumes nothing.
use Prim.Native.Nat.{ℕ, ◌+◌, ◌-◌, ◌≤◌, min}
use native.Mathlib.Nat.{zero-add, min-eq_left, min-eq_right}
use native.Mathlib.Omega.{arith}
use mathlib.Core.Path.{◌≡◌, refl, sym, ap, ap₂, ◌∙◌}
use mathlib.Core.Bool.{Bool, true, false, cond}
use mathlib.Core.List.{List}
use lib.Dec.{ltb}
use lib.ListN.{length, take, drop, replicate, length-drop}
use lib.Seq.{length-take-le, take_all, take_at}
use borrow.Author.Tests.{le-ltb, ltb-true, ltb-false}
use Rattle.octets.specs.Buffer.{put_in}
use Rattle.octets.specs.BufferLaws.{put_in_room, put_in_length}
use Rattle.octets.specs.LentLaws.{Known, known_octets}
use Rattle.slip.specs.Slip.{slip_of, read_of}
use Rattle.answer.specs.Verdict.{without_place}
use Rattle.slip.specs.SlipLaws.{read_written}
use Rattle.hexadecimal.specs.Hex.{hex_line}
use Rattle.desk_question.specs.Asked.{asked, desk_of}
use Rattle.desk_question.specs.Line.{question_end, line_of}
use Rattle.desk_question.proofs.LineLaws.{line_is, end_short, end_long, end_least, cut_question, cut_response, desk_fits, desk_most}
use Rattle.desk_question.proofs.SizeLaws.{asked_sized}

-- ---- the input, cut

pub end_least_lem : (n : ℕ) → min n 353 ≡ question_end n
end_least_lem n = go (ltb n 353) refl
  where
    go : (t : Bool) → ltb n 353 ≡ t → min n 353 ≡ question_end n
    go true e = let h = ltb-true n 353 e in min-eq_left (omega arith) ∙ sym (end_short n h)
    go false e = let h = ltb-false n 353 e in min-eq_right h ∙ sym (end_long n h)

module _ (s : List ℕ) (end : ℕ) (e : end ≡ question_end (length s)) where
  pub end_inside : end ≤ length s
  end_inside = omega (arith, end_least s)

  pub end_counted : end ≡ length (take end s)
  end_counted = sym (length-take-le end s end_inside)

  -- the answer to the two parts is the input's
  parts : asked (take end s) (take (length s - end) (drop end s)) ≡ desk_of s
  unfolding desk_of
  parts =
      ap₂
      asked
      (ap (λ (k : ℕ). take k s) e ∙ cut_question s)
      (take_all (length s - end) (drop end s) (omega (arith, length-drop end s)) ∙ ap (λ (k : ℕ). drop k s) e ∙ cut_response s)

  pub desk_count : (k n : ℕ)
      → n ≡ cond (ltb k (length (slip_of (asked (take end s) (take (length s - end) (drop end s)))))) 0 (length (slip_of (asked (take end s) (take (length s - end) (drop end s)))))
      → n ≡ cond (ltb k (length (slip_of (desk_of s)))) 0 (length (slip_of (desk_of s)))
  desk_count k n x = x ∙ rw parts

  pub desk_buffer : (out o : List ℕ) → o ≡ put_in out 0 (slip_of (asked (take end s) (take (length s - end) (drop end s)))) → o ≡ put_in out 0 (slip_of (desk_of s))
  desk_buffer out o x = x ∙ rw parts

-- ---- the line

module _ (s : List ℕ) (n : ℕ) (e : n ≡ cond (ltb 87 (length (slip_of (desk_of s)))) 0 (length (slip_of (desk_of s)))) where
  size_is : n ≡ length (slip_of (desk_of s))
  size_is = e ∙ rw (le-ltb 87 (length (slip_of (desk_of s))) (desk_most s))

  module _ (o : List ℕ) (f : o ≡ put_in (replicate 87 0) 0 (slip_of (desk_of s))) where
    pub line_inside : n ≤ length o
    line_inside = omega (arith, size_is, desk_most s, ap length f, put_in_length (replicate 87 0) 0 (slip_of (desk_of s)))

    pub line_counted : n ≡ length (take n o)
    line_counted = sym (length-take-le n o line_inside)

    slip_is : take n o ≡ slip_of (desk_of s)
    slip_is =
        ap₂ take size_is (f ∙ put_in_room (replicate 87 0) 0 (slip_of (desk_of s)) (rw (zero-add (length (slip_of (desk_of s)))) (desk_most s)))
        ∙ take_at (slip_of (desk_of s)) (drop (0 + length (slip_of (desk_of s))) (replicate 87 0)) (length (slip_of (desk_of s))) refl

    pub line_count : (k r : ℕ) → r ≡ cond (ltb k (length (hex_line (take n o)))) 0 (length (hex_line (take n o)))
        → r ≡ cond (ltb k (length (line_of s))) 0 (length (line_of s))
    line_count k r x = x ∙ rw (slip_is, line_is s)

    pub line_buffer : (out p : List ℕ) → p ≡ put_in out 0 (hex_line (take n o)) → p ≡ put_in out 0 (line_of s)
    line_buffer out p x = x ∙ rw (slip_is, line_is s)

-- ---- the answer

-- the slip of the answer reads as the answer without its place: by its type the input is octets
pub line_read : (s : List ℕ) → Known s → read_of 20 (slip_of (desk_of s)) ≡ without_place (desk_of s)
unfolding desk_of
line_read s known = read_written (desk_of s) (desk_fits s (known_octets s known)) 20 (λ c. asked_sized (take 353 s) (drop 353 s))

pub ruleset end_cases = (end_inside, end_counted, desk_count, desk_buffer)

pub ruleset line_cases = (line_inside, line_counted, line_count, line_buffer, line_read)
