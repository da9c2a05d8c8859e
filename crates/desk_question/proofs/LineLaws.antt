-- Laws of the program's line: it is a line of hex of at most 87 octets, and the input is cut where its question ends.
-- line_is; end_short, end_long, end_least, cut_question, cut_response; desk_fits, desk_most.
-- The definitions are in Line. Assumes nothing.
use Rattle.std.specs.Prelude.{ℕ, ◌≤◌, ◌<◌, ◌≡◌, refl, Bool, true, false, List, ltb, length, take, drop}
use Rattle.std.proofs.Common.{arith, sym, ◌∙◌, drop_of_length-le, take_all, lt-ltb, le-ltb, ltb-true, ltb-false}
use Rattle.std.proofs.Math.Seq.{take-length, drop-length}
use Rattle.octets.specs.Octets.{Octets}
use Rattle.octets.specs.OctetsLaws.{octets_drop}
use Rattle.slip.specs.Slip.{slip_of, slip_ok}
use Rattle.hexadecimal.specs.Hex.{hex_line}
use Rattle.desk_question.specs.Asked.{desk_of}
use Rattle.desk_question.proofs.FitsLaws.{fits_slip}
use Rattle.desk_question.proofs.SizeLaws.{asked_most}
use Rattle.desk_question.specs.Line.{question_end, line_of}

-- the line is that of the slip
pub line_is : (s : List ℕ) → line_of s ≡ hex_line (slip_of (desk_of s))
unfolding line_of hex_line
line_is s = refl

-- ---- where the question ends

pub end_short : (n : ℕ) → n < 353 → question_end n ≡ n
unfolding question_end
end_short n h = rw (lt-ltb n 353 h)

pub end_long : (n : ℕ) → 353 ≤ n → question_end n ≡ 353
unfolding question_end
end_long n h = rw (le-ltb n 353 h)

module _ (s : List ℕ) where
  -- inside the input; what stands before it is the question, what follows the response
  cut : (t : Bool) → ltb (length s) 353 ≡ t
      → (question_end (length s) ≤ length s) × (take (question_end (length s)) s ≡ take 353 s) × (drop (question_end (length s)) s ≡ drop 353 s)
  cut true e =
      let h = ltb-true (length s) 353 e in
      let most : length s ≤ 353 = omega arith in
      rw (end_short (length s) h)
      (omega arith, take-length s ∙ sym (take_all 353 s most), drop-length s ∙ sym (drop_of_length-le s most))
  cut false e =
      let h = ltb-false (length s) 353 e in
      rw (end_long (length s) h) (h, refl, refl)

  pub end_least : question_end (length s) ≤ length s
  end_least = (cut (ltb (length s) 353) refl).0

  pub cut_question : take (question_end (length s)) s ≡ take 353 s
  cut_question = (cut (ltb (length s) 353) refl).1

  pub cut_response : drop (question_end (length s)) s ≡ drop 353 s
  cut_response = (cut (ltb (length s) 353) refl).2

  -- ---- the slip

  -- the answer can be written as a slip, of at most 87 octets
  pub desk_fits : Octets s → slip_ok (desk_of s) ≡ true
  unfolding desk_of
  desk_fits o = fits_slip (take 353 s) (drop 353 s) (octets_drop 353 s o)

  pub desk_most : length (slip_of (desk_of s)) ≤ 87
  unfolding desk_of
  desk_most = asked_most (take 353 s) (drop 353 s)
