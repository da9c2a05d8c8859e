-- The slip that the check writes is read back: what the C function knows at its return, and the contract there.
-- check_read.
-- Assumes nothing.
use Rattle.std.specs.Prelude.{ℕ, ◌≡◌, List}
use Rattle.octets.specs.LentLaws.{Known, known_octets}
use Rattle.answer.specs.Verdict.{without_place}
use Rattle.slip.specs.Slip.{slip_of, read_of}
use Rattle.slip.specs.SlipLaws.{read_written}
use Rattle.desk_question.specs.Asked.{asked}
use Rattle.desk_question.proofs.FitsLaws.{fits_slip}
use Rattle.desk_question.proofs.SizeLaws.{asked_sized}

-- the slip of the answer reads as the answer without its place: by its type the response is octets
pub check_read : (q r : List ℕ) → Known r → read_of 20 (slip_of (asked q r)) ≡ without_place (asked q r)
check_read q r known = read_written (asked q r) (fits_slip q r (known_octets r known)) 20 (λ c. asked_sized q r)
