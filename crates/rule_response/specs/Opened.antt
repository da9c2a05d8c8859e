-- The response as a whole, as the code judges it: refusals 2 to 9, else where its entries are.
-- Opened; lacks, refusal_in; cut_at, number_opened, parts_opened, opened_by, opened_of. That 6 to 9 are what the table
-- says is in OpenedLaws; the rest is in CheckLaws of crate rule_check.
-- Assumes nothing.
use Rattle.std.specs.Prelude.{ℕ, Bool, false, cond, List, eqb, take, drop, None, Result, Ok, Err}
use Rattle.element.specs.declared.Span.{Span}
use Rattle.read_critical.specs.Strange.{strange_of}
use Rattle.read_response.specs.Parts.{judged_of}
use Rattle.read_response.specs.Refusals.{refusal, refusal_of}
use Rattle.read_response.specs.declared.Parts.{Parts}
use Rattle.read_response.specs.declared.Refusal.{Refusal}
use Rattle.read_response.specs.Judged.{Judged}
use Rattle.rules.specs.declared.Question.{Question}
use Rattle.rules.specs.Order.{lacks_mark}
use Rattle.rule_tests.specs.StrangePlace.{is_place, response_known}
use Rattle.rule_response.specs.SignerIn.{signs_in}

-- where the entries are, without the header around them, or why the response is refused
abbrev pub Opened : Type 0
Opened = Result Span Refusal

-- role is 2 and one of the three marks is missing
unfoldable pub lacks : ℕ → ℕ → Bool
lacks role marks = cond (eqb role 2) (lacks_mark marks) false

-- the first of 6 to 9 that applies, else 0, by the octets of the responder id and of the extensions
unfoldable pub refusal_in : Question → List ℕ → List ℕ → List ℕ → ℕ
refusal_in q name responder extensions =
    cond (eqb q.verdict 1)
    (cond (signs_in q.signer name responder)
    (cond (lacks q.role q.marks) 8
    (cond (is_place (strange_of response_known extensions)) 9 0))
    7)
    6

-- the octets at a span
abbrev pub cut_at : List ℕ → Span → List ℕ
cut_at s at = take at.len (drop at.start s)

-- by the number
unfoldable pub number_opened : Span → ℕ → Opened
number_opened at n = cond (eqb n 0) (Ok at) (Err (refusal n 0 None))

-- a basic response with these parts
unfoldable pub parts_opened : Question → List ℕ → List ℕ → Parts → Opened
parts_opened q name s p = number_opened p.entries (refusal_in q name (cut_at s p.responder) (cut_at s p.extensions))

-- by what the response is
unfoldable pub opened_by : Question → List ℕ → List ℕ → Judged → Opened
opened_by q name s (Ok p) = parts_opened q name s p
opened_by q name s (Err u) = Err (refusal_of (Err u))

unfoldable pub opened_of : Question → List ℕ → List ℕ → Opened
opened_of q name s = opened_by q name s (judged_of s)
