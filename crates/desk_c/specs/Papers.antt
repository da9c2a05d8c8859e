-- What the C functions on slips and requests answer.
-- slip_number; size_or0, request_size, request_in.
-- Assumes nothing.
use Rattle.std.specs.Prelude.{ℕ, cond, List, eqb, length}
use Rattle.answer.specs.declared.Verdict.{Verdict}
use Rattle.answer.specs.declared.Verdict.TheVariants.{Good, Revoked, Unknown, Refused}
use Rattle.fields.specs.Field.{card_in}
use Rattle.fields.specs.Output.{output_of, output_in}
use Rattle.fields.specs.declared.Output.{Output}
use Rattle.fields.specs.declared.Output.TheVariants as output
use Rattle.request.specs.Request.{request_of, request_refusal}

-- of what a slip reads as: 17 where it breaks the slip rules, else 0
unfoldable pub slip_number : Verdict → ℕ
slip_number (Good this next) = 0
slip_number (Revoked this next at reason) = 0
slip_number (Unknown this next) = 0
slip_number (Refused number status) = cond (eqb number 17) 17 0

-- how many octets were written, 0 where there is a refusal
unfoldable pub size_or0 : Output → ℕ
size_or0 (output.Octets n) = n
size_or0 (output.Refused number) = 0

-- of the request for a card of 61 octets
unfoldable pub request_size : List ℕ → ℕ → ℕ
request_size card size =
    cond (eqb (length card) 61) (size_or0 (output_of (request_refusal (card_in 20 card)) size (length (request_of (card_in 20 card))))) 0

-- the buffer with the request first and the rest unchanged; as it was where there is a refusal
unfoldable pub request_in : List ℕ → List ℕ → List ℕ
request_in card out = cond (eqb (length card) 61) (output_in (request_refusal (card_in 20 card)) out (request_of (card_in 20 card))) out
