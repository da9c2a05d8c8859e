-- The functions that the promises speak of, continued: those that write, the slip reader, a step of a walk, and the desk.
-- write_request, write_slip, read_slip, next and line_for, each with _met and _tells; what next tells is in
-- SettledWalk.
-- What _met and _tells say, and Tells, are in Functions. The arguments `a` are counted `a.0`, `a.1.0`; a lent buffer is
-- among them, and as it is left among the parameters at exit `e`.
-- Assumes nothing.
use Rattle.std.specs.Prelude.{◌≡◌, length}
use Rattle.octets.specs.Buffer.{put_in, put_size}
use Rattle.fields.specs.Output.{output_of, output_in}
use Rattle.request.specs.Request.{request_of, request_refusal}
use Rattle.slip.specs.Slip.{slip_of, slip_refusal, read_of}
use Rattle.desk_question.specs.Line.{line_of}
use Rattle.request.proofs.write_request.Reads as write_request
use Rattle.request.proofs.write_request.Statement as write_request_contract
use Rattle.request.proofs.write_request.Met as write_request_theorem
use Rattle.slip_write.proofs.write_slip.Reads as write_slip
use Rattle.slip_write.proofs.write_slip.Statement as write_slip_contract
use Rattle.slip_write.proofs.write_slip.Met as write_slip_theorem
use Rattle.slip_read.proofs.read_slip.Reads as read_slip
use Rattle.slip_read.proofs.read_slip.Statement as read_slip_contract
use Rattle.slip_read.proofs.read_slip.Met as read_slip_theorem
use Rattle.walk.proofs.next.Statement as next_contract
use Rattle.walk.proofs.next.Met as next_theorem
use Rattle.desk_line.proofs.line_for.Reads as line_for
use Rattle.desk_line.proofs.line_for.Statement as line_for_contract
use Rattle.desk_line.proofs.line_for.Met as line_for_theorem
use Rattle.contracts.specs.Functions.{Tells}

-- ── request::write_request(card, out): how many octets or why none, and the buffer ──
pub write_request_met : {M : Type 1} → write_request_contract.statement M
write_request_met = write_request_theorem.met

pub write_request_tells : Tells write_request.Learnt (λ k a z e.
    (z ≡ output_of (request_refusal a.0) (length a.1.0.now) (length (request_of a.0)))
    × (e.1.0.now ≡ output_in (request_refusal a.0) a.1.0.now (request_of a.0)))
write_request_tells k a z e p = (p.0, p.1)

-- ── slip_write::write_slip(answer, out): the same of a slip ──
pub write_slip_met : {M : Type 1} → write_slip_contract.statement M
write_slip_met = write_slip_theorem.met

pub write_slip_tells : Tells write_slip.Learnt (λ k a z e.
    (z ≡ output_of (slip_refusal a.0) (length a.1.0.now) (length (slip_of a.0)))
    × (e.1.0.now ≡ output_in (slip_refusal a.0) a.1.0.now (slip_of a.0)))
write_slip_tells k a z e p = (p.0, p.1)

-- ── slip_read::read_slip(slip): its answer, or 17 ──
pub read_slip_met : {M : Type 1} → read_slip_contract.statement M
read_slip_met = read_slip_theorem.met

pub read_slip_tells : Tells read_slip.Learnt (λ k a z e. z ≡ read_of 20 a.0.now)
read_slip_tells k a z e p = p

-- ── walk::next(walk): what the step says and hands out, and the walk then ──
pub next_met : {M : Type 1} → next_contract.statement M
next_met = next_theorem.met

-- ── desk_line::line_for(input, out): the program's line, or 0 and the buffer as it was ──
pub line_for_met : {M : Type 1} → line_for_contract.statement M
line_for_met = line_for_theorem.met

pub line_for_tells : Tells line_for.Learnt (λ k a z e.
    (z ≡ put_size a.1.0.now (line_of a.0.now))
    × (e.1.0.now ≡ put_in a.1.0.now 0 (line_of a.0.now)))
line_for_tells k a z e p = (p.0, p.1.0)
