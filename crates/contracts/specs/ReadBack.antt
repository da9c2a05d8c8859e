-- Every slip that the desk writes is read back, without a place: of any call, whatever the octets of its arguments are. That they are octets is in
-- the arguments' types, slices of `u8`; nothing is asked of them.
-- desk_check_reads, line_for_reads.
-- What _tells says of the same calls is in CFunctions and Writers; the arguments `a` and the parameters at exit `e` are counted
-- as there, and `z` is what is returned: the number of octets written, 0 where the buffer has no room for them.
-- Assumes nothing.
use Rattle.std.specs.Prelude.{ℕ, ◌+◌, ◌≡◌, refl, Bool, true, false, cond, List, [], ◌∷◌, ◌++◌, ltb, length, take, drop}
use Rattle.std.proofs.Common.{arith, sym, ap, ◌∙◌, take_at, ltb-false}
use Rattle.octets.specs.Buffer.{put_in, put_size}
use Rattle.octets.specs.BufferLaws.{put_in_room}
use Rattle.answer.specs.Verdict.{without_place}
use Rattle.slip.specs.Slip.{slip_of, read_of}
use Rattle.hexadecimal.specs.Hex.{hex_of}
use Rattle.desk_question.specs.Asked.{asked, desk_of}
use Rattle.desk_question.specs.Line.{line_of}
use Rattle.desk_line.proofs.line_for.Reads as line_for
use Rattle.desk_c.proofs.desk_check.Reads as desk_check
use Rattle.contracts.specs.Functions.{Tells}

-- where octets were written at the start of a buffer, as many octets of it as were written are those
first_octets : (out left new : List ℕ) (z : ℕ) → z ≡ put_size out new → left ≡ put_in out 0 new
    → (z ≡ 0 → ⊥) → take z left ≡ new
first_octets out left new z i j n = go (ltb (length out) (length new)) refl i
  where
    go : (t : Bool) → ltb (length out) (length new) ≡ t → z ≡ cond t 0 (length new) → take z left ≡ new
    go true k i = absurd (n i)
    go false k i =
        let h = ltb-false (length out) (length new) k in
        rw (j, put_in_room out 0 new (omega arith)) (take_at new (drop (0 + length new) out) z (sym i))

-- desk_check(question, response, slip): the octets that were written are read as the answer to the question and the response
pub desk_check_reads : Tells desk_check.Learnt (λ k a z e.
    (z ≡ 0 → ⊥) → read_of 20 (take z e.1.1.0.now) ≡ without_place (asked a.0.now a.1.0.now))
desk_check_reads k a z e p n =
    ap (read_of 20) (first_octets a.1.1.0.now e.1.1.0.now (slip_of (asked a.0.now a.1.0.now)) z p.0 p.1.0 n) ∙ p.1.1

-- desk_line::line_for(input, out): the line that was written is the hex of a slip, and that slip is read as the answer to the input
pub line_for_reads : Tells line_for.Learnt (λ k a z e.
    (z ≡ 0 → ⊥)
    → (take z e.1.0.now ≡ hex_of (slip_of (desk_of a.0.now)) ++ (10 ∷ [])) × (read_of 20 (slip_of (desk_of a.0.now)) ≡ without_place (desk_of a.0.now)))
unfolding line_of
line_for_reads k a z e p n = (first_octets a.1.0.now e.1.0.now (line_of a.0.now) z p.0 p.1.0 n, p.1.1)
