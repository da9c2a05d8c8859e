-- Two responses that pass 1 to 5 and show the same signed part get the same answer (document 02, C-23).
-- same_answer. What a signed reading answers is in specs/OnlySigned; of the desk's octets: OnlySigned.
-- Assumes nothing.
use Rattle.std.specs.Prelude.{ℕ, ◌≡◌, List}
use Rattle.octets.specs.Octets.{Octets}
use Rattle.show.specs.Shown.{signed_of}
use Rattle.rules.specs.declared.Question.{Question}
use Rattle.rules.specs.Ruling.{answer_of}
use Rattle.promises.specs.OnlySigned.{same_part}
use Rattle.promises.specs.Passes.{Passes}
use Rattle.promises.proofs.Passes.{passes_exactly}
use Rattle.promises.proofs.SameSigned.{same_signed}

-- two responses that pass 1 to 5 for one question and show the same signed part get the same answer to it: verdict or number,
-- times, reason, card
pub same_answer : (q : Question) (name s t : List ℕ) → Octets s → Octets t
    → Passes (answer_of q name s) → Passes (answer_of q name t) → signed_of s ≡ signed_of t → answer_of q name s ≡ answer_of q name t
same_answer q name s t o p h k i =
    let (_, l, b, e) = (passes_exactly q name s).0 h in
    let (_, m, c, f) = (passes_exactly q name t).0 k in
    same_signed q name s t b c l m e f ((same_part s t b c o p l m e f).0 i)
