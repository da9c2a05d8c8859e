-- Two responses whose signed readings are the same get the same answer (document 02, C-23).
-- same_signed. What a signed reading answers is in specs/OnlySigned, what follows from this in SameAnswer and OnlySigned.
-- Assumes nothing.
use Rattle.std.specs.Prelude.{ℕ, ◌≤◌, ◌≡◌, List, length}
use Rattle.std.proofs.Common.{sym, ap, ◌∙◌}
use Rattle.layout.specs.Reading.{Basic, basic}
use Rattle.layout.specs.Read.{reads}
use Rattle.layout.proofs.Read.{reading}
use Rattle.rules.specs.declared.Question.{Question}
use Rattle.rules.specs.Ruling.{answer_of}
use Rattle.promises.specs.OnlySigned.{spoken, answer_spoken}

-- two responses whose signed readings are the same get the same answer to every question
pub same_signed : (q : Question) (name s t : List ℕ) (b c : Basic) → length s ≤ 16384 → length t ≤ 16384
    → reading s ≡ reads (basic b) → reading t ≡ reads (basic c) → b.signed ≡ c.signed → answer_of q name s ≡ answer_of q name t
same_signed q name s t b c l m e f i = answer_spoken q name s b l e ∙ ap (spoken q name) i ∙ sym (answer_spoken q name t c m f)
