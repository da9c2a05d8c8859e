-- The cases of the table in code: the size of a slip by its kind.
-- size_known.
-- Assumes nothing.
use Rattle.std.specs.Prelude.{ℕ, ◌≡◌, length}
use Rattle.std.proofs.Common.{sym, ap, ◌∙◌}
use Rattle.answer.specs.declared.Answer.{Answer}
use Rattle.answer.specs.Verdict.{kind_of}
use Rattle.slip.specs.Table.{size_of}
use Rattle.slip.specs.Slip.{slip_of}
use Rattle.slip.specs.SlipLaws.{slip_length}

-- the size by the kind
pub size_known : (a : Answer) → length a.card.name ≡ 20 → length a.card.key ≡ 20 → length a.card.serial ≡ 20
    → (kind size : ℕ) → kind ≡ kind_of a.verdict → size ≡ size_of 20 kind → size ≡ length (slip_of a)
size_known a n k s kind size p q = q ∙ ap (size_of 20) p ∙ sym (slip_length 20 a (λ c. record { name = n; key = k; serial = s }))
