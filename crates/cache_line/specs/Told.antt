-- What the program's line is by what asking gives (crate cache_rules: `ask_of`).
-- told_reply, told_mark. That the line is this one is in ToldLaws.
-- Assumes nothing.
use Rattle.std.specs.Prelude.{ℕ, cond, List, ltb, Option, None, Some}
use Rattle.answer.specs.declared.Card.{Card}
use Rattle.answer.specs.declared.Verdict.{Verdict}
use Rattle.answer.specs.Verdict.{kind_of, number_of, saying}
use Rattle.slip.specs.Slip.{slip_of}
use Rattle.cache_rules.specs.declared.Told.{Told}
use Rattle.cache_line.specs.Reply.{numbered, accepted_reply}

-- the slip of an answer about a card; a refusal's number; 256 for a card that is not held
unfoldable pub asked_reply : Option Verdict → Card → List ℕ
asked_reply None card = numbered 256
asked_reply (Some v) card = cond (ltb (kind_of v) 4) (accepted_reply (slip_of (saying v card))) (numbered (number_of v))

unfoldable pub told_reply : Told → List ℕ
told_reply t = asked_reply t.asked t.card

-- the mark of a place whose card was asked for: 1 where an answer is said, else the refusal's number
unfoldable pub asked_mark : Option Verdict → ℕ
asked_mark None = 0
asked_mark (Some v) = cond (ltb (kind_of v) 4) 1 (number_of v)

unfoldable pub told_mark : Told → ℕ
told_mark t = asked_mark t.asked
