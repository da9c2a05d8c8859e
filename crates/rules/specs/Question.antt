-- The question's ranges (document 01, refusal 1).
-- in_range.
-- Assumes nothing.
use Rattle.std.specs.Prelude.{ℕ, Bool, ◌&&◌, List, leb, length}
use Rattle.freshness.specs.Clock.{now_ok, tolerance_ok}
use Rattle.answer.specs.Card.{card_ok}
use Rattle.rules.specs.declared.Question.{Question}

-- the serial rule, now at most 253,402,300,799, tolerance at most 3,600, verdict at most 2, role 1 to
-- 3, marks at most 7, Name at most 256 octets
unfoldable pub in_range : Question → List ℕ → Bool
in_range q name =
    card_ok q.card
    && now_ok q.now
    && tolerance_ok q.tolerance
    && leb q.verdict 2
    && leb 1 q.role && leb q.role 3
    && leb q.marks 7
    && leb (length name) 256
