-- The refusal of a response before any question is asked: document 01's number, the status that goes with
-- 4, and the place that goes with 3 (document 02, C-16).
-- refusal, refusal_of.
-- Assumes nothing.
use Rattle.std.specs.Prelude.{ℕ, Option, Some, None, Ok, Err}
use Rattle.read_response.specs.declared.Unread.TheVariants as unread
use Rattle.read_response.specs.Judged.{Judged}
use Rattle.read_response.specs.declared.Refusal.{Refusal}

abbrev pub refusal : ℕ → ℕ → Option ℕ → Refusal
refusal n c p = record { number = n; status = c; place = p }

-- 0 where there is none
unfoldable pub refusal_of : Judged → Refusal
refusal_of (Ok p) = refusal 0 0 None
refusal_of (Err unread.TooLong) = refusal 2 0 None
refusal_of (Err (unread.Unfit m)) = refusal 3 0 (Some m.place)
refusal_of (Err (unread.Failed c)) = refusal 4 c None
refusal_of (Err unread.OtherType) = refusal 5 0 None
