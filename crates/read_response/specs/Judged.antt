-- What a response is judged to be.
-- Judged. By which rules is in Parts.
-- Assumes nothing.
use Rattle.std.specs.Prelude.{Result}
use Rattle.read_response.specs.declared.Parts.{Parts}
use Rattle.read_response.specs.declared.Unread.{Unread}

-- where the parts of a basic response are, or why it is none
abbrev pub Judged : Type 0
Judged = Result Parts Unread
