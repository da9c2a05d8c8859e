-- `read_ending::nexts::judge_next` meets its contract, by the header and the content.
-- Assumes nothing.
use Rattle.std.proofs.Common.{rules}
use Rattle.codec.proofs.Sequence.{only}
use Rattle.layout.proofs.ElementKinds.{time}
use Rattle.layout.proofs.Format.{next_update}
use Rattle.read_sequence.specs.CaseLaws.{tagged_closed}
use Rattle.read_ending.proofs.nexts.judge_next.Goals as goal

pub returns : goal.returns
unfolding next_update
returns c = search (rules, tagged_closed (only time))
