-- `read_extensions::list::read_extensions` meets its contract, by what the A1 holds.
-- Assumes nothing.
use Rattle.std.proofs.Common.{rules}
use Rattle.layout.proofs.Format.{extensions}
use Rattle.read_sequence.specs.CaseLaws.{tagged_closed}
use Rattle.read_extensions.specs.Pieces.{held}
use Rattle.read_extensions.proofs.list.read_extensions.Goals as goal

pub returns : goal.returns
unfolding extensions held
returns c = search (rules, tagged_closed held)
