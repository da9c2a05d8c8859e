-- `read_oids::names::name_at` meets its contract, by the two headers.
-- Assumes nothing.
use Rattle.read_oids.proofs.NameCases.{name_bare, name_is}
use Rattle.read_oids.proofs.names.name_at.Goals as goal

pub returns-in_default-expect : goal.returns-in_default-expect
returns-in_default-expect c = search name_bare

pub returns : goal.returns
returns c = search name_is
