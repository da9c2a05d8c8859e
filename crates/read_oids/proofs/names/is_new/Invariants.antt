-- `read_oids::names::is_new` meets its contract. The loop is at a place up to which no OID is the one
-- that is looked for.
-- Assumes nothing.
use Rattle.read_oids.proofs.NameCases.{Looking}
use Rattle.read_oids.proofs.names.is_new.Given as goal

abbrev pub invariant-loop : goal.invariant-loop
invariant-loop l = Looking l.s l.count l.oid l.counter l.at
