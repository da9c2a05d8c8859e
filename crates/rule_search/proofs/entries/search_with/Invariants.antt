-- `rule_search::entries::search_with` meets its contract. The loop is at a place up to which the entries are looked at.
-- Assumes nothing.
use Prim.Native.Nat.{◌-◌}
use lib.ListN.{length}
use Rattle.rule_search.specs.Search.{card_with}
use Rattle.rule_search.proofs.SearchTurns.{Going}
use Rattle.rule_search.proofs.entries.search_with.Given as goal

abbrev pub invariant-entries : goal.invariant-entries
invariant-entries l = Going (card_with l.name l.key l.serial) l.s l.at l.ordinal l.found

abbrev pub decreases-entries : goal.decreases-entries
decreases-entries l = length l.s - l.at
