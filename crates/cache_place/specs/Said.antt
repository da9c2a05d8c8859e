-- A slip that may be filed, as the octets at their places have it.
-- serial_fits, times_fit, end_fits, rules_fit, slip_said. That this is what a slip says is in SaidLaws.
-- Assumes nothing.
use Rattle.std.specs.Prelude.{ℕ, Bool, true, false, cond, List, eqb, leb, length, get_or, take, drop}
use Rattle.calendar.specs.Time.{last_second}
use Rattle.answer.specs.Card.{field_ok}
use Rattle.fields.specs.Field.{value_at}
use Rattle.slip.specs.Rules.{times_ok, reason_fits}
use Rattle.slip.specs.Table.{reason_from, row_of}
use Rattle.cache_rules.specs.Place.{slip_size, kind_at}
use Rattle.cache_place.specs.Times.{this_at, next_at}

-- the serial's length stands after the kind and both hashes, the serial's field after it
abbrev pub serial_fits : List ℕ → Bool
serial_fits t = field_ok (get_or t 41 0) (take 20 (drop 42 t))

abbrev pub times_fit : List ℕ → Bool
times_fit t = times_ok (this_at t) (next_at t)

-- what a revoked slip has more: revocationTime, and the reason's octet
unfoldable pub end_fits : List ℕ → Bool
end_fits t = cond (leb (value_at t 78 8) last_second) (reason_fits (reason_from (get_or t 86 0))) false

-- the serial, the times and, where it is revoked, the end keep the rules
unfoldable pub rules_fit : List ℕ → Bool
rules_fit t = cond (serial_fits t) (cond (times_fit t) (cond (eqb (kind_at t) 2) (end_fits t) true) false) false

-- a slip with a card, of its kind's length, that keeps them
unfoldable pub slip_said : List ℕ → Bool
slip_said t = cond (row_of (kind_at t)).carded (cond (eqb (length t) (slip_size (kind_at t))) (rules_fit t) false) false
