-- A walk: made at place 0, what a step of it says and hands out, and the walk after a step.
-- start_of, say_of, hand_of, moved_of.
-- Assumes nothing.
use Rattle.std.specs.Prelude.{ℕ, List}
use Rattle.std.specs.Borrow.{Bor}
use Rattle.show.specs.Shown.{entry_of}
use Rattle.show.specs.declared.Entry.{Entry}
use Rattle.walk_rules.specs.Step.{part_of, place_next}
use Rattle.walk_rules.specs.declared.Walk.{Walk}

-- at the first entry of a lent response
abbrev pub start_of : Bor (List ℕ) → Walk
start_of response = record { response = response; place = 0 }

-- what a step says
abbrev pub say_of : Walk → Entry
say_of w = entry_of w.response.now w.place

-- the octets that it hands out
abbrev pub hand_of : Walk → List ℕ
hand_of w = part_of w.response.now w.place

-- the same response, and the place after the step
abbrev pub moved_of : Walk → Walk
moved_of w = record { response = w.response; place = place_next w.response.now w.place }
