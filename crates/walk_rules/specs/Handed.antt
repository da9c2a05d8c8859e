-- Many steps of a walk: the parts that they hand out, in order, and the walk after them.
-- at; given_by, handed, after_steps; Stays. One step is in Walked; the laws are in HandedLaws.
-- Assumes nothing.
use Rattle.std.specs.Prelude.{ℕ, zero, suc, ◌≡◌, List, [], ◌∷◌, ◌++◌}
use Rattle.std.specs.Borrow.{Bor}
use Rattle.show.specs.declared.Entry.{Entry}
use Rattle.show.specs.declared.Entry.TheVariants as entry
use Rattle.walk_rules.specs.Walked.{say_of, hand_of, moved_of}
use Rattle.walk_rules.specs.declared.Walk.{Walk}

-- the walk over a lent response that is at this place
abbrev pub at : Bor (List ℕ) → ℕ → Walk
at response k = record { response = response; place = k }

-- a step that says where an entry is hands out one part; at the end or with a refusal it hands out none
abbrev pub given_by : Entry → List ℕ → List (List ℕ)
given_by (entry.At start n) part = part ∷ []
given_by entry.End part = []
given_by (entry.Refused n c p) part = []

-- the parts that n steps hand out, in order
unfoldable pub handed : ℕ → Walk → List (List ℕ)
handed zero w = []
handed (suc n) w = given_by (say_of w) (hand_of w) ++ handed n (moved_of w)

-- the walk after n steps
unfoldable pub after_steps : ℕ → Walk → Walk
after_steps zero w = w
after_steps (suc n) w = after_steps n (moved_of w)

-- a step at this place says so, hands out nothing, and the walk stays
pub record Stays (response : Bor (List ℕ)) (k : ℕ) (said : Entry) : Type 0 where
  pub says : say_of (at response k) ≡ said
  pub empty : hand_of (at response k) ≡ []
  pub none : given_by (say_of (at response k)) (hand_of (at response k)) ≡ []
  pub stays : moved_of (at response k) ≡ at response k
