-- That a reading gives the first place of a described layout's faults, and fits exactly where there is
-- none.
-- PlacedHead (of an element), Placed (of a row). That each combinator of codec does, beside the line of
-- the description that says it, is in PlacedLaws.
-- Assumes nothing.
use Rattle.std.specs.Prelude.{ℕ, List}
use Rattle.codec.specs.Codec.{Read, Got}
use Rattle.faults.specs.Description.{Item, Line}
use Rattle.faults.specs.Faults.{item_faults, line_faults}
use Rattle.faults.specs.Finds.{HeadFinds, WholeFinds}

pub record PlacedHead {A : Type 0} (d : List ℕ → Got A) (i : Item) : Type 0 where
  pub finds : HeadFinds d (item_faults i)

pub record Placed {A : Type 0} (d : List ℕ → Read A) (l : Line) : Type 0 where
  pub finds : WholeFinds d (line_faults l)
