-- Each combinator of codec gives the first place of the faults of the line of the description that says it.
-- A law for each constructor of Item and Line, named after it; named, called. Elements with no key twice
-- are in DistinctLaws.
-- Assumes nothing.
use Rattle.std.specs.Prelude.{ℕ, ◌≡◌, Bool, List}
use Rattle.std.proofs.Math.Option.{Option}
use Rattle.codec.specs.Codec.{Read, Got, got}
use Rattle.codec.specs.Contents.{filled_dec}
use Rattle.codec.specs.Tagged.{inner, own, tagged_dec}
use Rattle.codec.specs.Mapped.{mapped_dec, called_dec}
use Rattle.codec.specs.Sequence.{end_dec, field_dec, only_dec}
use Rattle.codec.specs.Option.{option_dec}
use Rattle.codec.specs.Maybe.{maybe_dec}
use Rattle.codec.specs.Choice.{choice_dec}
use Rattle.codec.specs.Branch.{branch_dec}
use Rattle.codec.specs.Many.{many_dec}
use Rattle.codec.specs.TreeRead.{tree_dec}
use Rattle.codec.specs.TreeTagged.{tree_tagged_dec}
use Rattle.faults.specs.Description.{Item, leaf, around, either, free, free_with, Line, nothing, then, perhaps, one_or_none, several, depending}
use Rattle.faults.specs.Faults.{unless, content_at, item_faults, line_faults}
use Rattle.faults.specs.Finds.{WholeFinds}
use Rattle.faults.specs.Placed.{PlacedHead, Placed}
use Rattle.faults.proofs.RowLaws.{end_finds, then_finds, perhaps_finds, one_finds, several_finds, depending_finds, named_finds}
use Rattle.faults.proofs.ItemLaws.{leaf_finds, around_finds, either_finds, free_finds, free_with_finds, called_finds}

-- ── elements ──
pub leaf_placed : {A : Type 0} (t : ℕ) (d : List ℕ → Option A) (test : List ℕ → Bool) → WholeFinds (filled_dec d) (λ c. unless (test c))
    → PlacedHead (tagged_dec own t (filled_dec d)) (leaf t test)
unfolding item_faults
leaf_placed t d test w = record { finds = leaf_finds t d test w }

pub around_placed : {A : Type 0} {d : List ℕ → Read A} {l : Line} (t : ℕ) → Placed d l → PlacedHead (tagged_dec inner t d) (around t l)
unfolding item_faults
around_placed {d = d} {l = l} t w = record { finds = around_finds t d (line_faults l) w.finds }

pub either_placed : {A B : Type 0} {d : List ℕ → Got A} {e : List ℕ → Got B} {i j : Item} (t : ℕ) → PlacedHead d i → PlacedHead e j
    → PlacedHead (choice_dec t d e) (either t i j)
unfolding item_faults
either_placed {d = d} {e = e} {i = i} {j = j} t v w = record { finds = either_finds t d (item_faults i) v.finds e (item_faults j) w.finds }

pub free_placed : (d : ℕ) → PlacedHead (tree_dec d) (free d)
unfolding item_faults
free_placed d = record { finds = free_finds d }

pub free_with_placed : (t d : ℕ) → PlacedHead (tree_tagged_dec t d) (free_with t d)
unfolding item_faults
free_with_placed t d = record { finds = free_with_finds t d }

-- other names
pub called : {A B : Type 0} {d : List ℕ → Got A} {i : Item} (f : A → B) → PlacedHead d i → PlacedHead (called_dec f d) i
called {d = d} {i = i} f v = record { finds = called_finds f d (item_faults i) v.finds }

pub named : {A B : Type 0} {d : List ℕ → Read A} {l : Line} (f : A → B) → Placed d l → Placed (mapped_dec f d) l
named {d = d} {l = l} f v = record { finds = named_finds f d (line_faults l) v.finds }

-- ── rows ──
pub end_placed : Placed end_dec nothing
unfolding line_faults
end_placed = record { finds = end_finds }

module _ {A : Type 0} {d : List ℕ → Got A} {i : Item} (v : PlacedHead d i) where
  pub then_placed : {B : Type 0} {e : List ℕ → Read B} {l : Line} → Placed e l → Placed (field_dec d e) (then i l)
  unfolding line_faults
  then_placed {e = e} {l = l} w = record { finds = then_finds d (item_faults i) v.finds e (line_faults l) w.finds }

  pub perhaps_placed : {B : Type 0} {e : List ℕ → Read B} {l : Line} (t : ℕ) → Placed e l → Placed (option_dec t d e) (perhaps t i l)
  unfolding line_faults
  perhaps_placed {e = e} {l = l} t w = record { finds = perhaps_finds d (item_faults i) v.finds e (line_faults l) w.finds t }

  pub only_placed : Placed (only_dec d) (then i nothing)
  unfolding only_dec
  only_placed = named (λ x. x.0) (then_placed end_placed)

  pub one_placed : Placed (maybe_dec d) (one_or_none i)
  unfolding line_faults
  one_placed = record { finds = one_finds d (item_faults i) v.finds }

  pub several_placed : (lo hi : ℕ) → Placed (many_dec d lo hi) (several lo hi i)
  unfolding line_faults
  several_placed lo hi = record { finds = several_finds d (item_faults i) v.finds lo hi }

  -- the test of the value is one of the content
  pub depending_placed : {B C : Type 0} {d' : List ℕ → Read B} {d'' : List ℕ → Read C} {l m : Line} (test : A → Bool) (pass : List ℕ → Bool)
      → ((s : List ℕ) (a : A) (n : ℕ) → d s ≡ got a n → test a ≡ pass (content_at s)) → Placed d' l → Placed d'' m
      → Placed (branch_dec d test d' d'') (depending i pass l m)
  unfolding line_faults
  depending_placed {d' = d'} {d'' = d''} {l = l} {m = m} test pass same w x =
      record { finds = depending_finds d (item_faults i) v.finds test pass same d' (line_faults l) w.finds d'' (line_faults m) x.finds }
