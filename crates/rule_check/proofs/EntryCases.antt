-- The cases of one entry: its extensions, and where they end. Premises are what the code has learned, as it left it.
-- view_sum, view_strange, view_clear, in view_cases; seen_end, seen_is.
-- Assumes nothing.
use Prim.Native.Nat.{◌+◌, ◌-◌, ◌^◌, ◌≤◌, ◌<◌, ℕ}
use native.Mathlib.Omega.{arith}
use mathlib.Core.Path.{◌≡◌, sym, ap, ◌∙◌}
use mathlib.Core.Bool.{Bool, true, false}
use mathlib.Core.List.{List}
use lib.ListN.{length, take, drop}
use mir.Syntax.{w64}
use mir.Val.{Fits}
use Rattle.read_critical.specs.Strange.{strange_of}
use Rattle.read_entry_values.specs.SeenLaws.{seen_inside}
use Rattle.read_entry_values.specs.Looks.{seen_in}
use Rattle.read_entry_values.specs.declared.View.{View}
use Rattle.answer.specs.Verdict.{refused}
use Rattle.answer.specs.declared.Answer.{Answer}
use Rattle.rules.specs.declared.Question.{Question}
use Rattle.rule_tests.specs.StrangePlace.{is_place, entry_known}
use Rattle.rule_check.specs.EntryRuled.{until_ruled, view_ruled, seen_ruled}

-- ── its extensions ──
module _ (q : Question) (s : List ℕ) (v : View) where
  pub view_sum : v.from + v.len ≤ length s → length s < 2 ^ 64 → Fits w64 (v.from + v.len)
  view_sum le z = record { fits = omega arith }

  module _ (t : Bool) (x : t ≡ is_place (strange_of entry_known (take (v.from + v.len - v.from) (drop v.from s)))) (a : Answer) where
    place : t ≡ is_place (strange_of entry_known (take v.len (drop v.from s)))
    place = let i : v.from + v.len - v.from ≡ v.len = omega arith in rw i at x

    pub view_strange : t ≡ true → a ≡ refused 12 0 → a ≡ view_ruled q s v
    unfolding view_ruled
    view_strange e h = rw (sym place ∙ e) h

    pub view_clear : t ≡ false → a ≡ until_ruled q v.standing v.this v.until → a ≡ view_ruled q s v
    unfolding view_ruled
    view_clear e h = rw (sym place ∙ e) h

-- ── the entry ──
module _ (q : Question) (s : List ℕ) (v : View) (x : v ≡ seen_in s) where
  pub seen_end : v.from + v.len ≤ length s
  seen_end = rw x (omega (arith, seen_inside s))

  pub seen_is : (a : Answer) → a ≡ view_ruled q s v → a ≡ seen_ruled q s
  unfolding seen_ruled
  seen_is a h = h ∙ ap (view_ruled q s) x

pub ruleset view_cases = (view_sum, view_strange, view_clear)
