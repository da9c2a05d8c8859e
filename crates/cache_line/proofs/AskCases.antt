-- What the code knows at each return of the answer to an ask, a list and any operation, and the contract there.
-- slip_short, ask_here, ask_none, ask_refused; list_19, list_clock, list_paper, list_marks; same_ask, same_list, same_other;
-- with_file, with_file_cache, with_same_cache. Filing is in Cases, the answer to an input in InputCases.
-- Assumes nothing.
use Prim.Native.Nat.{ℕ, ◌≤◌}
use native.Mathlib.Omega.{arith}
use mathlib.Core.Path.{◌≡◌, sym, ap, ◌∙◌}
use mathlib.Core.Bool.{Bool, true, false, not}
use mathlib.Core.List.{List, []}
use lib.ListN.{length, get_or}
use borrow.Author.Tests.{eq-eqb, ne_eqb, not-true, not-false}
use Rattle.hexadecimal.specs.Hex.{hex_line}
use Rattle.freshness.specs.declared.Clock.{Clock}
use Rattle.freshness.specs.Clock.{clock_ok}
use Rattle.cache_rules.specs.Place.{slip_in}
use Rattle.cache_rules.specs.Cache.{is_cache}
use Rattle.cache_places.specs.Evenly.{evenly}
use Rattle.cache_ask.specs.declared.Sought.{Sought}
use Rattle.cache_ask.specs.declared.Sought.TheVariants.{At, NotHeld, Refused}
use Rattle.cache_ask.specs.Found.{ask_found}
use Rattle.cache_line.specs.Marks.{marks_of}
use Rattle.cache_line.specs.Reply.{numbered, accepted_reply, found_reply, list_reply, reply_with, cache_with}
use Rattle.cache_line.specs.Wrote.{Wrote}
use Rattle.cache_line.specs.SizeLaws.{slip_most}
use Rattle.cache_line.proofs.Cases.{turned, nothing}

pub slip_short : (p slip : List ℕ) → slip ≡ slip_in p → length slip ≤ 87
slip_short p slip e = rw e (slip_most p)

module _ (clock : Clock) (card s : List ℕ) (found : Sought) (e : found ≡ ask_found clock card s) (line : List ℕ) (k : ℕ) (after : List ℕ) where
  abbrev Answers : Type 0
  Answers = Wrote line (hex_line (found_reply s (ask_found clock card s))) k after

  reply : (f : Sought) → found ≡ f → hex_line (found_reply s f) ≡ hex_line (found_reply s (ask_found clock card s))
  reply f q = ap (λ (x : Sought). hex_line (found_reply s x)) (sym q ∙ e)

  pub ask_here : (i : ℕ) → found ≡ At i → (p slip : List ℕ) → p ≡ get_or (evenly s) i [] → slip ≡ slip_in p
      → Wrote line (hex_line (accepted_reply slip)) k after → Answers
  unfolding found_reply
  ask_here i q p slip f g w =
      turned (hex_line (found_reply s (ask_found clock card s))) (ap (λ (x : List ℕ). hex_line (accepted_reply x)) (g ∙ ap slip_in f) ∙ reply (At i) q) w

  pub ask_none : found ≡ NotHeld → Wrote line (hex_line (numbered 256)) k after → Answers
  unfolding found_reply
  ask_none q w = turned (hex_line (found_reply s (ask_found clock card s))) (reply NotHeld q) w

  pub ask_refused : (n : ℕ) → found ≡ Refused n → Wrote line (hex_line (numbered n)) k after → Answers
  unfolding found_reply
  ask_refused n q w = turned (hex_line (found_reply s (ask_found clock card s))) (reply (Refused n) q) w

-- ---- a list

module _ (clock : Clock) (paper s : List ℕ) (line : List ℕ) (k : ℕ) (after : List ℕ) (a : Bool) (e : a ≡ is_cache s) where
  abbrev Lists : Type 0
  Lists = Wrote line (hex_line (list_reply clock paper s)) k after

  pub list_19 : not a ≡ true → Wrote line (hex_line (numbered 19)) k after → Lists
  unfolding list_reply
  list_19 h w = rw (← e, not-true a h) w

  module _ (h : not a ≡ false) (b : Bool) (f : b ≡ clock_ok clock) where
    pub list_clock : not b ≡ true → Wrote line (hex_line (numbered 1)) k after → Lists
    unfolding list_reply
    list_clock g w = rw (← e, not-false a h, ← f, not-true b g) w

    module _ (g : not b ≡ false) where
      pub list_paper : (length paper ≡ 0 → ⊥) → Wrote line (hex_line (numbered 1)) k after → Lists
      unfolding list_reply
      list_paper q w = rw (← e, not-false a h, ← f, not-false b g, ne_eqb (length paper) 0 q) w

      pub list_marks : length paper ≡ 0 → (marks : List ℕ) → marks ≡ marks_of clock (evenly s)
          → Wrote line (hex_line (accepted_reply marks)) k after → Lists
      unfolding list_reply
      list_marks q marks m w = rw (← e, not-false a h, ← f, not-false b g, eq-eqb (length paper) 0 q, ← m) w

-- ---- an operation

module _ (operation : ℕ) (clock : Clock) (paper s line : List ℕ) (k : ℕ) (after : List ℕ) where
  abbrev Replies : Type 0
  Replies = Wrote line (hex_line (reply_with operation clock paper s)) k after

  module _ (h : operation ≡ 1 → ⊥) where
    pub same_ask : operation ≡ 2 → Wrote line (hex_line (found_reply s (ask_found clock paper s))) k after → Replies
    unfolding reply_with
    same_ask e w = rw (ne_eqb operation 1 h, eq-eqb operation 2 e) w

    pub same_list : operation ≡ 3 → Wrote line (hex_line (list_reply clock paper s)) k after → Replies
    unfolding reply_with
    same_list e w = rw (ne_eqb operation 1 h, ne_eqb operation 2 (λ z. omega arith), eq-eqb operation 3 e) w

    pub same_other : (operation ≡ 2 → ⊥) → (operation ≡ 3 → ⊥) → Wrote line (hex_line (numbered 1)) k after → Replies
    unfolding reply_with
    same_other i e w = rw (ne_eqb operation 1 h, ne_eqb operation 2 i, ne_eqb operation 3 e) w

  pub with_file : operation ≡ 1 → Wrote line (hex_line (reply_with 1 clock paper s)) k after → Replies
  with_file e w = rw e w

module _ (operation : ℕ) (clock : Clock) (paper s cache : List ℕ) where
  pub with_file_cache : operation ≡ 1 → (k : ℕ) (after : List ℕ) → Wrote cache (cache_with 1 clock paper s) k after
      → Wrote cache (cache_with operation clock paper s) k after
  with_file_cache e k after w = rw e w

  pub with_same_cache : (operation ≡ 1 → ⊥) → Wrote cache (cache_with operation clock paper s) 0 cache
  unfolding cache_with
  with_same_cache h = rw (ne_eqb operation 1 h) (nothing cache)
