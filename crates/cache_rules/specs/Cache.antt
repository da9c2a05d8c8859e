-- The cache (document 02, C-11): what it is, what filing a slip does, what asking for a card gives.
-- room_of, place_in, all_fit, is_cache; takes, filing_refusal, room_after, filed_by, left_by, filed_of, buffer_of; told,
-- not_held, missed_at, said_at, ask_of.
-- A refusal's number: 19 no such cache; 1 a card, time or tolerance out of range; 17 no slip of kind 01 to 03; 20 no
-- place. A filing's refusals have their numbers in Numbers. Which place has a card, in plain words, is in Has; many
-- filings are in Many.
-- Laws are in CacheLaws, RefusalLaws, FilingLaws, AfterLaws, AskLaws and HeldLaws. Assumes nothing.
use Rattle.std.specs.Prelude.{ℕ, ◌*◌, Bool, true, false, cond, eqb, ltb, length, get_or, Option, None, Some, Ok, Err}
use mathlib.Core.List.{List, [], ◌∷◌, flatten}
use Rattle.freshness.specs.Clock.{clock_ok}
use Rattle.freshness.specs.Fresh.{fresh_of, fresh_refusal}
use Rattle.answer.specs.declared.Card.{Card}
use Rattle.answer.specs.declared.Verdict.{Verdict}
use Rattle.answer.specs.declared.Answer.{Answer}
use Rattle.answer.specs.Card.{empty_card, card_ok}
use Rattle.answer.specs.Verdict.{refused}
use Rattle.slip.specs.Slip.{card_octets}
use Rattle.cache_room.specs.Parts.{parts_of}
use Rattle.cache_room.specs.Room.{held_at, cards_once, count, taken_at, filed_in}
use Rattle.freshness.specs.declared.Clock.{Clock}
use Rattle.cache_rules.specs.declared.Unfiled.{Unfiled}
use Rattle.cache_rules.specs.declared.Unfiled.TheVariants as unfiled
use Rattle.cache_rules.specs.declared.Told.{Told}
use Rattle.cache_rules.specs.Numbers.{Filed}
use Rattle.cache_rules.specs.Place.{width, places, card_at, says_at, is_said, place_ok, place_of, this_of, next_of, is_stale, wins_of, says_of}

-- ---- a cache

-- the places of a buffer
unfoldable pub room_of : List ℕ → List (List ℕ)
room_of s = parts_of width places s

abbrev pub place_in : List ℕ → ℕ → List ℕ
place_in s i = get_or (room_of s) i []

-- each place is empty, or holds a slip and then zeros
unfoldable pub all_fit : List (List ℕ) → Bool
all_fit [] = true
all_fit (p ∷ l) = cond (place_ok p) (all_fit l) false

-- exactly 64 places of 87 octets, each of which fits, and no card in two of them
unfoldable pub is_cache : List ℕ → Bool
is_cache s = cond (eqb (length s) (width * places)) (cond (all_fit (room_of s)) (cards_once card_at (room_of s)) false) false

-- ---- filing a slip

-- what is answered, by the refusal if there is one
abbrev pub filed_by : Option Unfiled → ℕ → Filed
filed_by None n = Ok n
filed_by (Some e) n = Err e

-- what is left: the new octets, or those that were there
abbrev pub left_by : Option Unfiled → List ℕ → List ℕ → List ℕ
left_by None new old = new
left_by (Some e) new old = old

module _ (clock : Clock) (s t : List ℕ) where
  -- the place that the slip takes: its card's, else the first that is empty or stale; 64 where there is none
  unfoldable pub takes : ℕ
  takes = taken_at card_at (is_stale clock) (card_at (place_of t)) (room_of s)

  -- 19, 1, 17, 20, or none
  unfoldable pub filing_refusal : Option Unfiled
  filing_refusal =
      cond (is_cache s)
      (cond (clock_ok clock)
      (cond (is_said (says_of t))
      (cond (ltb takes places) None (Some unfiled.Full))
      (Some unfiled.Slip))
      (Some unfiled.Clock))
      (Some unfiled.NoCache)

  -- the places afterwards, where it is not refused
  unfoldable pub room_after : List (List ℕ)
  room_after = filed_in card_at (is_stale clock) wins_of (place_of t) (room_of s)

  -- what it answers
  unfoldable pub filed_of : Filed
  filed_of = filed_by filing_refusal (count card_at room_after)

  -- what it leaves in the buffer
  unfoldable pub buffer_of : List ℕ
  buffer_of = left_by filing_refusal (flatten room_after) s

-- ---- asking for a card

-- an answer as it is told, a refusal's too
unfoldable pub told : Answer → Told
told a = record { asked = Some a.verdict; card = a.card }

unfoldable pub not_held : Told
not_held = record { asked = None; card = empty_card }

-- the number of the rule that a slip's times miss at a time, by the check's own judgement, or 0
unfoldable pub missed_at : Clock → Verdict → ℕ
missed_at clock v = fresh_refusal (fresh_of (this_of v) (Some (next_of v)) clock.now clock.tolerance)

-- what a slip's answer is at a time: refused where its times miss a rule, else as it stands
unfoldable pub said_at : Clock → Answer → Answer
said_at clock a = cond (eqb (missed_at clock a.verdict) 0) a (refused (missed_at clock a.verdict) 0)

-- 19, 1, not held, 15, 16, or the slip's answer
unfoldable pub ask_of : Clock → Card → List ℕ → Told
ask_of clock card s =
    cond (is_cache s)
    (cond (clock_ok clock)
    (cond (card_ok card)
    (cond (ltb (held_at card_at (card_octets card) (room_of s)) places)
    (told (said_at clock (says_at (place_in s (held_at card_at (card_octets card) (room_of s))))))
    not_held)
    (told (refused 1 0)))
    (told (refused 1 0)))
    (told (refused 19 0))
