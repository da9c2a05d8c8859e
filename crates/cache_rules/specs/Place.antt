-- A place of the cache (document 02, C-11): its octets, the slip in it, and what the rest of the cache sees of it.
-- width, places; slip_size, card_width, WholeCard, says_of, is_said; kind_at, slip_in, card_at, says_at, place_ok, place_of;
-- this_of, next_of, stale_at, is_stale, wins_of. Laws are in PlaceLaws and FitLaws.
-- The rest of the cache sees nothing else of a place: its width, a kind's sizes and what its slip says, when a slip is
-- stale, and which of two slips wins. Assumes nothing.
use Rattle.std.specs.Prelude.{ℕ, ◌+◌, ◌-◌, Bool, true, false, cond, List, ◌++◌, ltb, leb, length, get_or, take, drop, replicate}
use Rattle.answer.specs.declared.Card.{Card}
use Rattle.answer.specs.Card.{all_zero}
use Rattle.answer.specs.Verdict.{kind_of}
use Rattle.answer.specs.declared.Verdict.{Verdict}
use Rattle.answer.specs.declared.Verdict.TheVariants.{Good, Revoked, Unknown, Refused}
use Rattle.answer.specs.declared.Answer.{Answer}
use Rattle.slip.specs.Table.{row_of, card_size, size_of}
use Rattle.slip.specs.Slip.{read_of, Sized}
use Rattle.freshness.specs.declared.Clock.{Clock}

-- 64 places of 87 octets
abbrev pub width : ℕ
width = 87

abbrev pub places : ℕ
places = 64

-- ---- a slip

-- how many octets a kind's slip has, and how many of them are its card's
abbrev pub slip_size : ℕ → ℕ
slip_size kind = size_of 20 kind

abbrev pub card_width : ℕ → ℕ
card_width kind = card_size 20 (row_of kind)

-- a card as a slip can have it
abbrev pub WholeCard : Card → Type 0
WholeCard card = Sized 20 card

-- what a slip says; a broken one is read as a refusal
abbrev pub says_of : List ℕ → Answer
says_of t = read_of 20 t

-- it is good, revoked or unknown: a slip of kind 01 to 03 that keeps the slip rules
unfoldable pub is_said : Answer → Bool
is_said a = ltb (kind_of a.verdict) 4

-- ---- what stands in a place

-- the kind, 0 where the place is empty
abbrev pub kind_at : List ℕ → ℕ
kind_at p = get_or p 0 0

-- the octets of the slip
unfoldable pub slip_in : List ℕ → List ℕ
slip_in p = take (slip_size (kind_at p)) p

-- the octets of the card: those of both hashes, the serial's length and the serial; none where the place is empty
unfoldable pub card_at : List ℕ → List ℕ
card_at p = take (card_width (kind_at p)) (drop 1 p)

-- what the slip says
unfoldable pub says_at : List ℕ → Answer
says_at p = says_of (slip_in p)

-- a place is empty, all zeros, or a slip of kind 01 to 03 with zeros after it
unfoldable pub place_ok : List ℕ → Bool
place_ok p = cond (all_zero p) true (cond (is_said (says_at p)) (all_zero (drop (slip_size (kind_at p)) p)) false)

-- the place of a slip
unfoldable pub place_of : List ℕ → List ℕ
place_of t = t ++ replicate (width - length t) 0

-- ---- its times

-- thisUpdate and nextUpdate; a refusal has none
abbrev pub this_of : Verdict → ℕ
this_of (Good this next) = this
this_of (Revoked this next at reason) = this
this_of (Unknown this next) = this
this_of (Refused number status) = 0

abbrev pub next_of : Verdict → ℕ
next_of (Good this next) = next
next_of (Revoked this next at reason) = next
next_of (Unknown this next) = next
next_of (Refused number status) = 0

-- stale: past nextUpdate plus tolerance
unfoldable pub stale_at : Clock → Verdict → Bool
stale_at clock v = ltb (next_of v + clock.tolerance) clock.now

abbrev pub is_stale : Clock → List ℕ → Bool
is_stale clock p = stale_at clock (says_at p).verdict

-- of two slips for one card the new one stays unless its thisUpdate is earlier
unfoldable pub wins_of : List ℕ → List ℕ → Bool
wins_of new held = leb (this_of (says_at held).verdict) (this_of (says_at new).verdict)
