-- What the functions for C and the program `room` tell of the cache.
-- c_ask_exactly, c_ask_slip, c_ask_nothing, c_ask_inside, c_ask_length, c_file_numbers; room_new, room_files, room_asks, room_lists,
-- room_follows, room_kept.
-- `found_number` and `found_span` are what desk_cache_ask answers of the cache s and the octets c of a card (desk_c: Caches),
-- `filed_number` and `filed_count` what desk_cache_file does (cache_rules: Numbers). Of the program, `reply_of` are the octets whose
-- hex is the line, and `cache_of` those that follow it (cache_line: Reply); `input_form` is an input written in order. `Octets` and
-- `Sized` hold of every value in code. What is read from outside and written there, no theorem says.
-- Assumes nothing.
use Rattle.std.specs.Prelude.{ℕ, ◌+◌, ◌^◌, ◌≤◌, ◌<◌, ◌⊎◌, ◌↔◌, ◌≡◌, refl, true, cond, List, [], ◌∷◌, length, Ok, Err}
use Rattle.octets.specs.Octets.{Octets}
use Rattle.freshness.specs.declared.Clock.{Clock}
use Rattle.freshness.specs.Clock.{clock_ok}
use Rattle.answer.specs.declared.Card.{Card}
use Rattle.answer.specs.declared.Answer.{Answer}
use Rattle.answer.specs.Verdict.{kind_of, refused}
use Rattle.fields.specs.Field.{card_in}
use Rattle.slip.specs.Slip.{slip_of, Sized}
use Rattle.show.specs.Parts.{empty_span}
use Rattle.show.specs.Shown.{octets_in}
use Rattle.desk_intake.specs.Kept.{kept_of}
use Rattle.cache_rules.specs.declared.Unfiled.{Unfiled}
use Rattle.cache_rules.specs.declared.Unfiled.TheVariants as unfiled
use Rattle.cache_rules.specs.Cache.{room_of, is_cache, filed_of, buffer_of, told, not_held, ask_of}
use Rattle.cache_rules.specs.Numbers.{unfiled_number, filed_number, filed_count}
use Rattle.cache_ask.specs.Found.{card_or_zeros, ask_found}
use Rattle.desk_c.specs.Caches.{found_number, found_span}
use Rattle.desk_c.specs.CachesLaws as c
use Rattle.cache_line.specs.Input.{input_form, cache_room_least}
use Rattle.cache_line.specs.Marks.{marks_of}
use Rattle.cache_line.specs.Reply.{numbered, accepted_reply, filed_reply, filed_cache, new_cache, reply_of, cache_of}
use Rattle.cache_line.specs.Told.{told_reply}
use Rattle.cache_line.specs.RoomTheorem as room
use Rattle.cache_line.specs.WholeLaws.{kept_same_reply, kept_same_cache}

-- ── desk_cache_ask ──

module _ (clock : Clock) (card s : List ℕ) where
  -- where the number is not 0, the part is empty; it always lies in the cache
  pub c_ask_nothing : (found_number (ask_found clock card s) ≡ 0 → ⊥) → found_span s (ask_found clock card s) ≡ empty_span
  c_ask_nothing = c.ask_nothing clock card s

  pub c_ask_inside : (found_span s (ask_found clock card s)).start + (found_span s (ask_found clock card s)).len ≤ length s
  c_ask_inside = c.ask_inside clock card s

  -- another number of octets than 61 gives 19 where the buffer is no cache, else 1
  pub c_ask_length : (length card ≡ 61 → ⊥) → found_number (ask_found clock card s) ≡ cond (is_cache s) 1 19
  c_ask_length = c.ask_other_length clock card s

  module _ (o : Octets s) (p : Octets card) (l : length card ≡ 61) where
    -- 256 exactly if asking gives "not held", 0 exactly if it gives an answer, another number exactly if it gives that refusal
    pub c_ask_exactly : (found_number (ask_found clock card s) ≡ 256 ↔ ask_of clock (card_in 20 card) s ≡ not_held)
        × (found_number (ask_found clock card s) ≡ 0 ↔ (a : Answer) × (kind_of a.verdict < 4) × (ask_of clock (card_in 20 card) s ≡ told a))
        × ((n : ℕ) → 0 < n → n < 256 → found_number (ask_found clock card s) ≡ n ↔ ask_of clock (card_in 20 card) s ≡ told (refused n 0))
    c_ask_exactly = c.ask_exactly clock card s o p l

    -- the octets that are shown are the slip of the answer
    pub c_ask_slip : (a : Answer) → kind_of a.verdict < 4 → ask_of clock (card_in 20 card) s ≡ told a
        → octets_in s (found_span s (ask_found clock card s)) ≡ slip_of a
    c_ask_slip = c.ask_slip clock card s o p l

-- ── desk_cache_file: 0 and the count, or the refusal's number and 0 ──

pub c_file_numbers : (n : ℕ)
    → (filed_number (Ok n) ≡ 0) × (filed_count (Ok n) ≡ n)
    × ((e : Unfiled) → (filed_number (Err e) ≡ unfiled_number e) × (filed_count (Err e) ≡ 0))
    × (unfiled_number unfiled.NoCache ≡ 19)
    × (unfiled_number unfiled.Clock ≡ 1)
    × (unfiled_number unfiled.Slip ≡ 17)
    × (unfiled_number unfiled.Full ≡ 20)
c_file_numbers n = (refl, refl, λ e. (refl, refl), refl, refl, refl, refl)

-- ── the program `room` ──

-- operation 00 answers 0, and a cache of zeros follows
pub room_new : (reply_of (0 ∷ []) ≡ numbered 0) × (cache_of (0 ∷ []) ≡ new_cache) × (is_cache new_cache ≡ true)
room_new = ((room.new_answered).0, (room.new_answered).1, room.new_fits)

module _ (clock : Clock) (a : clock.now < 2 ^ 64) (b : clock.tolerance < 2 ^ 64) (s : List ℕ) where
  -- 01 answers the count, and the cache after the filing follows; or a refusal's number, and nothing follows
  pub room_files : (slip : List ℕ)
      → (reply_of (input_form 1 clock slip s) ≡ filed_reply (filed_of clock s slip))
      × (cache_of (input_form 1 clock slip s) ≡ filed_cache (filed_of clock s slip) (buffer_of clock s slip))
  room_files = room.filing_answered clock a b s

  -- 02 answers what asking gives
  pub room_asks : Octets s → (card : Card) → Sized 20 card
      → (reply_of (input_form 2 clock (card_or_zeros card) s) ≡ told_reply (ask_of clock card s)) × (cache_of (input_form 2 clock (card_or_zeros card) s) ≡ [])
  room_asks = room.ask_answered clock a b s

  -- 03 answers the marks of the places
  pub room_lists : is_cache s ≡ true → clock_ok clock ≡ true
      → (reply_of (input_form 3 clock [] s) ≡ accepted_reply (marks_of clock (room_of s))) × (cache_of (input_form 3 clock [] s) ≡ [])
  room_lists = room.list_answered clock a b s

-- whatever the input is, what follows the line is nothing, or a cache
pub room_follows : (l : List ℕ) → Octets l → (cache_of l ≡ []) ⊎ (is_cache (cache_of l) ≡ true)
room_follows = room.follows_fits

-- what is kept of an input in room enough is answered as the whole input
pub room_kept : (n : ℕ) (l : List ℕ) → cache_room_least ≤ n → Octets (kept_of n l) → (reply_of (kept_of n l) ≡ reply_of l) × (cache_of (kept_of n l) ≡ cache_of l)
room_kept n l h o = (kept_same_reply n l h o, kept_same_cache n l h o)
