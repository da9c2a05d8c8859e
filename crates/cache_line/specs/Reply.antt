-- What the program `room` answers to an input: the octets whose hex is its line, a number in two octets and
-- what goes with it; and the octets of the cache that follow the line.
-- numbered, accepted_reply; filed_reply, filed_cache, found_reply, list_reply; reply_with, cache_with; new_cache, reply_of, cache_of; replied_to.
-- The number is 0 for none, a refusal's, or 256 for a card that is not held. The input's parts are in Input; that a beginning
-- of an input that is long enough is answered as the whole is in WholeLaws; that the line tells what asking gives is in ToldLaws.
-- Assumes nothing.
use Rattle.std.specs.Prelude.{ℕ, ◌*◌, cond, List, [], ◌∷◌, eqb, ltb, length, get_or, replicate, Ok, Err}
use Rattle.octets.specs.Number.{octets_of}
use Rattle.hexadecimal.specs.Hex.{hex_line}
use Rattle.freshness.specs.declared.Clock.{Clock}
use Rattle.freshness.specs.Clock.{clock_ok}
use Rattle.cache_rules.specs.Numbers.{Filed, unfiled_number}
use Rattle.cache_rules.specs.Place.{width, places, slip_in}
use Rattle.cache_rules.specs.Cache.{is_cache, filed_of, buffer_of}
use Rattle.cache_places.specs.Evenly.{evenly}
use Rattle.cache_ask.specs.declared.Sought.{Sought}
use Rattle.cache_ask.specs.declared.Sought.TheVariants.{At, NotHeld, Refused}
use Rattle.cache_ask.specs.Found.{ask_found}
use Rattle.cache_line.specs.declared.Reply.{Reply}
use Rattle.cache_line.specs.Input.{is_new, clock_in, begins_at, paper_in, cache_in}
use Rattle.cache_line.specs.Marks.{marks_of}

-- a number alone
unfoldable pub numbered : ℕ → List ℕ
numbered n = octets_of 2 n

-- the number 0, and what goes with it
unfoldable pub accepted_reply : List ℕ → List ℕ
accepted_reply body = 0 ∷ 0 ∷ body

-- ---- each operation

-- 01, a filing: how many places are then not empty
unfoldable pub filed_reply : Filed → List ℕ
filed_reply (Ok n) = accepted_reply (octets_of 1 n)
filed_reply (Err e) = numbered (unfiled_number e)

-- and the cache as it is then; none where it is refused
unfoldable pub filed_cache : Filed → List ℕ → List ℕ
filed_cache (Ok n) s = s
filed_cache (Err e) s = []

-- 02, an ask: the slip that the card's place holds
unfoldable pub found_reply : List ℕ → Sought → List ℕ
found_reply s (At i) = accepted_reply (slip_in (get_or (evenly s) i []))
found_reply s NotHeld = numbered 256
found_reply s (Refused n) = numbered n

-- 03, a list: the marks of the places; 19, and 1 for a time or a tolerance out of range or a paper that is not empty
unfoldable pub list_reply : Clock → List ℕ → List ℕ → List ℕ
list_reply clock paper s =
    cond (is_cache s)
    (cond (clock_ok clock)
    (cond (eqb (length paper) 0)
    (accepted_reply (marks_of clock (evenly s)))
    (numbered 1))
    (numbered 1))
    (numbered 19)

-- ---- an operation with its clock, paper and cache

module _ (operation : ℕ) (clock : Clock) (paper s : List ℕ) where
  -- 1 for an operation that there is not
  unfoldable pub reply_with : List ℕ
  reply_with =
      cond (eqb operation 1) (filed_reply (filed_of clock s paper))
      (cond (eqb operation 2) (found_reply s (ask_found clock paper s))
      (cond (eqb operation 3) (list_reply clock paper s)
      (numbered 1)))

  -- a cache follows an accepted filing alone
  unfoldable pub cache_with : List ℕ
  cache_with = cond (eqb operation 1) (filed_cache (filed_of clock s paper) (buffer_of clock s paper)) []

-- ---- an input

-- an empty cache
abbrev pub new_cache : List ℕ
new_cache = replicate (width * places) 0

-- the octets whose hex is the line: 1 where the input ends before the cache begins
unfoldable pub reply_of : List ℕ → List ℕ
reply_of s =
    cond (is_new s) (numbered 0)
    (cond (eqb (begins_at s) 0) (numbered 1)
    (reply_with (get_or s 0 0) (clock_in s) (paper_in s) (cache_in s)))

-- the cache that follows the line
unfoldable pub cache_of : List ℕ → List ℕ
cache_of s =
    cond (is_new s) new_cache
    (cond (eqb (begins_at s) 0) []
    (cache_with (get_or s 0 0) (clock_in s) (paper_in s) (cache_in s)))

-- how many octets of each are written to buffers of n and m octets: all, or none where there is no room for them
abbrev pub replied_to : ℕ → ℕ → List ℕ → Reply
replied_to n m s = record {
  line = cond (ltb n (length (hex_line (reply_of s)))) 0 (length (hex_line (reply_of s)));
  cache = cond (ltb m (length (cache_of s))) 0 (length (cache_of s));
}
