-- How long an answer may be, and that a buffer with that much room holds all of it.
-- line_most, cache_most; slip_most, line_most_lem, cache_most_lem; wrote_inside, wrote_all.
-- Assumes nothing.
use Rattle.std.specs.Prelude.{ℕ, suc, ◌+◌, ◌*◌, ◌≤◌, ◌≡◌, refl, Bool, true, false, cond, List, [], ◌∷◌, eqb, ltb, length, get_or, take, drop, Ok, Err}
use Rattle.std.proofs.Common.{arith, ⊎_elim, ap, ap₂, ◌∙◌, lit≤, length-take, take_at, le-ltb, ltb-false}
use Rattle.octets.specs.Octets.{Octets}
use Rattle.octets.specs.BufferLaws.{put_in_room, put_in_length}
use Rattle.octets.specs.Number.{octets_of}
use Rattle.octets.specs.NumberLaws.{octets_length}
use Rattle.hexadecimal.specs.Hex.{hex_line}
use Rattle.hexadecimal.specs.HexLaws.{line_length}
use Rattle.freshness.specs.declared.Clock.{Clock}
use Rattle.freshness.specs.Clock.{clock_ok}
use Rattle.slip.specs.Table.{good_row, revoked_row, unknown_row, refusal_row, no_row, row_of, row_in, body_size, size_of}
use Rattle.slip.specs.Numbers.{total}
use Rattle.cache_rules.specs.Numbers.{Filed, unfiled_number}
use Rattle.cache_rules.specs.Place.{width, places, kind_at, slip_in, slip_size}
use Rattle.cache_rules.specs.Cache.{is_cache, filed_of}
use Rattle.cache_rules.proofs.CacheLaws.{cache_exactly}
use Rattle.cache_places.specs.Evenly.{evenly}
use Rattle.cache_places.specs.EvenlyLaws.{even_length}
use Rattle.cache_ask.specs.declared.Sought.{Sought}
use Rattle.cache_ask.specs.declared.Sought.TheVariants.{At, NotHeld, Refused}
use Rattle.cache_ask.specs.Found.{ask_found}
use Rattle.cache_line.specs.Input.{is_new, clock_in, begins_at, paper_in, cache_in}
use Rattle.cache_line.specs.Marks.{marks_of}
use Rattle.cache_line.specs.Reply.{numbered, accepted_reply, filed_reply, found_reply, list_reply, reply_with, reply_of, cache_of}
use Rattle.cache_line.specs.Wrote.{Wrote}
use Rattle.cache_line.specs.RoomTheorem.{follows_fits}

-- four digits, two for each octet of the longest slip, and a line feed
abbrev pub line_most : ℕ
line_most = 4 + 2 * width + 1

-- the octets of a cache
abbrev pub cache_most : ℕ
cache_most = width * places

-- ---- a slip

-- no kind's slip is longer than a place
size_most : (kind : ℕ) → slip_size kind ≤ 87
unfolding size_of body_size row_of row_in total
size_most kind = go (eqb kind 1) (eqb kind 2) (eqb kind 3) (eqb kind 4)
  where
    go : (a b c d : Bool) → suc (body_size 20 (cond a good_row (cond b revoked_row (cond c unknown_row (cond d refusal_row (no_row kind)))))) ≤ 87
    go true b c d = lit≤ tt
    go false true c d = lit≤ tt
    go false false true d = lit≤ tt
    go false false false true = lit≤ tt
    go false false false false = lit≤ tt

pub slip_most : (p : List ℕ) → length (slip_in p) ≤ 87
unfolding slip_in
slip_most p = omega (arith, length-take (slip_size (kind_at p)) p, size_most (kind_at p))

-- ---- a reply

number_size : (n : ℕ) → length (numbered n) ≤ 89
unfolding numbered
number_size n = omega (arith, octets_length 2 n)

body_size_lem : (s : List ℕ) → length s ≤ 87 → length (accepted_reply s) ≤ 89
unfolding accepted_reply
body_size_lem s h = omega arith

marks_length : (clock : Clock) (l : List (List ℕ)) → length (marks_of clock l) ≡ length l
unfolding marks_of
marks_length clock [] = refl
marks_length clock (p ∷ l) = ap suc (marks_length clock l)

filed_size : (r : Filed) → length (filed_reply r) ≤ 89
unfolding filed_reply
filed_size (Ok n) = body_size_lem (octets_of 1 n) (omega (arith, octets_length 1 n))
filed_size (Err e) = number_size (unfiled_number e)

found_size : (s : List ℕ) (f : Sought) → length (found_reply s f) ≤ 89
unfolding found_reply
found_size s (At i) = body_size_lem (slip_in (get_or (evenly s) i [])) (slip_most (get_or (evenly s) i []))
found_size s NotHeld = number_size 256
found_size s (Refused n) = number_size n

list_size : (clock : Clock) (paper s : List ℕ) → length (list_reply clock paper s) ≤ 89
unfolding list_reply
list_size clock paper s = go (is_cache s) (clock_ok clock) (eqb (length paper) 0)
  where
    go : (a b c : Bool) → length (cond a (cond b (cond c (accepted_reply (marks_of clock (evenly s))) (numbered 1)) (numbered 1)) (numbered 19)) ≤ 89
    go false b c = number_size 19
    go true false c = number_size 1
    go true true false = number_size 1
    go true true true = body_size_lem (marks_of clock (evenly s)) (omega (arith, marks_length clock (evenly s), even_length s))

with_size : (operation : ℕ) (clock : Clock) (paper s : List ℕ) → length (reply_with operation clock paper s) ≤ 89
unfolding reply_with
with_size operation clock paper s = go (eqb operation 1) (eqb operation 2) (eqb operation 3)
  where
    go : (a b c : Bool)
        → length (cond a (filed_reply (filed_of clock s paper)) (cond b (found_reply s (ask_found clock paper s)) (cond c (list_reply clock paper s) (numbered 1))))
        ≤ 89
    go true b c = filed_size (filed_of clock s paper)
    go false true c = found_size s (ask_found clock paper s)
    go false false true = list_size clock paper s
    go false false false = number_size 1

reply_size : (l : List ℕ) → length (reply_of l) ≤ 89
unfolding reply_of
reply_size l = go (is_new l) (eqb (begins_at l) 0)
  where
    go : (a b : Bool) → length (cond a (numbered 0) (cond b (numbered 1) (reply_with (get_or l 0 0) (clock_in l) (paper_in l) (cache_in l)))) ≤ 89
    go true b = number_size 0
    go false true = number_size 1
    go false false = with_size (get_or l 0 0) (clock_in l) (paper_in l) (cache_in l)

pub line_most_lem : (l : List ℕ) → length (hex_line (reply_of l)) ≤ line_most
line_most_lem l = omega (arith, line_length (reply_of l), reply_size l)

pub cache_most_lem : (l : List ℕ) → Octets l → length (cache_of l) ≤ cache_most
cache_most_lem l o =
    ⊎_elim
    (λ (e : cache_of l ≡ []). omega (arith, ap length e))
    (λ (e : is_cache (cache_of l) ≡ true). omega (arith, ((cache_exactly (cache_of l)).0 e).0))
    (follows_fits l o)

-- ---- a buffer with room enough

module _ (before new : List ℕ) (n : ℕ) (after : List ℕ) (w : Wrote before new n after) where
  -- what was written is in the buffer
  pub wrote_inside : n ≤ length after
  wrote_inside = rw (w.octets, put_in_length before 0 new) (go (ltb (length before) (length new)) refl w.count)
    where
      go : (b : Bool) → ltb (length before) (length new) ≡ b → n ≡ cond b 0 (length new) → n ≤ length before
      go true e q = omega arith
      go false e q = omega (arith, ltb-false (length before) (length new) e)

  -- all of it, where there was room
  pub wrote_all : length new ≤ length before → take n after ≡ new
  wrote_all h =
      let e : n ≡ length new = rw (le-ltb (length before) (length new) h) at w.count in
      ap₂ take e (w.octets ∙ put_in_room before 0 new (omega arith))
      ∙ take_at new (drop (0 + length new) before) (length new) refl
