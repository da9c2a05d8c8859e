-- The program answers what is kept of an input as it would answer the whole input: where not all of it is kept, the cache is
-- longer than 5,568 octets either way, and the answer is 19 or 1 whatever its octets are.
-- kept_same_reply, kept_same_cache.
-- What is kept is in crate desk_intake (Kept), the room in Input, the answer in Reply. Assumes nothing.
use Rattle.std.specs.Prelude.{ℕ, ◌+◌, ◌*◌, ◌≤◌, ◌<◌, ◌≡◌, Bool, eqb, leb, length, Err}
use Rattle.std.proofs.Common.{arith, sym, ◌∙◌}
use Rattle.std.proofs.Math.Path.{refl, ap}
use Rattle.std.proofs.Math.Bool.{true, false, cond}
use mathlib.Core.List.{List, []}
use Rattle.std.proofs.Math.ListN.{get_or, length-drop}
use Rattle.std.proofs.Math.Seq.{length-take-le, get_or-take}
use borrow.Author.Tests.{ne_eqb, le-ltb, leb-true, leb-false}
use Rattle.octets.specs.Octets.{Octets}
use Rattle.octets.specs.OctetsLaws.{octets_at}
use Rattle.freshness.specs.declared.Clock.{Clock}
use Rattle.desk_intake.specs.Kept.{kept_of}
use Rattle.desk_intake.specs.KeptLaws.{kept_all}
use Rattle.cache_rules.specs.declared.Unfiled.TheVariants as unfiled
use Rattle.cache_rules.specs.Numbers.{Filed}
use Rattle.cache_rules.specs.Place.{width, places}
use Rattle.cache_rules.specs.Cache.{is_cache, filed_of, buffer_of}
use Rattle.cache_rules.proofs.RefusalLaws.{refusal_exactly, refused_number}
use Rattle.cache_ask.specs.declared.Sought.TheVariants.{Refused}
use Rattle.cache_ask.specs.Found.{ask_found}
use Rattle.cache_line.specs.Input.{is_new, clock_in, begins_at, paper_in, cache_in, cache_room_least}
use Rattle.cache_line.specs.Reply.{numbered, filed_reply, filed_cache, found_reply, list_reply, reply_with, cache_with, reply_of, cache_of}

-- ---- octets that are longer than a cache

-- the number by the operation alone
by_operation : ℕ → List ℕ
by_operation operation = cond (eqb operation 1) (numbered 19) (cond (eqb operation 2) (numbered 19) (cond (eqb operation 3) (numbered 19) (numbered 1)))

module _ (operation : ℕ) (clock : Clock) (paper s : List ℕ) (h : width * places < length s) where
  none : is_cache s ≡ false
  unfolding is_cache
  none = rw (ne_eqb (length s) (width * places) (λ e. omega arith))

  filing : filed_of clock s paper ≡ Err unfiled.NoCache
  filing = (refused_number clock s paper unfiled.NoCache).1 ((refusal_exactly clock s paper).0.1 none)

  asking : ask_found clock paper s ≡ Refused 19
  unfolding ask_found
  asking = rw none

  listing : list_reply clock paper s ≡ numbered 19
  unfolding list_reply
  listing = rw none

  long_reply : reply_with operation clock paper s ≡ by_operation operation
  unfolding reply_with filed_reply found_reply by_operation
  long_reply = rw (filing, asking, listing)

  long_cache : cache_with operation clock paper s ≡ []
  unfolding cache_with filed_cache
  long_cache = go (eqb operation 1)
    where
      go : (b : Bool) → cond b (filed_cache (filed_of clock s paper) (buffer_of clock s paper)) [] ≡ []
      go true = ap (λ (r : Filed). filed_cache r (buffer_of clock s paper)) filing
      go false = refl

-- ---- an input that is as long as the room

module _ (s : List ℕ) (h : cache_room_least ≤ length s) (o : get_or s 17 0 < 256) where
  begins : begins_at s ≡ 18 + get_or s 17 0
  unfolding begins_at
  begins = rw (le-ltb (length s) 18 (omega arith), le-ltb (length s) (18 + get_or s 17 0) (omega arith))

  old : is_new s ≡ false
  unfolding is_new
  old = rw (ne_eqb (length s) 1 (λ e. omega arith))

  rest : width * places < length (cache_in s)
  unfolding cache_in
  rest = rw begins (omega (arith, length-drop (18 + get_or s 17 0) s))

  whole_reply : reply_of s ≡ by_operation (get_or s 0 0)
  unfolding reply_of
  whole_reply =
      rw (old, ne_eqb (begins_at s) 0 (λ e. omega (arith, begins))) (long_reply (get_or s 0 0) (clock_in s) (paper_in s) (cache_in s) rest)

  whole_cache : cache_of s ≡ []
  unfolding cache_of
  whole_cache =
      rw (old, ne_eqb (begins_at s) 0 (λ e. omega (arith, begins))) (long_cache (get_or s 0 0) (clock_in s) (paper_in s) (cache_in s) rest)

-- ---- what is kept of an input

module _ (room : ℕ) (l : List ℕ) (h : cache_room_least ≤ room) (o : Octets (kept_of room l)) where
  module _ (k : room ≤ length l) where
    size : cache_room_least ≤ length (kept_of room l)
    unfolding kept_of
    size = omega (arith, length-take-le room l k)

    same : (i : ℕ) → i < room → get_or (kept_of room l) i 0 ≡ get_or l i 0
    unfolding kept_of
    same i b = get_or-take room l i 0 b

    octet : get_or l 17 0 < 256
    octet = omega (arith, same 17 (omega arith), octets_at (kept_of room l) o 17)

    cut_reply : reply_of (kept_of room l) ≡ reply_of l
    cut_reply =
        whole_reply (kept_of room l) size (octets_at (kept_of room l) o 17)
        ∙ ap by_operation (same 0 (omega arith))
        ∙ sym (whole_reply l (omega arith) octet)

    cut_cache : cache_of (kept_of room l) ≡ cache_of l
    cut_cache = whole_cache (kept_of room l) size (octets_at (kept_of room l) o 17) ∙ sym (whole_cache l (omega arith) octet)

  -- the line of what is kept is the line of the input
  pub kept_same_reply : reply_of (kept_of room l) ≡ reply_of l
  kept_same_reply = go (leb (length l) room) refl
    where
      go : (b : Bool) → leb (length l) room ≡ b → reply_of (kept_of room l) ≡ reply_of l
      go true e = ap reply_of (kept_all room l (leb-true (length l) room e))
      go false e = let k = leb-false (length l) room e in cut_reply (omega arith)

  -- and so is the cache that follows it
  pub kept_same_cache : cache_of (kept_of room l) ≡ cache_of l
  kept_same_cache = go (leb (length l) room) refl
    where
      go : (b : Bool) → leb (length l) room ≡ b → cache_of (kept_of room l) ≡ cache_of l
      go true e = ap cache_of (kept_all room l (leb-true (length l) room e))
      go false e = let k = leb-false (length l) room e in cut_cache (omega arith)
