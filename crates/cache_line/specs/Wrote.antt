-- What a writer of octets leaves in a lent buffer, and how many it answers; and the copy of a cache that is filed in.
-- Wrote; copy_after.
-- Assumes nothing.
use Rattle.std.specs.Prelude.{ℕ, ◌≡◌, cond, List, eqb, length}
use Rattle.octets.specs.Buffer.{put_in, put_size}
use Rattle.freshness.specs.declared.Clock.{Clock}
use Rattle.cache_rules.specs.Cache.{buffer_of}

-- the new octets stand at the buffer's start, and n is how many they are; or 0, and the buffer is as it was
pub record Wrote (before new : List ℕ) (n : ℕ) (after : List ℕ) : Type 0 where
  pub count : n ≡ put_size before new
  pub octets : after ≡ put_in before 0 new

-- a copy in which a slip was filed: as it was where the octets are not as many as a cache has
unfoldable pub copy_after : Clock → List ℕ → List ℕ → List ℕ → List ℕ
copy_after clock s slip copy = cond (eqb (length s) 5568) (buffer_of clock s slip) copy
