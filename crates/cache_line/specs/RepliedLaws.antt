-- How many octets are answered, and what stands in the buffers, is that the line and the cache were written.
-- replied_count, replied_line, replied_cache.
-- Assumes nothing.
use Rattle.std.specs.Prelude.{ℕ, ◌≡◌, List, length}
use Rattle.std.proofs.Common.{ap}
use Rattle.octets.specs.Buffer.{put_in}
use Rattle.hexadecimal.specs.Hex.{hex_line}
use Rattle.cache_line.specs.declared.Reply.{Reply}
use Rattle.cache_line.specs.Reply.{reply_of, cache_of, replied_to}
use Rattle.cache_line.specs.Wrote.{Wrote}

module _ (s line₀ line cache₀ cache : List ℕ) (r : Reply) where
  pub replied_count : Wrote line₀ (hex_line (reply_of s)) r.line line → Wrote cache₀ (cache_of s) r.cache cache
      → r ≡ replied_to (length line₀) (length cache₀) s
  replied_count w x = λ i. record { line = w.count i; cache = x.count i }

  module _ (e : r ≡ replied_to (length line₀) (length cache₀) s) where
    pub replied_line : line ≡ put_in line₀ 0 (hex_line (reply_of s)) → Wrote line₀ (hex_line (reply_of s)) r.line line
    replied_line q = record { count = ap (λ (y : Reply). y.line) e; octets = q }

    pub replied_cache : cache ≡ put_in cache₀ 0 (cache_of s) → Wrote cache₀ (cache_of s) r.cache cache
    replied_cache q = record { count = ap (λ (y : Reply). y.cache) e; octets = q }
