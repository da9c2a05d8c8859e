-- What the code knows at each return of the answer to an input, and the contract there.
-- input_new, input_new_cache, input_short, input_short_cache, input_line, input_cache; input_header, input_inside, input_first;
-- replied, line_put, cache_put; inside_cases, wrote_cases. The answers to an operation are in Cases.
-- Assumes nothing.
use Prim.Native.Nat.{ℕ, ◌+◌, ◌-◌, ◌≤◌, ◌<◌}
use native.Mathlib.Omega.{arith}
use mathlib.Core.Path.{◌≡◌, refl, ap, ◌∙◌}
use mathlib.Core.Bool.{Bool, true, false, cond}
use mathlib.Core.List.{List}
use lib.Dec.{ltb}
use lib.ListN.{length, get_or, take, drop, length-drop}
use lib.Seq.{take_all}
use borrow.Author.Tests.{eq-eqb, ne_eqb, ltb-false}
use Rattle.octets.specs.Buffer.{put_in}
use Rattle.hexadecimal.specs.Hex.{hex_line}
use Rattle.freshness.specs.declared.Clock.{Clock}
use Rattle.cache_line.specs.Input.{is_new, clock_in, begins_at, paper_in, cache_in}
use Rattle.cache_line.specs.declared.Reply.{Reply}
use Rattle.cache_line.specs.Reply.{numbered, reply_with, cache_with, new_cache, reply_of, cache_of, replied_to}
use Rattle.cache_line.specs.RepliedLaws.{replied_count}
use Rattle.cache_line.specs.Wrote.{Wrote}
use Rattle.cache_line.proofs.Cases.{nothing}

module _ (s : List ℕ) (new : Bool) (e : new ≡ is_new s) where
  pub input_new : new ≡ true → (line : List ℕ) (k : ℕ) (after : List ℕ) → Wrote line (hex_line (numbered 0)) k after
      → Wrote line (hex_line (reply_of s)) k after
  unfolding reply_of
  input_new h line k after w = rw (← e, h) w

  pub input_new_cache : new ≡ true → (cache : List ℕ) (k : ℕ) (after : List ℕ) → Wrote cache new_cache k after → Wrote cache (cache_of s) k after
  unfolding cache_of
  input_new_cache h cache k after w = rw (← e, h) w

  module _ (h : new ≡ false) (at : ℕ) (f : at ≡ begins_at s) where
    pub input_short : at ≡ 0 → (line : List ℕ) (k : ℕ) (after : List ℕ) → Wrote line (hex_line (numbered 1)) k after
        → Wrote line (hex_line (reply_of s)) k after
    unfolding reply_of
    input_short z line k after w = rw (← e, h, ← f, eq-eqb at 0 z) w

    pub input_short_cache : at ≡ 0 → (cache : List ℕ) → Wrote cache (cache_of s) 0 cache
    unfolding cache_of
    input_short_cache z cache = rw (← e, h, ← f, eq-eqb at 0 z) (nothing cache)

    module _ (z : at ≡ 0 → ⊥) (clock : Clock) (c : clock ≡ clock_in s) where
      rest : take (length s - at) (drop at s) ≡ cache_in s
      unfolding cache_in
      rest = take_all (length s - at) (drop at s) (omega (arith, length-drop at s)) ∙ ap (λ (n : ℕ). drop n s) f

      paper : take (at - 18) (drop 18 s) ≡ paper_in s
      unfolding paper_in
      paper = ap (λ (n : ℕ). take (n - 18) (drop 18 s)) f

      pub input_line : (line : List ℕ) (k : ℕ) (after : List ℕ)
          → Wrote line (hex_line (reply_with (get_or s 0 0) clock (take (at - 18) (drop 18 s)) (take (length s - at) (drop at s)))) k after
          → Wrote line (hex_line (reply_of s)) k after
      unfolding reply_of
      input_line line k after w = rw (← e, h, ← f, ne_eqb at 0 z, ← c, ← paper, ← rest) w

      pub input_cache : (cache : List ℕ) (k : ℕ) (after : List ℕ)
          → Wrote cache (cache_with (get_or s 0 0) clock (take (at - 18) (drop 18 s)) (take (length s - at) (drop at s))) k after
          → Wrote cache (cache_of s) k after
      unfolding cache_of
      input_cache cache k after w = rw (← e, h, ← f, ne_eqb at 0 z, ← c, ← paper, ← rest) w

-- where the cache begins
module _ (s : List ℕ) (at : ℕ) (f : at ≡ begins_at s) (z : at ≡ 0 → ⊥) where
  both : (18 ≤ at) × (at ≤ length s)
  unfolding begins_at
  both = go (ltb (length s) 18) (ltb (length s) (18 + get_or s 17 0)) refl f
    where
      go : (a b : Bool) → ltb (length s) (18 + get_or s 17 0) ≡ b → at ≡ cond a 0 (cond b 0 (18 + get_or s 17 0)) → (18 ≤ at) × (at ≤ length s)
      go true b p q = absurd (z q)
      go false true p q = absurd (z q)
      go false false p q = (omega arith, omega (arith, ltb-false (length s) (18 + get_or s 17 0) p))

  pub input_header : 18 ≤ at
  input_header = both.0

  pub input_inside : at ≤ length s
  input_inside = both.1

  pub input_first : 0 < length s
  input_first = omega (arith, both)

-- ---- what was written, as it is answered

module _ (s line₀ line cache₀ cache : List ℕ) (r : Reply) (w : Wrote line₀ (hex_line (reply_of s)) r.line line) (x : Wrote cache₀ (cache_of s) r.cache cache) where
  pub replied : r ≡ replied_to (length line₀) (length cache₀) s
  replied = replied_count s line₀ line cache₀ cache r w x

  pub line_put : line ≡ put_in line₀ 0 (hex_line (reply_of s))
  line_put = w.octets

  pub cache_put : cache ≡ put_in cache₀ 0 (cache_of s)
  cache_put = x.octets

-- ---- what each function needs

pub ruleset inside_cases = (input_header, input_inside, input_first)

pub ruleset wrote_cases = (replied, line_put, cache_put)
