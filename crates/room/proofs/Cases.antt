-- What the program knows of its answer. What it knows of its reading is in crate desk_intake (ReadLaws).
-- answers_end, answers_none, inside.
-- Assumes nothing.
use Prim.Native.Nat.{ℕ, ◌≤◌}
use native.Mathlib.Omega.{arith}
use mathlib.Core.Path.{◌≡◌, ap, subst, ◌∙◌}
use mathlib.Core.Logic.{◌⊎◌, ⊎_elim}
use mathlib.Core.List.{List, []}
use lib.ListN.{length, get_or, take}
use mir.Syntax.{w8}
use mir.Val.{Fits}
use Rattle.octets.specs.Octets.{Octets}
use Rattle.octets.specs.OctetsLaws.{octets_from, octets_take}
use Rattle.octets.specs.Buffer.{put_in}
use Rattle.hexadecimal.specs.Hex.{hex_line}
use Rattle.desk_intake.specs.Kept.{Holds}
use Rattle.desk_intake.specs.Read.{ReadAs}
use Rattle.desk_intake.specs.declared.Input.{Input}
use Rattle.desk_intake.specs.declared.Input.TheVariants.{More, End, Failed}
use Rattle.cache_line.specs.declared.Reply.{Reply}
use Rattle.cache_line.specs.Reply.{reply_of, cache_of, replied_to}
use Rattle.cache_line.specs.RepliedLaws.{replied_line, replied_cache}
use Rattle.cache_line.specs.Input.{cache_room_least}
use Rattle.cache_line.specs.WholeLaws.{kept_same_reply, kept_same_cache}
use Rattle.cache_line.specs.SizeLaws.{line_most, cache_most, line_most_lem, cache_most_lem, wrote_inside, wrote_all}
use Rattle.room.specs.Answers.{Answers, Inside}

-- ---- the answer

module _ (space : List ℕ) (input : Input) (r : Reply) (line₀ line cache₀ cache : List ℕ) (a : line_most ≤ length line₀) (b : cache_most ≤ length cache₀) where
  -- what the answer to the octets s tells
  abbrev Answered : List ℕ → Type 0
  Answered s =
      (r ≡ replied_to (length line₀) (length cache₀) s) × (line ≡ put_in line₀ 0 (hex_line (reply_of s))) × (cache ≡ put_in cache₀ 0 (cache_of s))

  -- it is all there
  written : (s : List ℕ) → Octets s → Answered s → (take r.line line ≡ hex_line (reply_of s)) × (take r.cache cache ≡ cache_of s)
  written s o (e, w, x) = (
    wrote_all line₀ (hex_line (reply_of s)) r.line line (replied_line s line₀ line cache₀ cache r e w) (omega (arith, line_most_lem s)),
    wrote_all cache₀ (cache_of s) r.cache cache (replied_cache s line₀ line cache₀ cache r e x) (omega (arith, cache_most_lem s o)),
  )

  -- at the end of the input: the answer to it, though only its beginning may be kept
  pub answers_end : ((i : ℕ) → Fits w8 (get_or space i 0)) → cache_room_least ≤ length space → (n : ℕ) → input ≡ End n
      → r ≡ replied_to (length line₀) (length cache₀) (take n space)
      → line ≡ put_in line₀ 0 (hex_line (reply_of (take n space))) → cache ≡ put_in cache₀ 0 (cache_of (take n space))
      → Answers space input r line cache
  unfolding Answers
  answers_end known room n e v w x l h =
      let holds : Holds space n l = subst (λ (i : Input). ReadAs space i l) e h in
      let o : Octets (take n space) = octets_take n space (octets_from space (λ i b. (known i).fits)) in
      let p = written (take n space) o (v, w, x) in
      let q = rw holds.octets at o in (
        p.0 ∙ ap (λ (s : List ℕ). hex_line (reply_of s)) holds.octets ∙ ap hex_line (kept_same_reply (length space) l room q),
        p.1 ∙ ap cache_of holds.octets ∙ kept_same_cache (length space) l room q,
      )

  module _ (v : r ≡ replied_to (length line₀) (length cache₀) []) (w : line ≡ put_in line₀ 0 (hex_line (reply_of []))) (x : cache ≡ put_in cache₀ 0 (cache_of [])) where
    -- where reading failed, and where it did not come to the end: the answer to an empty input
    pub answers_none : ((n : ℕ) × (input ≡ More n)) ⊎ (input ≡ Failed) → Answers space input r line cache
    unfolding Answers
    answers_none e l h =
        let none : l ≡ [] =
        ⊎_elim (λ (n, i). subst (λ (i : Input). ReadAs space i l) i h) (λ i. subst (λ (i : Input). ReadAs space i l) i h) e in
        rw none (written [] tt (v, w, x))

pub inside : (r : Reply) (s line₀ line cache₀ cache : List ℕ) → r ≡ replied_to (length line₀) (length cache₀) s
    → line ≡ put_in line₀ 0 (hex_line (reply_of s)) → cache ≡ put_in cache₀ 0 (cache_of s) → Inside r line cache
inside r s line₀ line cache₀ cache e w x = record {
  said = wrote_inside line₀ (hex_line (reply_of s)) r.line line (replied_line s line₀ line cache₀ cache r e w);
  handed = wrote_inside cache₀ (cache_of s) r.cache cache (replied_cache s line₀ line cache₀ cache r e x);
}
