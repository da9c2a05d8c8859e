-- What the code knows at each return of `keep`, and the contract there.
-- past_value, past_after; part_counted, part_value, part_after; whole_value, whole_after; all in keep_cases.
-- Assumes nothing.
use Prim.Native.Nat.{ℕ, ◌+◌, ◌-◌, ◌≤◌, ◌<◌}
use native.Mathlib.Omega.{arith}
use mathlib.Core.Path.{◌≡◌, sym, ap, ◌∙◌}
use mathlib.Core.List.{List, ◌++◌, append-nil, append_assoc}
use lib.ListN.{length, take, drop, length-append}
use lib.Seq.{length-take-le, take_all, take-append-add, take-append-le, drop-length}
use Rattle.octets.specs.Buffer.{put_in}
use Rattle.octets.specs.BufferLaws.{put_in_room, put_in_length}
use Rattle.desk_intake.specs.Kept.{kept_of, kept_with, space_kept}
use Rattle.desk_intake.specs.KeptLaws.{kept_all}

module _ (space : List ℕ) (done : ℕ) (chunk : List ℕ) where
  -- octets that end inside and are what is kept after the first ones
  spliced : (new : List ℕ) → done + length new ≤ length space → kept_with space done chunk ≡ take done space ++ new
      → (done + length new ≡ length (kept_with space done chunk)) × (put_in space done new ≡ space_kept space done chunk)
  unfolding space_kept
  spliced new h e =
      let size : length (take done space ++ new) ≡ done + length new =
      length-append (take done space) new ∙ ap (λ (k : ℕ). k + length new) (length-take-le done space (omega arith)) in (
        sym (ap length e ∙ size),
        put_in_room space done new h
            ∙ sym (append_assoc (take done space) new (drop (done + length new) space))
            ∙ ap (λ (k : ℕ). (take done space ++ new) ++ drop k space) (sym size)
            ∙ ap (λ (k : List ℕ). k ++ drop (length k) space) (sym e),
      )

  -- a place past the space: all of it is kept
  past : length space < done → kept_with space done chunk ≡ space
  unfolding kept_with kept_of
  past h =
      ap (λ (k : List ℕ). take (length space) (k ++ chunk)) (take_all done space (omega arith))
      ∙ take-append-le (length space) space chunk (omega arith)
      ∙ take_all (length space) space (omega arith)

  pub past_value : length space < done → length space ≡ length (kept_with space done chunk)
  past_value h = sym (ap length (past h))

  pub past_after : length space < done → space ≡ space_kept space done chunk
  unfolding space_kept
  past_after h =
      sym (ap (λ (k : List ℕ). k ++ drop (length k) space) (past h) ∙ ap (λ (k : List ℕ). space ++ k) (drop-length space) ∙ append-nil space)

  -- a chunk that is longer than the room: its beginning
  module _ (h : done ≤ length space) (l : length space - done < length chunk) where
    pub part_counted : length space - done ≡ length (take (length space - done) chunk)
    part_counted = sym (length-take-le (length space - done) chunk (omega arith))

    begins : kept_with space done chunk ≡ take done space ++ take (length space - done) chunk
    unfolding kept_with kept_of
    begins =
        let whole : length space ≡ length (take done space) + (length space - done) = omega (arith, length-take-le done space h) in
        ap (λ (k : ℕ). take k (take done space ++ chunk)) whole ∙ take-append-add (take done space) chunk (length space - done)

    module _ (out : List ℕ) (e : out ≡ put_in space done (take (length space - done) chunk)) where
      pub part_value : length out ≡ length (kept_with space done chunk)
      part_value =
          let s = spliced (take (length space - done) chunk) (omega (arith, part_counted)) begins in
          omega (arith, s.0, part_counted, ap length e, put_in_length space done (take (length space - done) chunk))

      pub part_after : out ≡ space_kept space done chunk
      part_after = e ∙ (spliced (take (length space - done) chunk) (omega (arith, part_counted)) begins).1

  -- a chunk that there is room for
  fits : done ≤ length space → length chunk ≤ length space - done → kept_with space done chunk ≡ take done space ++ chunk
  unfolding kept_with
  fits h l =
      kept_all
      (length space)
      (take done space ++ chunk)
      (omega (arith, length-append (take done space) chunk, length-take-le done space h))

  module _ (h : done ≤ length space) (l : length chunk ≤ length space - done) where
    pub whole_value : done + length chunk ≡ length (kept_with space done chunk)
    whole_value = (spliced chunk (omega arith) (fits h l)).0

    pub whole_after : (out : List ℕ) → out ≡ put_in space done chunk → out ≡ space_kept space done chunk
    whole_after out e = e ∙ (spliced chunk (omega arith) (fits h l)).1

pub ruleset keep_cases = (past_value, past_after, part_counted, part_value, part_after, whole_value, whole_after)
