-- Laws of keeping an input chunk by chunk, and of what is kept where there is room for a question, the longest response and one
-- octet more.
-- kept_all, kept_full, kept_most, kept_begins, kept_append; kept_in_length; holds_nothing, holds_inside, holds_next; kept_either.
-- The definitions are in Kept and Room. Assumes nothing.
use Rattle.std.specs.Prelude.{ℕ, ◌+◌, ◌≤◌, ◌<◌, ◌⊎◌, ◌≡◌, Bool, true, false, leb, drop}
use Rattle.std.proofs.Common.{arith, inl, inr, ◌∙◌, length-append, length-drop, leb-true, leb-false}
use Rattle.std.proofs.Math.Path.{refl, sym, ap, ap₂}
use mathlib.Core.List.{List, [], ◌++◌}
use Rattle.std.proofs.Math.ListN.{length, take, take-append-drop}
use Rattle.std.proofs.Math.Seq.{length-take-le, take_all, take-take, take-append-le, take_at, take-nil}
use Rattle.desk_intake.specs.Kept.{kept_of, kept_with, space_kept, Holds}
use Rattle.desk_intake.specs.Room.{question_size, response_most, room_least}

-- ---- an input

module _ (room : ℕ) (l : List ℕ) where
  -- an input that there is room for is kept whole
  pub kept_all : length l ≤ room → kept_of room l ≡ l
  unfolding kept_of
  kept_all h = take_all room l h

  -- of a longer one as much is kept as there is room for
  pub kept_full : room ≤ length l → length (kept_of room l) ≡ room
  unfolding kept_of
  kept_full h = length-take-le room l h

  -- never more
  pub kept_most : length (kept_of room l) ≤ room
  kept_most = go (leb (length l) room) refl
    where
      go : (b : Bool) → leb (length l) room ≡ b → length (kept_of room l) ≤ room
      go true e = let h = leb-true (length l) room e in rw (kept_all h) h
      go false e = let h = leb-false (length l) room e in omega (arith, kept_full (omega arith))

  -- what is kept is a beginning of the input
  pub kept_begins : kept_of room l ++ drop room l ≡ l
  unfolding kept_of
  kept_begins = take-append-drop room l

  kept_long : (c : List ℕ) → room ≤ length l → kept_of room (kept_of room l ++ c) ≡ kept_of room (l ++ c)
  unfolding kept_of
  kept_long c h =
      take-append-le room (take room l) c (omega (arith, length-take-le room l h))
      ∙ take-take room room l (omega arith)
      ∙ sym (take-append-le room l c h)

  -- what is kept of that and of more is what is kept of the whole
  pub kept_append : (c : List ℕ) → kept_of room (kept_of room l ++ c) ≡ kept_of room (l ++ c)
  kept_append c = go (leb (length l) room) refl
    where
      go : (b : Bool) → leb (length l) room ≡ b → kept_of room (kept_of room l ++ c) ≡ kept_of room (l ++ c)
      go true e = ap (λ (k : List ℕ). kept_of room (k ++ c)) (kept_all (leb-true (length l) room e))
      go false e = let h = leb-false (length l) room e in kept_long c (omega arith)

-- ---- a space

-- the space keeps its length
pub kept_in_length : (space : List ℕ) (done : ℕ) (chunk : List ℕ) → length (space_kept space done chunk) ≡ length space
unfolding space_kept kept_with
kept_in_length space done chunk =
    let k = kept_of (length space) (take done space ++ chunk) in
    length-append k (drop (length k) space)
    ∙ omega (arith, length-drop (length k) space, kept_most (length space) (take done space ++ chunk))

-- before the first chunk nothing is kept
pub holds_nothing : (space : List ℕ) → Holds space 0 []
unfolding kept_of
holds_nothing space = record { octets = sym (take-nil (length space)); count = sym (ap length (take-nil {A = ℕ} (length space))) }

module _ (space : List ℕ) (n : ℕ) (l : List ℕ) (h : Holds space n l) where
  -- what is kept is in the space
  pub holds_inside : n ≤ length space
  holds_inside = omega (arith, h.count, kept_most (length space) l)

  -- chunk by chunk: the next one is kept after those that are
  pub holds_next : (chunk out : List ℕ) (r : ℕ)
      → r ≡ length (kept_with space n chunk) → out ≡ space_kept space n chunk → Holds out r (l ++ chunk)
  unfolding space_kept kept_with
  holds_next chunk out r e i =
      let whole : kept_of (length space) (take n space ++ chunk) ≡ kept_of (length space) (l ++ chunk)
      = ap (λ (k : List ℕ). kept_of (length space) (k ++ chunk)) h.octets ∙ kept_append (length space) l chunk in
      let size : length out ≡ length space = ap length i ∙ kept_in_length space n chunk in
      let k = kept_of (length space) (take n space ++ chunk) in
      record {
        octets = ap₂ take e i ∙ take_at k (drop (length k) space) (length k) refl ∙ whole ∙ ap (λ (m : ℕ). kept_of m (l ++ chunk)) (sym size);
        count = e ∙ ap length whole ∙ ap (λ (m : ℕ). length (kept_of m (l ++ chunk))) (sym size);
      }

-- ---- the room

-- what is kept is the input, or a beginning of it that is longer than a question and the longest response
pub kept_either : (room : ℕ) (l : List ℕ) → room_least ≤ room
    → (kept_of room l ≡ l) ⊎ ((question_size + response_most < length (kept_of room l)) × ((rest : List ℕ) × (kept_of room l ++ rest ≡ l)))
kept_either room l h = go (leb (length l) room) refl
  where
    go : (b : Bool) → leb (length l) room ≡ b
        → (kept_of room l ≡ l) ⊎ ((question_size + response_most < length (kept_of room l)) × ((rest : List ℕ) × (kept_of room l ++ rest ≡ l)))
    go true e = inl (kept_all room l (leb-true (length l) room e))
    go false e =
        let k = leb-false (length l) room e in
        inr (omega (arith, kept_full room l (omega arith)), (drop room l, kept_begins room l))
