-- What the code knows at each return of the writers of a line, and the contract there.
-- hand_put; filled, number_said; body_inside, body_counted, body_said; count_said.
-- Assumes nothing.
use Prim.Native.Nat.{ℕ, zero, suc, ◌+◌, ◌≤◌}
use native.Mathlib.Omega.{arith}
use mathlib.Core.Path.{◌≡◌, refl, sym, ap, ◌∙◌}
use mathlib.Core.List.{List, [], ◌∷◌, ◌++◌, append-nil}
use lib.ListN.{length, take, drop, replicate}
use lib.Seq.{length-take-le}
use mathlib.Core.Bool.{Bool, true, false, cond}
use lib.Dec.{ltb}
use borrow.Author.Tests.{ltb-true, ltb-false}
use Rattle.std.specs.Prelude.{Option, unwrap_or}
use Rattle.octets.specs.Buffer.{put_in, put_answer, put_size}
use Rattle.octets.specs.BufferLaws.{put_in_room, put_in_length, put_answer_room, put_answer_short, splice_front}
use Rattle.octets.specs.Number.{octets_of}
use Rattle.octets.specs.NumberLaws.{octets_length}
use Rattle.hexadecimal.specs.Hex.{hex_line}
use Rattle.cache_line.specs.Reply.{numbered, accepted_reply}
use Rattle.cache_line.specs.Wrote.{Wrote}

-- ---- octets handed over

module _ (new out : List ℕ) where
  handed : unwrap_or (put_answer (length out) 0 (length new)) 0 ≡ put_size out new
  handed = go (ltb (length out) (length new)) refl
    where
      go : (b : Bool) → ltb (length out) (length new) ≡ b → unwrap_or (put_answer (length out) 0 (length new)) 0 ≡ cond b 0 (length new)
      go true q = rw (put_answer_short (length out) 0 (length new) (omega (arith, ltb-true (length out) (length new) q)))
      go false q = rw (put_answer_room (length out) 0 (length new) (omega (arith, ltb-false (length out) (length new) q))) (omega arith)

  pub hand_put : (x : Option ℕ) → x ≡ put_answer (length out) 0 (length new) → (n : ℕ) → n ≡ unwrap_or x 0
      → (after : List ℕ) → after ≡ put_in out 0 new → Wrote out new n after
  hand_put x e n q after f = record { count = q ∙ ap (λ (y : Option ℕ). unwrap_or y 0) e ∙ handed; octets = f }

-- a line that hex wrote is that of other octets that are the same
hexed : (reply other line : List ℕ) → reply ≡ other → (n : ℕ) (after : List ℕ)
    → n ≡ put_size line (hex_line reply) → after ≡ put_in line 0 (hex_line reply)
    → Wrote line (hex_line other) n after
hexed reply other line e n after c o = record {
  count = c ∙ ap (λ (s : List ℕ). put_size line (hex_line s)) e;
  octets = o ∙ ap (λ (s : List ℕ). put_in line 0 (hex_line s)) e;
}

-- ---- a number

-- octets that fill a buffer
pub filled : (out new : List ℕ) → length new ≡ length out → put_in out 0 new ≡ new
filled out new e =
    put_in_room out 0 new (omega arith)
    ∙ ap (λ (s : List ℕ). new ++ s) (rest (0 + length new) out (omega arith))
    ∙ append-nil new
  where
    rest : (n : ℕ) (s : List ℕ) → length s ≤ n → drop n s ≡ []
    rest zero [] h = refl
    rest zero (x ∷ s) h = absurd (omega arith)
    rest (suc n) [] h = refl
    rest (suc n) (x ∷ s) h = rest n s (omega arith)

pub number_said : (number : ℕ) (reply line : List ℕ) → reply ≡ put_in (replicate 2 0) 0 (octets_of 2 number) → (n : ℕ) (after : List ℕ)
    → n ≡ put_size line (hex_line reply) → after ≡ put_in line 0 (hex_line reply)
    → Wrote line (hex_line (numbered number)) n after
unfolding numbered
number_said number reply line e = hexed reply (octets_of 2 number) line (e ∙ filled (replicate 2 0) (octets_of 2 number) (octets_length 2 number))

-- ---- what goes with the number 0

module _ (body reply : List ℕ) (h : length body ≤ 87) (e : reply ≡ put_in (replicate 89 0) 2 body) where
  pub body_inside : 2 + length body ≤ length reply
  body_inside = omega (arith, ap length e, put_in_length (replicate 89 0) 2 body)

  pub body_counted : 2 + length body ≡ length (take (2 + length body) reply)
  body_counted = sym (length-take-le (2 + length body) reply body_inside)

  front : take (2 + length body) reply ≡ 0 ∷ 0 ∷ body
  front =
      ap (take (2 + length body)) (e ∙ put_in_room (replicate 89 0) 2 body (omega arith))
      ∙ splice_front (replicate 89 0) 2 body (omega arith)

  pub body_said : (line : List ℕ) (n : ℕ) (after : List ℕ)
      → n ≡ put_size line (hex_line (take (2 + length body) reply))
      → after ≡ put_in line 0 (hex_line (take (2 + length body) reply))
      → Wrote line (hex_line (accepted_reply body)) n after
  unfolding accepted_reply
  body_said line = hexed (take (2 + length body) reply) (0 ∷ 0 ∷ body) line front

pub count_said : (count : ℕ) (body line : List ℕ) → body ≡ put_in (replicate 1 0) 0 (octets_of 1 count) → (n : ℕ) (after : List ℕ)
    → Wrote line (hex_line (accepted_reply body)) n after → Wrote line (hex_line (accepted_reply (octets_of 1 count))) n after
count_said count body line e n after w = rw (e ∙ filled (replicate 1 0) (octets_of 1 count) (octets_length 1 count)) at w
