-- The cases of the writer's answer: what each return has learned of the room.
-- answer_refused, buffer_kept, room_known, answer_octets, buffer_written, in write_cases.
-- Assumes nothing.
use Prim.Native.Nat.{ℕ, ◌≤◌}
use native.Mathlib.Omega.{arith}
use mathlib.Core.Path.{◌≡◌, refl, sym, ap, ◌∙◌}
use mathlib.Core.Bool.{Bool, true, false, cond}
use mathlib.Core.List.{List}
use lib.Dec.{eqb, ltb}
use lib.ListN.{length}
use borrow.Author.Tests.{eqb-true, ltb-true, ltb-false}
use Rattle.octets.specs.Buffer.{splice, put_in}
use Rattle.octets.specs.BufferLaws.{put_in_room, put_in_short}
use Rattle.answer.specs.declared.Answer.{Answer}
use Rattle.answer.specs.Verdict.{kind_of}
use Rattle.fields.specs.declared.Output.{Output}
use Rattle.fields.specs.declared.Output.TheVariants.{Octets, Refused}
use Rattle.fields.specs.Output.{output_of, output_in}
use Rattle.slip.specs.Table.{size_of}
use Rattle.slip.specs.Slip.{slip_of}
use Rattle.slip.specs.SlipLaws.{slip_length}

-- no two of a writer's answers are one
octets_not : {A : Type 0} {m k : ℕ} → Octets m ≡ Refused k → A
octets_not e = let z : ◌≡◌ {A = ℕ} 0 1 = cc in absurd (omega arith)

module _ (refusal size n : ℕ) where
  -- octets are written only where there is no refusal, and room
  octets_known : (m : ℕ) → output_of refusal size n ≡ Octets m → (refusal ≡ 0) × (n ≤ size)
  unfolding output_of
  octets_known m e = go (eqb refusal 0) (ltb size n) refl refl e
    where
      go : (t u : Bool) → eqb refusal 0 ≡ t → ltb size n ≡ u → cond t (cond u (Refused 18) (Octets n)) (Refused refusal) ≡ Octets m
          → (refusal ≡ 0) × (n ≤ size)
      go true true p q e = octets_not (sym e)
      go true false p q e = (eqb-true refusal 0 p, ltb-false size n q)
      go false u p q e = octets_not (sym e)

  -- a refusal is given only where there is one, or no room
  refused_kept : (out new : List ℕ) → length out ≡ size → length new ≡ n → (k : ℕ) → output_of refusal size n ≡ Refused k → out ≡ output_in refusal out new
  unfolding output_of output_in
  refused_kept out new a b k e = go (eqb refusal 0) (ltb size n) refl refl e
    where
      go : (t u : Bool) → eqb refusal 0 ≡ t → ltb size n ≡ u → cond t (cond u (Refused 18) (Octets n)) (Refused refusal) ≡ Refused k
          → out ≡ cond t (put_in out 0 new) out
      go true true p q e = sym (put_in_short out 0 new (omega (arith, ltb-true size n q)))
      go true false p q e = octets_not e
      go false u p q e = refl

module _ (a : Answer) (out : List ℕ) (refusal size : ℕ) (s : size ≡ length (slip_of a))
    (answer : Output) (e : answer ≡ output_of refusal (length out) size) where
  known : answer ≡ output_of refusal (length out) (length (slip_of a))
  known = e ∙ ap (λ (y : ℕ). output_of refusal (length out) y) s

  module _ (k : ℕ) (f : answer ≡ Refused k) where
    pub answer_refused : Refused k ≡ output_of refusal (length out) (length (slip_of a))
    answer_refused = sym f ∙ known

    pub buffer_kept : out ≡ output_in refusal out (slip_of a)
    buffer_kept = refused_kept refusal (length out) (length (slip_of a)) out (slip_of a) refl refl k (sym known ∙ f)

  module _ (m : ℕ) (f : answer ≡ Octets m) where
    written : (refusal ≡ 0) × (length (slip_of a) ≤ length out)
    written = octets_known refusal (length out) (length (slip_of a)) m (sym known ∙ f)

    -- there is room
    pub room_known : length a.card.name ≡ 20 → length a.card.key ≡ 20 → length a.card.serial ≡ 20 → size_of 20 (kind_of a.verdict) ≤ length out
    room_known x y z = rw (← (slip_length 20 a (λ c. record { name = x; key = y; serial = z }))) written.1

    pub answer_octets : Octets m ≡ output_of refusal (length out) (length (slip_of a))
    answer_octets = sym f ∙ known

    pub buffer_written : (o : List ℕ) → o ≡ splice out 0 (slip_of a) → o ≡ output_in refusal out (slip_of a)
    unfolding output_in
    buffer_written o p = p ∙ sym (rw written.0 (put_in_room out 0 (slip_of a) (omega (arith, written.1))))

pub ruleset write_cases = (room_known, answer_refused, buffer_kept, answer_octets, buffer_written)
