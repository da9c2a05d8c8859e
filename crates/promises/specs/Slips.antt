-- Slips: an answer that is written as one is read back, and a slip that is read is written as the same octets.
-- good_slip, unknown_slip, revoked_slip, refusal_slip; read-back, written_back, exactly_its_slip; slip_size_lem, sizes;
-- slip_refused, slip_short, slip_written.
-- `slip_of` is an answer's slip, `slip_ok` the slip rules, `read_of` what slip_read::read_slip answers (slip: Slip, Rules);
-- `output_of` and `output_in` are what slip_write::write_slip answers and leaves in the lent buffer (fields: Output).
-- `Hashed 20 a`: where the slip of a has a card, its hashes and its serial's field have 20 octets, as every card of the code has.
-- Assumes nothing.
use Rattle.std.specs.Prelude.{ℕ, ◌≤◌, ◌<◌, ◌↔◌, ◌≡◌, true, false, length, drop, Option}
use Rattle.std.proofs.Common.{arith}
use Rattle.std.proofs.Math.Path.{refl}
use mathlib.Core.List.{List, [], ◌∷◌, ◌++◌, flatten, append_assoc}
use Rattle.octets.specs.Octets.{Octets}
use Rattle.octets.specs.Number.{octets_of}
use Rattle.answer.specs.Verdict.{kind_of, reason_of, saying, without_place, refused}
use Rattle.answer.specs.declared.Card.{Card}
use Rattle.answer.specs.declared.Verdict.TheVariants.{Good, Revoked, Unknown, Refused}
use Rattle.answer.specs.declared.Answer.{Answer}
use Rattle.fields.specs.Output.{output_of, output_in}
use Rattle.fields.specs.OutputLaws.{output_refused, output_short, output_written, kept_refused, kept_short, first_written}
use Rattle.fields.specs.declared.Output.TheVariants as output
use Rattle.slip.specs.Examples.{slip_computes}
use Rattle.slip.specs.Table.{size_of}
use Rattle.slip.specs.Slip.{slip_of, slip_ok, slip_refusal, read_of, Hashed}
use Rattle.slip.specs.SlipLaws as slip

-- ── the octets, by kind ──
module _ (card : Card) (this next : ℕ) where
  -- 01 good and 03 unknown: both hashes, the serial's length, the serial in 20 octets, thisUpdate 8, nextUpdate 8
  pub good_slip : slip_of (saying (Good this next) card)
      ≡ 1 ∷ flatten (card.name ∷ card.key ∷ octets_of 1 card.size ∷ card.serial ∷ octets_of 8 this ∷ octets_of 8 next ∷ [])
  unfolding slip_computes
  good_slip = simp append_assoc

  pub unknown_slip : slip_of (saying (Unknown this next) card)
      ≡ 3 ∷ flatten (card.name ∷ card.key ∷ octets_of 1 card.size ∷ card.serial ∷ octets_of 8 this ∷ octets_of 8 next ∷ [])
  unfolding slip_computes
  unknown_slip = simp append_assoc

  -- 02 revoked: the same, revocationTime 8, reason 1, FF if absent
  pub revoked_slip : (at : ℕ) (reason : Option ℕ) → slip_of (saying (Revoked this next at reason) card)
      ≡ 2 ∷ flatten (card.name ∷ card.key ∷ octets_of 1 card.size ∷ card.serial ∷ octets_of 8 this ∷ octets_of 8 next ∷ octets_of 8 at ∷ octets_of 1 (reason_of reason) ∷ [])
  unfolding slip_computes
  revoked_slip at reason = simp append_assoc

  -- 04 refusal: number, status
  pub refusal_slip : (number status : ℕ) → slip_of (saying (Refused number status) card)
      ≡ 4 ∷ flatten (octets_of 1 number ∷ octets_of 1 status ∷ [])
  unfolding slip_computes
  refusal_slip number status = refl

-- ── written and read ──

-- reading a slip that was written gives back its answer, without a place
pub read_back : (a : Answer) → slip_ok a ≡ true → Hashed 20 a → read_of 20 (slip_of a) ≡ without_place a
read_back a ok h = slip.read_written a ok 20 h

-- a slip that is read, written again, is the same octets, and its answer keeps the slip rules
pub written_back : (s : List ℕ) → Octets s → (read_of 20 s ≡ refused 17 0 → ⊥) → (slip_ok (read_of 20 s) ≡ true) × (slip_of (read_of 20 s) ≡ s)
written_back = slip.written_read 20

-- octets read as an answer without its place, where it keeps the rules, exactly where they are its slip
pub exactly_its_slip : (s : List ℕ) → Octets s → (a : Answer) → slip_ok a ≡ true → Hashed 20 a → read_of 20 s ≡ without_place a ↔ slip_of a ≡ s
exactly_its_slip = slip.read_exactly 20

-- a slip has its exact length: 78 good and unknown, 87 revoked, 3 a refusal
pub slip_size_lem : (a : Answer) → Hashed 20 a → length (slip_of a) ≡ size_of 20 (kind_of a.verdict)
slip_size_lem = slip.slip_length 20

pub sizes : (size_of 20 1 ≡ 78) × (size_of 20 2 ≡ 87) × (size_of 20 3 ≡ 78) × (size_of 20 4 ≡ 3)
unfolding slip_computes size_of
sizes = (refl, refl, refl, refl)

-- ── the writer, into a lent buffer ──
module _ (a : Answer) (out : List ℕ) where
  -- an answer that breaks the slip rules gets 17, and the buffer is unchanged
  pub slip_refused : slip_ok a ≡ false
      → (output_of (slip_refusal a) (length out) (length (slip_of a)) ≡ output.Refused 17)
      × (output_in (slip_refusal a) out (slip_of a) ≡ out)
  unfolding slip_refusal
  slip_refused e = rw e (output_refused 17 (length out) (length (slip_of a)) (λ i. omega arith), kept_refused 17 out (slip_of a) (λ i. omega arith))

  -- a buffer that is too short gets 18, and is unchanged
  pub slip_short : slip_ok a ≡ true → length out < length (slip_of a)
      → (output_of (slip_refusal a) (length out) (length (slip_of a)) ≡ output.Refused 18)
      × (output_in (slip_refusal a) out (slip_of a) ≡ out)
  unfolding slip_refusal
  slip_short e h = rw e (output_short (length out) (length (slip_of a)) h, kept_short out (slip_of a) h)

  -- otherwise the number of octets is returned, they are the first of the buffer, and the rest is unchanged
  pub slip_written : slip_ok a ≡ true → length (slip_of a) ≤ length out
      → (output_of (slip_refusal a) (length out) (length (slip_of a)) ≡ output.Octets (length (slip_of a)))
      × (output_in (slip_refusal a) out (slip_of a) ≡ slip_of a ++ drop (length (slip_of a)) out)
  unfolding slip_refusal
  slip_written e h = rw e (output_written (length out) (length (slip_of a)) h, first_written out (slip_of a) h)
