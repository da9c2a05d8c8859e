-- Laws of a body's numbers: what a verdict says stands at these places, behind a card of 61 octets.
-- octet_at; good_at, unknown_at, revoked_at, refusal_at.
-- The definitions are in Slip and Table, `value_at` in Field of crate fields. Assumes nothing.
use Rattle.std.specs.Prelude.{ℕ, ◌≤◌, ◌<◌, ◌≡◌, length, take, drop}
use Rattle.std.proofs.Common.{arith, ◌∙◌, lit≤, drop-cons, drop-drop}
use Rattle.std.proofs.Math.Path.{sym, ap, ap₂}
use mathlib.Core.List.{List}
use Rattle.std.proofs.Math.ListN.{get_or}
use Rattle.octets.specs.Number.{value_of}
use Rattle.answer.specs.declared.Verdict.TheVariants.{Good, Revoked, Unknown, Refused}
use Rattle.fields.specs.Field.{value_at}
use Rattle.fields.specs.FieldLaws.{value_there}
use Rattle.slip.specs.Numbers.{numbers_in}
use Rattle.slip.specs.Table.{reason_from, good_row, revoked_row, unknown_row, refusal_row}
use Rattle.slip.specs.Slip.{verdict_in}

-- a number of one octet
pub octet_at : (s : List ℕ) (i : ℕ) → i < length s → value_of (take 1 (drop i s)) ≡ get_or s i 0
unfolding value_of
octet_at s i h = rw (drop-cons s i 0 h) (omega arith)

module _ (s : List ℕ) where
  -- each number after the one before
  second : drop 8 (drop 61 s) ≡ drop 69 s
  second = drop-drop 8 61 s

  third : drop 8 (drop 8 (drop 61 s)) ≡ drop 77 s
  third = ap (drop 8) second ∙ drop-drop 8 69 s

  fourth : drop 8 (drop 8 (drop 8 (drop 61 s))) ≡ drop 85 s
  fourth = ap (drop 8) third ∙ drop-drop 8 77 s

  this_at_lem : 69 ≤ length s → value_of (take 8 (drop 61 s)) ≡ value_at s 61 8
  this_at_lem l = sym (value_there s 61 8 (lit≤ tt) l)

  next_at_lem : 77 ≤ length s → value_of (take 8 (drop 8 (drop 61 s))) ≡ value_at s 69 8
  next_at_lem l = ap (λ (t : List ℕ). value_of (take 8 t)) second ∙ sym (value_there s 69 8 (lit≤ tt) l)

  pub good_at : 77 ≤ length s → verdict_in 20 good_row s ≡ Good (value_at s 61 8) (value_at s 69 8)
  unfolding verdict_in numbers_in
  good_at l = ap₂ Good (this_at_lem (omega arith)) (next_at_lem l)

  pub unknown_at : 77 ≤ length s → verdict_in 20 unknown_row s ≡ Unknown (value_at s 61 8) (value_at s 69 8)
  unfolding verdict_in numbers_in
  unknown_at l = ap₂ Unknown (this_at_lem (omega arith)) (next_at_lem l)

  pub revoked_at : 86 ≤ length s
      → verdict_in 20 revoked_row s ≡ Revoked (value_at s 61 8) (value_at s 69 8) (value_at s 77 8) (reason_from (get_or s 85 0))
  unfolding verdict_in numbers_in
  revoked_at l =
      let a : value_of (take 8 (drop 8 (drop 8 (drop 61 s)))) ≡ value_at s 77 8 =
      ap (λ (t : List ℕ). value_of (take 8 t)) third ∙ sym (value_there s 77 8 (lit≤ tt) (omega arith)) in
      let b : value_of (take 1 (drop 8 (drop 8 (drop 8 (drop 61 s))))) ≡ get_or s 85 0 =
      ap (λ (t : List ℕ). value_of (take 1 t)) fourth ∙ octet_at s 85 (omega arith) in
      λ i. Revoked (this_at_lem (omega arith) i) (next_at_lem (omega arith) i) (a i) (reason_from (b i))

  pub refusal_at : 2 ≤ length s → verdict_in 20 refusal_row s ≡ Refused (get_or s 0 0) (get_or s 1 0)
  unfolding verdict_in numbers_in
  refusal_at l = ap₂ Refused (octet_at s 0 (omega arith)) (octet_at s 1 (omega arith))
