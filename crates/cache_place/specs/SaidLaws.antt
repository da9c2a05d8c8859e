-- The law of a slip that may be filed: what the octets at their places have is what the slip says.
-- said_at.
-- The definitions are in Said. Assumes nothing.
use Prim.Native.Nat.{ℕ, suc, ◌+◌, ◌≤◌}
use Rattle.std.proofs.Common.{arith, ◌∙◌, lit≤}
use Rattle.std.specs.Prelude.{◌≡◌, Bool, List, [], ◌∷◌, leb, length, get_or, drop, Option}
use Rattle.std.proofs.Math.Path.{refl, sym, ap, ap₂}
use Rattle.std.proofs.Math.Bool.{true, false, cond}
use Rattle.std.proofs.Math.Dec.{eqb}
use borrow.Author.Tests.{eqb-true, eqb-false, eq-eqb, ne_eqb}
use Rattle.calendar.specs.Time.{last_second}
use Rattle.answer.specs.declared.Card.{Card}
use Rattle.answer.specs.declared.Answer.{Answer}
use Rattle.answer.specs.declared.Verdict.{Verdict}
use Rattle.answer.specs.declared.Verdict.TheVariants.{Good, Revoked, Unknown, Refused}
use Rattle.answer.specs.Card.{field_ok, card_ok}
use Rattle.answer.specs.Verdict.{saying, refused}
use Rattle.fields.specs.Field.{value_at, card_in}
use Rattle.fields.specs.FieldLaws.{field_there, value_there}
use Rattle.slip.specs.Numbers.{total, numbers_in}
use Rattle.slip.specs.Rules.{times_ok, reason_fits, verdict_ok}
use Rattle.slip.specs.Table.{Row, reason_from, row_in, row_of, card_size, body_size, size_of, good_row, revoked_row, unknown_row, refusal_row, no_row}
use Rattle.slip.specs.TableLaws.{row_good, row_revoked, row_unknown, row_refusal, row_none}
use Rattle.slip.specs.Slip.{card_fits, slip_ok, verdict_in, card_under, parsed_as, parsed, read_of}
use Rattle.slip.specs.PlaceLaws.{octet_at, good_at, unknown_at, revoked_at}
use Rattle.cache_rules.specs.Place.{is_said, says_of}
use Rattle.cache_place.specs.Times.{this_at, next_at}
use Rattle.cache_place.specs.Said.{serial_fits, times_fit, end_fits, rules_fit, slip_said}

-- an answer, its rules looked at
abbrev said : Answer → Bool
said a = cond (slip_ok a) (is_said a) false

said_read : (t : List ℕ) → is_said (says_of t) ≡ said (parsed 20 t)
unfolding read_of is_said refused
said_read t = go (slip_ok (parsed 20 t))
  where
    go : (b : Bool) → is_said (cond b (parsed 20 t) (refused 17 0)) ≡ cond b (is_said (parsed 20 t)) false
    go true = refl
    go false = refl

none : (b : Bool) → cond b false false ≡ false
none true = refl
none false = refl

-- a refusal is never said
said_refusal : (number status : ℕ) (card : Card) → said (saying (Refused number status) card) ≡ false
unfolding is_said
said_refusal number status card = none (slip_ok (saying (Refused number status) card))

said_refused : said (refused 17 0) ≡ false
unfolding is_said refused
said_refused = none (slip_ok (refused 17 0))

-- the other verdicts are, where they and the card's serial keep the rules
swap : (a b : Bool) → cond (cond a b false) true false ≡ cond b a false
swap true true = refl
swap true false = refl
swap false true = refl
swap false false = refl

module _ (this next : ℕ) (card : Card) where
  said_good : said (saying (Good this next) card) ≡ cond (card_ok card) (times_ok this next) false
  unfolding slip_ok card_fits is_said row_of row_in verdict_ok
  said_good = swap (times_ok this next) (card_ok card)

  said_unknown : said (saying (Unknown this next) card) ≡ cond (card_ok card) (times_ok this next) false
  unfolding slip_ok card_fits is_said row_of row_in verdict_ok
  said_unknown = swap (times_ok this next) (card_ok card)

  said_revoked : (at : ℕ) (reason : Option ℕ) → said (saying (Revoked this next at reason) card)
      ≡ cond (card_ok card) (cond (times_ok this next) (cond (leb at last_second) (reason_fits reason) false) false) false
  unfolding slip_ok card_fits is_said row_of row_in verdict_ok
  said_revoked at reason = swap (cond (times_ok this next) (cond (leb at last_second) (reason_fits reason) false) false) (card_ok card)

-- ---- a body behind its kind

whole : (b : Bool) → b ≡ cond b true false
whole true = refl
whole false = refl

first : (b x : Bool) → b ≡ true → x ≡ cond b x false
first b x e = rw e

module _ (kind : ℕ) (s : List ℕ) where
  abbrev t : List ℕ
  t = kind ∷ s

  abbrev answer : Row → Answer
  answer r = saying (verdict_in 20 r s) (card_under 20 r s)

  serial_at_lem : 61 ≤ length s → card_ok (card_in 20 s) ≡ serial_fits t
  unfolding card_in
  serial_at_lem l =
      ap₂ field_ok (value_there s 40 1 (lit≤ tt) (omega arith) ∙ octet_at s 40 (omega arith)) (field_there 20 s 41 (omega arith))

  value_at_lem : (i : ℕ) → i + 8 ≤ length s → value_at s i 8 ≡ value_at t (suc i) 8
  value_at_lem i l = value_there s i 8 (lit≤ tt) l ∙ sym (value_there t (suc i) 8 (lit≤ tt) (omega arith))

  times_at : 77 ≤ length s → times_ok (value_at s 61 8) (value_at s 69 8) ≡ times_fit t
  unfolding this_at next_at
  times_at l = ap₂ times_ok (value_at_lem 61 (omega arith)) (value_at_lem 69 l)

  -- by the row of its kind
  by_row : (r : Row) → row_of kind ≡ r → r.carded ≡ true → (length s ≡ body_size 20 r → said (answer r) ≡ rules_fit t)
      → said (parsed_as 20 (row_of kind) s) ≡ slip_said t
  unfolding parsed_as slip_said size_of
  by_row r e c h =
      rw e (go (eqb (length s) (body_size 20 r)) refl ∙ first r.carded (cond (eqb (suc (length s)) (suc (body_size 20 r))) (rules_fit t) false) c)
    where
      go : (b : Bool) → eqb (length s) (body_size 20 r) ≡ b
          → said (cond b (answer r) (refused 17 0)) ≡ cond (eqb (suc (length s)) (suc (body_size 20 r))) (rules_fit t) false
      go true q =
          let k = eqb-true (length s) (body_size 20 r) q in
          h k ∙ sym (rw (eq-eqb (suc (length s)) (suc (body_size 20 r)) (ap suc k)))
      go false q =
          let k = eqb-false (length s) (body_size 20 r) q in
          said_refused ∙ sym (rw (ne_eqb (suc (length s)) (suc (body_size 20 r)) (λ z. k (omega arith))))

  -- good and unknown have no more than the times
  two_times : (a : Answer) → said a ≡ cond (card_ok (card_in 20 s)) (times_ok (value_at s 61 8) (value_at s 69 8)) false
      → (kind ≡ 2 → ⊥) → 77 ≤ length s → said a ≡ rules_fit t
  unfolding rules_fit
  two_times a e n l = e ∙ rw (serial_at_lem (omega arith), times_at l, ne_eqb kind 2 n, ← whole (times_fit t))

  by_good : kind ≡ 1 → said (parsed_as 20 (row_of kind) s) ≡ slip_said t
  unfolding body_size total card_under
  by_good e =
      by_row good_row (row_good kind e) refl (λ l. two_times (answer good_row) (
      ap (λ (v : Verdict). said (saying v (card_in 20 s))) (good_at s (omega arith))
      ∙ said_good (value_at s 61 8) (value_at s 69 8) (card_in 20 s)
      ) (λ z. omega arith) (omega arith))

  by_unknown : kind ≡ 3 → said (parsed_as 20 (row_of kind) s) ≡ slip_said t
  unfolding body_size total card_under
  by_unknown e =
      by_row unknown_row (row_unknown kind e) refl (λ l. two_times (answer unknown_row) (
      ap (λ (v : Verdict). said (saying v (card_in 20 s))) (unknown_at s (omega arith))
      ∙ said_unknown (value_at s 61 8) (value_at s 69 8) (card_in 20 s)
      ) (λ z. omega arith) (omega arith))

  by_revoked : kind ≡ 2 → said (parsed_as 20 (row_of kind) s) ≡ slip_said t
  unfolding body_size total card_under end_fits rules_fit
  by_revoked e =
      by_row revoked_row (row_revoked kind e) refl (λ l.
      ap (λ (v : Verdict). said (saying v (card_in 20 s))) (revoked_at s (omega arith))
      ∙ said_revoked (value_at s 61 8) (value_at s 69 8) (card_in 20 s) (value_at s 77 8) (reason_from (get_or s 85 0))
      ∙ rw (serial_at_lem (omega arith), times_at (omega arith), value_at_lem 77 (omega arith), eq-eqb kind 2 e))

  -- a kind without a card
  by_other : (kind ≡ 1 → ⊥) → (kind ≡ 2 → ⊥) → (kind ≡ 3 → ⊥) → said (parsed_as 20 (row_of kind) s) ≡ slip_said t
  unfolding parsed_as slip_said verdict_in
  by_other a b c = go (eqb kind 4) refl
    where
      refusals : (r : Row) (b : Bool) (number status : ℕ) → r.says (numbers_in r.widths (drop (card_size 20 r) s)) ≡ Refused number status
          → said (cond b (answer r) (refused 17 0)) ≡ false
      refusals r true number status e =
          ap (λ (v : Verdict). said (saying v (card_under 20 r s))) e ∙ said_refusal number status (card_under 20 r s)
      refusals r false number status e = said_refused

      go : (d : Bool) → eqb kind 4 ≡ d → said (parsed_as 20 (row_of kind) s) ≡ slip_said t
      go true q = rw (row_refusal kind (eqb-true kind 4 q)) (refusals refusal_row (eqb (length s) (body_size 20 refusal_row)) _ _ refl)
      go false q = rw (row_none kind a b c (eqb-false kind 4 q)) (refusals (no_row kind) (eqb (length s) (body_size 20 (no_row kind))) 17 0 refl)

  by_kind : said (parsed_as 20 (row_of kind) s) ≡ slip_said t
  by_kind = go (eqb kind 1) (eqb kind 2) (eqb kind 3) refl refl refl
    where
      go : (a b c : Bool) → eqb kind 1 ≡ a → eqb kind 2 ≡ b → eqb kind 3 ≡ c → said (parsed_as 20 (row_of kind) s) ≡ slip_said t
      go true b c p q r = by_good (eqb-true kind 1 p)
      go false true c p q r = by_revoked (eqb-true kind 2 q)
      go false false true p q r = by_unknown (eqb-true kind 3 r)
      go false false false p q r = by_other (eqb-false kind 1 p) (eqb-false kind 2 q) (eqb-false kind 3 r)

none_at : slip_said [] ≡ false
unfolding slip_said row_of row_in
none_at = refl

-- what the octets at their places have is what the slip says
pub said_at : (t : List ℕ) → is_said (says_of t) ≡ slip_said t
unfolding parsed
said_at [] = said_read [] ∙ said_refused ∙ sym none_at
said_at (kind ∷ s) = said_read (kind ∷ s) ∙ by_kind kind s
