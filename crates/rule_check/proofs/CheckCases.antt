-- The cases of the check: the question out of range, the response refused as a whole, one card.
-- rule_end, rule_sum, rule_clear, in rule_cases; check_range, check_ruled, check_error.
-- Assumes nothing.
use Rattle.std.specs.Prelude.{Ok}
use Prim.Native.Nat.{ℕ, ◌+◌, ◌-◌, ◌^◌, ◌≤◌, ◌<◌}
use native.Mathlib.Omega.{arith}
use mathlib.Core.Path.{◌≡◌, sym, ap, ◌∙◌}
use mathlib.Core.Bool.{Bool, true, false, not}
use mathlib.Core.List.{List}
use lib.ListN.{length, get_or, take, drop}
use borrow.Author.Tests.{not-true, not-false}
use mir.Syntax.{w8, w64}
use mir.Val.{Fits}
use Rattle.octets.specs.OctetsLaws.{octets_from}
use Rattle.element.specs.declared.Span.{Span}
use Rattle.answer.specs.Verdict.{refused}
use Rattle.answer.specs.declared.Answer.{Answer}
use Rattle.read_response.specs.Parts.{judged_of}
use Rattle.read_response.specs.Refusals.{refusal_of}
use Rattle.rules.specs.declared.Question.{Question}
use Rattle.rules.specs.Question.{in_range}
use Rattle.rules.specs.Ruling.{answer_of}
use Rattle.rules.proofs.RefusalLaws.{out_of_range}
use Rattle.rule_response.specs.Opened.{Opened, opened_of}
use Rattle.rule_response.specs.OpenedLaws.{opened_inside}
use Rattle.rule_check.specs.CardRuled.{card_ruled, opened_ruled}
use Rattle.rule_check.specs.CheckLaws.{CardKnown, check_by_parts, error_answer}

-- ── judged as a whole, then for the card ──
module _ (q : Question) (name s : List ℕ) (octet : (i : ℕ) → Fits w8 (get_or s i 0)) (w : Opened) (y : w ≡ opened_of q name s) where
  module _ (v : Span) (e : w ≡ Ok v) where
    pub rule_end : v.start + v.len ≤ length s
    rule_end = opened_inside q name s (octets_from s (λ i lt. (octet i).fits)) v (sym y ∙ e)

    pub rule_sum : length s < 2 ^ 64 → Fits w64 (v.start + v.len)
    rule_sum z = record { fits = omega (arith, rule_end) }

    pub rule_clear : (a : Answer) → a ≡ card_ruled q (take (v.start + v.len - v.start) (drop v.start s)) → a ≡ opened_ruled q s (opened_of q name s)
    unfolding opened_ruled
    rule_clear a h =
        let i : v.start + v.len - v.start ≡ v.len = omega arith in
        (rw i at h) ∙ ap (opened_ruled q s) (sym e ∙ y)

-- ── the ranges first ──
module _ (q : Question) (name s : List ℕ) (r : Bool) (x : r ≡ in_range q name) where
  pub check_range : not r ≡ true → (a : Answer) → a ≡ refused 1 0 → a ≡ answer_of q name s
  check_range h a e = e ∙ sym (out_of_range q name s (sym x ∙ not-true r h))

  pub check_ruled : not r ≡ false → ((i : ℕ) → Fits w8 (get_or s i 0)) → CardKnown q.card → (a : Answer) → a ≡ opened_ruled q s (opened_of q name s) → a ≡ answer_of q name s
  check_ruled k octet known a h = h ∙ sym (check_by_parts q name s (sym x ∙ not-false r k) (octets_from s (λ i lt. (octet i).fits)) known)

  -- an error response
  pub check_error : not r ≡ false → ((i : ℕ) → Fits w8 (get_or s i 0)) → CardKnown q.card → (n : ℕ) → n ≡ (refusal_of (judged_of s)).status → (n ≡ 0 → ⊥)
      → (a : Answer) → a ≡ refused 4 n → a ≡ answer_of q name s
  check_error k octet known n e z a h =
      h ∙ sym (error_answer q name s (sym x ∙ not-false r k) (octets_from s (λ i lt. (octet i).fits)) known n e z)

pub ruleset rule_cases = (rule_end, rule_sum, rule_clear)
