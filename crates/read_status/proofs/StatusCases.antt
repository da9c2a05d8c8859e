-- The cases of a status, as equations: a reason by its code and by its header, maybe a reason by the
-- first octet, a revocation by its time and what follows it.
-- reason_filled; reason_wrong, reason_end, reason_closed, in reason_cases; maybe_reason, no_reason, in
-- maybe_cases; body_wrong, body_end, body_after, in body_cases; status_cases.
-- Assumes nothing.
use Rattle.std.specs.Prelude.{ℕ, ◌+◌, ◌-◌, ◌≤◌, ◌≡◌, refl, true, false, List, length, take, drop, Ok, Err}
use Rattle.std.proofs.Common.{sym}
use Rattle.element.specs.Header.{header_of}
use Rattle.element.specs.declared.Misfit.{Misfit}
use Rattle.element.specs.declared.Span.{Span}
use Rattle.codec.proofs.Sequence.{only}
use Rattle.codec.specs.Starts.{starts_with}
use Rattle.codec.specs.Views.{step_of, fit_of}
use Rattle.layout.specs.Words.{reason_ok}
use Rattle.layout.proofs.ElementKinds.{enumerated, optional, time}
use Rattle.layout.proofs.Format.{reason, reason_starts, revoked_body}
use Rattle.read_content.specs.Spots.{expected}
use Rattle.read_sequence.specs.Judged.{filled_by, closed_by, after_by}
use Rattle.read_sequence.specs.CaseLaws.{tagged_wrong, tagged_end, tagged_sum, tagged_closed, field_wrong, field_end, field_after, filled_only, filled_optional, optional_none, choice_first, choice_second, named_element}

module _ (s : List ℕ) where
  -- a code and nothing more
  pub reason_filled : fit_of ((only (enumerated reason_ok)).dec s) ≡ filled_by (length s) (step_of ((enumerated reason_ok).dec s))
  reason_filled = sym (filled_only (enumerated reason_ok) s _ refl _ refl)

  -- a reason
  pub reason_wrong : (p : Misfit) → expected 0xa0 (header_of s) ≡ Err p → step_of (reason.dec s) ≡ Err p
  unfolding reason
  reason_wrong p q = sym (tagged_wrong 0xa0 s _ refl (only (enumerated reason_ok)).dec p q)

  module _ (v : Span) (q : expected 0xa0 (header_of s) ≡ Ok v) where
    pub reason_end : v.start + v.len ≤ length s
    reason_end = tagged_end 0xa0 s _ refl v q

    pub reason_closed : step_of (reason.dec s)
        ≡ closed_by v.start (v.start + v.len) (fit_of ((only (enumerated reason_ok)).dec (take (v.start + v.len - v.start) (drop v.start s))))
    unfolding reason
    reason_closed = sym (tagged_closed (only (enumerated reason_ok)) 0xa0 s _ refl v q _ refl _ refl)

  -- maybe a reason
  pub maybe_reason : starts_with 0xa0 s ≡ true → fit_of ((optional 0xa0 reason reason_starts).dec s) ≡ filled_by (length s) (step_of (reason.dec s))
  maybe_reason q = sym (filled_optional reason s _ refl _ refl 0xa0 reason_starts _ refl q)

  pub no_reason : starts_with 0xa0 s ≡ false → fit_of ((optional 0xa0 reason reason_starts).dec s) ≡ filled_by (length s) (Ok 0)
  no_reason q = sym (optional_none reason s 0xa0 reason_starts _ refl q _ refl)

  -- a time, then maybe a reason
  pub body_wrong : (p : Misfit) → step_of (time.dec s) ≡ Err p → fit_of (revoked_body.dec s) ≡ Err p
  unfolding revoked_body
  body_wrong p q = sym (field_wrong time s _ refl (optional 0xa0 reason reason_starts).dec p q)

  module _ (n : ℕ) (q : step_of (time.dec s) ≡ Ok n) where
    pub body_end : n ≤ length s
    body_end = field_end time s _ refl n q

    pub body_after : fit_of (revoked_body.dec s) ≡ after_by n (length s) (fit_of ((optional 0xa0 reason reason_starts).dec (take (length s - n) (drop n s))))
    unfolding revoked_body
    body_after = sym (field_after time (optional 0xa0 reason reason_starts) s n _ _ refl _ refl q refl)

pub ruleset reason_cases = (reason_wrong, reason_end, reason_closed)

pub ruleset maybe_cases = (maybe_reason, no_reason)

pub ruleset body_cases = (body_wrong, body_end, body_after)

-- the three by the first octet
pub ruleset status_cases = (choice_first, choice_second, named_element)
