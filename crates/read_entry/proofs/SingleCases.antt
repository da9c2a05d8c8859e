-- The cases of an entry, as equations: each part by its first field and what follows it.
-- this_wrong, this_end, this_after; status_wrong, status_end, status_after; body_wrong, body_end, body_after.
-- Assumes nothing.
use Rattle.std.specs.Prelude.{ℕ, ◌-◌, ◌≤◌, ◌≡◌, refl, List, length, take, drop, Ok, Err}
use Rattle.std.proofs.Common.{sym}
use Rattle.element.specs.declared.Misfit.{Misfit}
use Rattle.codec.specs.Views.{step_of, fit_of}
use Rattle.layout.proofs.ElementKinds.{time}
use Rattle.layout.proofs.Format.{cert_id, cert_status, single_body}
use Rattle.read_ending.specs.Ends.{next_on}
use Rattle.read_sequence.specs.Judged.{after_by}
use Rattle.read_sequence.specs.CaseLaws.{field_wrong, field_end, field_after, named}
use Rattle.read_entry.specs.Tails.{this_on, status_on}

module _ (s : List ℕ) where
  -- thisUpdate, and what follows it
  pub this_wrong : (p : Misfit) → step_of (time.dec s) ≡ Err p → fit_of (this_on.dec s) ≡ Err p
  unfolding this_on
  this_wrong p q = sym (field_wrong time s _ refl next_on.dec p q)

  module _ (n : ℕ) (q : step_of (time.dec s) ≡ Ok n) where
    pub this_end : n ≤ length s
    this_end = field_end time s _ refl n q

    pub this_after : fit_of (this_on.dec s) ≡ after_by n (length s) (fit_of (next_on.dec (take (length s - n) (drop n s))))
    unfolding this_on
    this_after = sym (field_after time next_on s n _ _ refl _ refl q refl)

  -- the certificate's status, and what follows it
  pub status_wrong : (p : Misfit) → step_of (cert_status.dec s) ≡ Err p → fit_of (status_on.dec s) ≡ Err p
  unfolding status_on
  status_wrong p q = sym (field_wrong cert_status s _ refl this_on.dec p q)

  module _ (n : ℕ) (q : step_of (cert_status.dec s) ≡ Ok n) where
    pub status_end : n ≤ length s
    status_end = field_end cert_status s _ refl n q

    pub status_after : fit_of (status_on.dec s) ≡ after_by n (length s) (fit_of (this_on.dec (take (length s - n) (drop n s))))
    unfolding status_on
    status_after = sym (field_after cert_status this_on s n _ _ refl _ refl q refl)

  -- the CertID, and what follows it
  pub body_wrong : (p : Misfit) → step_of (cert_id.dec s) ≡ Err p → fit_of (single_body.dec s) ≡ Err p
  unfolding single_body status_on this_on next_on
  body_wrong p q = sym (named _ s _ _ (field_wrong cert_id s _ refl status_on.dec p q))

  module _ (n : ℕ) (q : step_of (cert_id.dec s) ≡ Ok n) where
    pub body_end : n ≤ length s
    body_end = field_end cert_id s _ refl n q

    pub body_after : fit_of (single_body.dec s) ≡ after_by n (length s) (fit_of (status_on.dec (take (length s - n) (drop n s))))
    unfolding single_body status_on this_on next_on
    body_after = sym (named _ s _ _ (field_after cert_id status_on s n _ _ refl _ refl q refl))
