-- The cases of a CertID, as equations: each part by its first field and what follows it.
-- key_wrong, name_wrong, hash_end, key_after, name_after, in key_cases and name_cases; body_wrong, body_end,
-- body_after, in body_cases.
-- Assumes nothing.
use Rattle.std.specs.Prelude.{ℕ, ◌+◌, ◌-◌, ◌≤◌, ◌≡◌, refl, List, length, take, drop, Ok, Err}
use Rattle.std.proofs.Common.{sym}
use Rattle.element.specs.declared.Misfit.{Misfit}
use Rattle.element.specs.declared.Span.{Span}
use Rattle.codec.proofs.Sequence.{field, only}
use Rattle.codec.specs.Views.{step_of, fit_of}
use Rattle.layout.specs.Words.{between}
use Rattle.layout.proofs.ElementKinds.{string, hash, serial}
use Rattle.layout.proofs.Format.{algorithm_identifier, cert_body}
use Rattle.read_content.specs.Spots.{spot_of}
use Rattle.read_content.specs.LastLaws.{last_hash}
use Rattle.read_sequence.specs.Judged.{after_by}
use Rattle.read_sequence.specs.CaseLaws.{spot_wrong, spot_end, spot_after_lem, field_wrong, field_end, field_after, named}

module _ (s : List ℕ) where
  -- a hash, then the serial, or another hash and the serial
  module _ (p : Misfit) (q : spot_of ((string (between 1 64)).dec s) ≡ Err p) where
    pub key_wrong : fit_of ((field hash (only serial)).dec s) ≡ Err p
    unfolding hash
    key_wrong = sym (spot_wrong hash last_hash s _ refl (only serial).dec p q)

    pub name_wrong : fit_of ((field hash (field hash (only serial))).dec s) ≡ Err p
    unfolding hash
    name_wrong = sym (spot_wrong hash last_hash s _ refl (field hash (only serial)).dec p q)

  module _ (v : Span) (q : spot_of ((string (between 1 64)).dec s) ≡ Ok v) where
    pub hash_end : v.start + v.len ≤ length s
    unfolding hash
    hash_end = spot_end hash last_hash s _ refl v q

    pub key_after : fit_of ((field hash (only serial)).dec s)
        ≡ after_by (v.start + v.len) (length s) (fit_of ((only serial).dec (take (length s - (v.start + v.len)) (drop (v.start + v.len) s))))
    unfolding hash
    key_after = sym (spot_after_lem hash last_hash (only serial) s _ refl v q _ refl _ refl)

    pub name_after : fit_of ((field hash (field hash (only serial))).dec s)
        ≡ after_by (v.start + v.len) (length s) (fit_of ((field hash (only serial)).dec (take (length s - (v.start + v.len)) (drop (v.start + v.len) s))))
    unfolding hash
    name_after = sym (spot_after_lem hash last_hash (field hash (only serial)) s _ refl v q _ refl _ refl)

  -- the algorithm, then the hashes and the serial
  pub body_wrong : (p : Misfit) → step_of (algorithm_identifier.dec s) ≡ Err p → fit_of (cert_body.dec s) ≡ Err p
  unfolding cert_body
  body_wrong p q = sym (named _ s _ _ (field_wrong algorithm_identifier s _ refl (field hash (field hash (only serial))).dec p q))

  module _ (n : ℕ) (q : step_of (algorithm_identifier.dec s) ≡ Ok n) where
    pub body_end : n ≤ length s
    body_end = field_end algorithm_identifier s _ refl n q

    pub body_after : fit_of (cert_body.dec s)
        ≡ after_by n (length s) (fit_of ((field hash (field hash (only serial))).dec (take (length s - n) (drop n s))))
    unfolding cert_body
    body_after = sym (named _ s _ _ (field_after algorithm_identifier (field hash (field hash (only serial))) s n _ _ refl _ refl q refl))

pub ruleset key_cases = (key_wrong, hash_end, key_after)

pub ruleset name_cases = (name_wrong, hash_end, name_after)

pub ruleset body_cases = (body_wrong, body_end, body_after)
