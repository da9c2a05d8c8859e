-- The cases of an algorithm identifier, as equations: parameters by whether there is an octet, a body
-- by its OID and what follows it.
-- parameters_none, parameters_some, in parameters_cases; body_wrong, body_end, body_after, in body_cases;
-- usual_cases.
-- Assumes nothing.
use Rattle.std.specs.Prelude.{ℕ, ◌+◌, ◌-◌, ◌≤◌, ◌≡◌, refl, List, length, take, drop, Ok, Err}
use Rattle.std.proofs.Common.{arith, sym}
use Rattle.element.specs.declared.Misfit.{Misfit}
use Rattle.element.specs.declared.Span.{Span}
use Rattle.codec.proofs.Maybe.{maybe}
use Rattle.codec.proofs.TreeRead.{tree}
use Rattle.codec.specs.Views.{step_of, fit_of}
use Rattle.layout.proofs.ElementKinds.{oid, free}
use Rattle.layout.proofs.Format.{algorithm_body}
use Rattle.read_content.specs.Spots.{spot_of}
use Rattle.read_content.specs.LastLaws.{last_oid}
use Rattle.read_sequence.specs.Judged.{filled_by, after_by}
use Rattle.read_sequence.specs.ViewLaws.{fit_maybe_none, fit_maybe_step}
use Rattle.read_sequence.specs.CaseLaws.{spot_wrong, spot_end, spot_after_lem, named}
use Rattle.read_algorithm.specs.Usual.{usual_cut, usual_other, usual_same}

module _ (s : List ℕ) where
  pub parameters_none : length s ≡ 0 → fit_of ((maybe free).dec s) ≡ Ok tt
  parameters_none h = fit_maybe_none free s h

  pub parameters_some : (length s ≡ 0 → ⊥) → fit_of ((maybe free).dec s) ≡ filled_by (length s) (step_of ((tree 16).dec s))
  unfolding free
  parameters_some h = fit_maybe_step free s (omega arith)

  pub body_wrong : (p : Misfit) → spot_of (oid.dec s) ≡ Err p → fit_of (algorithm_body.dec s) ≡ Err p
  unfolding algorithm_body
  body_wrong p q = sym (named _ s _ _ (spot_wrong oid last_oid s _ refl (maybe free).dec p q))

  module _ (v : Span) (q : spot_of (oid.dec s) ≡ Ok v) where
    pub body_end : v.start + v.len ≤ length s
    body_end = spot_end oid last_oid s _ refl v q

    pub body_after : fit_of (algorithm_body.dec s)
        ≡ after_by (v.start + v.len) (length s) (fit_of ((maybe free).dec (take (length s - (v.start + v.len)) (drop (v.start + v.len) s))))
    unfolding algorithm_body
    body_after = sym (named _ s _ _ (spot_after_lem oid last_oid (maybe free) s _ refl v q _ refl _ refl))

pub ruleset parameters_cases = (parameters_none, parameters_some)

pub ruleset body_cases = (body_wrong, body_end, body_after)

-- whether it is the usual one
pub ruleset usual_cases = (usual_cut, usual_other, usual_same)
