-- The cases of the signer, by the octets of the responder id: a key's hash, or a Name.
-- name_end, by_name, by_key.
-- Assumes nothing.
use Rattle.std.specs.Prelude.{ℕ, ◌+◌, ◌-◌, ◌≤◌, ◌≡◌, List, length, take, drop, Ok, Err}
use Rattle.octets.specs.Same.{same_of}
use Rattle.octets.specs.LentLaws.{part_is}
use Rattle.element.specs.Header.{header_of}
use Rattle.element.specs.declared.Misfit.{Misfit}
use Rattle.element.specs.declared.Span.{Span}
use Rattle.read_content.specs.Spots.{expected}
use Rattle.read_content.specs.ExpectLaws.{expected_at}
use Rattle.rule_response.specs.SignerIn.{key_in, signer_at, signs_in}

module _ (key name s : List ℕ) where
  module _ (v : Span) (e : expected 0xa1 (header_of s) ≡ Ok v) where
    pub name_end : v.start + v.len ≤ length s
    name_end = (expected_at 0xa1 s v.start v.len e).2

    -- the Name, as the code lends it
    pub by_name : signs_in key name s ≡ same_of (take (v.start + v.len - v.start) (drop v.start s)) name
    unfolding signs_in signer_at
    by_name = rw (e, part_is v.start v.len s)

  pub by_key : (p : Misfit) → expected 0xa1 (header_of s) ≡ Err p → signs_in key name s ≡ key_in key s
  unfolding signs_in signer_at
  by_key p e = rw e

pub ruleset sign_cases = (name_end, by_name, by_key)
