-- The cases of a serial: it is one, or not.
-- serial_pass, serial_fail, in serial_cases. The cases of a time are in TimeCases.
-- Assumes nothing.
use Rattle.std.specs.Prelude.{ℕ, ◌+◌, ◌-◌, ◌≡◌, Bool, true, false, List, take, drop, Ok, Err}
use Rattle.std.proofs.Common.{sym}
use Rattle.octets.specs.Number.{value_of}
use Rattle.octets.specs.LentLaws.{part_is}
use Rattle.element.specs.Header.{header_of}
use Rattle.element.specs.Places.{Spot, misfit}
use Rattle.element.specs.declared.Span.{Span}
use Rattle.content.specs.Serial.{serial_ok}
use Rattle.codec.specs.Tagged.{own, tagged_dec}
use Rattle.codec.specs.Contents.{filled_dec}
use Rattle.codec.specs.Views.{step_of}
use Rattle.layout.specs.Words.{serial_read}
use Rattle.read_content.specs.Spots.{expected}
use Rattle.read_content.specs.ExpectLaws.{content_end, content_sum}
use Rattle.read_content.specs.PrimitiveCaseLaws.{element_none, element_some, wrong_step}

module _ (t : ℕ) (s : List ℕ) (r : Spot) (q : r ≡ expected t (header_of s)) (v : Span) (f : r ≡ Ok v)
    (z : Bool) (d : z ≡ serial_ok (take (v.start + v.len - v.start) (drop v.start s))) where
  pub serial_pass : z ≡ true → Ok (v.start + v.len) ≡ step_of (tagged_dec own t (filled_dec serial_read) s)
  unfolding step_of serial_read
  serial_pass y =
      let e = rw (part_is v.start v.len s, y) at (sym d) in
      rw (element_some t s r q serial_read v f (value_of (take v.len (drop v.start s))) (rw e))

  pub serial_fail : z ≡ false → Err (misfit 0) ≡ step_of (tagged_dec own t (filled_dec serial_read) s)
  unfolding step_of serial_read
  serial_fail y = let e = rw (part_is v.start v.len s, y) at (sym d) in rw (element_none t s r q serial_read v f (rw e))

pub ruleset serial_cases = (content_end, content_sum, wrong_step, serial_pass, serial_fail)
