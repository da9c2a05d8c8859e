-- The cases of a time: it is one, or not.
-- time_pass, time_fail, in time_cases. Those of a serial are in NumberCases.
-- Assumes nothing.
use Rattle.std.specs.Prelude.{ℕ, ◌+◌, ◌-◌, ◌≡◌, refl, Bool, true, false, List, take, drop, Option, Some, None, Ok, Err}
use Rattle.std.proofs.Common.{sym, ◌∙◌}
use Rattle.std.proofs.Math.Option.{none, some}
use Rattle.octets.specs.LentLaws.{part_is}
use Rattle.element.specs.Header.{header_of}
use Rattle.element.specs.Places.{Spot, misfit}
use Rattle.element.specs.declared.Span.{Span}
use Rattle.calendar.specs.Time.{time_of, is_time}
use Rattle.codec.specs.Tagged.{own, tagged_dec}
use Rattle.codec.specs.Contents.{filled_dec}
use Rattle.codec.specs.Views.{step_of}
use Rattle.layout.specs.Words.{time_read}
use Rattle.read_content.specs.Spots.{expected}
use Rattle.read_content.specs.ExpectLaws.{never, content_end, content_sum}
use Rattle.read_content.specs.PrimitiveCaseLaws.{element_none, element_some, wrong_step}

read_at : (c : List ℕ) (n : ℕ) → time_of c ≡ Some n → time_read c ≡ some n
unfolding time_read
read_at c n e = rw e

read_no : (c : List ℕ) → time_of c ≡ None → time_read c ≡ none
unfolding time_read
read_no c e = rw e

module _ (t : ℕ) (s : List ℕ) (r : Spot) (q : r ≡ expected t (header_of s)) (v : Span) (f : r ≡ Ok v)
    (z : Bool) (d : z ≡ is_time (time_of (take (v.start + v.len - v.start) (drop v.start s)))) where
  judged : is_time (time_of (take v.len (drop v.start s))) ≡ z
  judged = rw (part_is v.start v.len s) at (sym d)

  pub time_pass : z ≡ true → Ok (v.start + v.len) ≡ step_of (tagged_dec own t (filled_dec time_read) s)
  unfolding step_of is_time
  time_pass y = go (time_of (take v.len (drop v.start s))) refl (judged ∙ y)
    where
      go : (x : Option ℕ) → time_of (take v.len (drop v.start s)) ≡ x → is_time x ≡ true → Ok (v.start + v.len) ≡ step_of (tagged_dec own t (filled_dec time_read) s)
      go (Some n) e i = rw (element_some t s r q time_read v f n (read_at (take v.len (drop v.start s)) n e))
      go None e i = never (cc)

  pub time_fail : z ≡ false → Err (misfit 0) ≡ step_of (tagged_dec own t (filled_dec time_read) s)
  unfolding step_of is_time
  time_fail y = go (time_of (take v.len (drop v.start s))) refl (judged ∙ y)
    where
      go : (x : Option ℕ) → time_of (take v.len (drop v.start s)) ≡ x → is_time x ≡ false → Err (misfit 0) ≡ step_of (tagged_dec own t (filled_dec time_read) s)
      go (Some n) e i = never (cc)
      go None e i = rw (element_none t s r q time_read v f (read_no (take v.len (drop v.start s)) e))

pub ruleset time_cases = (content_end, content_sum, wrong_step, time_pass, time_fail)
