-- Every number up to 253,402,300,799 is what exactly one string of octets reads as (document 01, "Times").
-- time_sound, time_complete, time_octets.
-- Assumes nothing.
use Rattle.std.specs.Prelude.{ℕ, ◌≤◌, ◌<◌, ◌≡◌, List, Some, get_or}
use Rattle.std.proofs.Common.{sym, ap, ◌∙◌}
use Rattle.calendar.specs.Time.{last_second, time_of, moment_form, moment_of, time_form}
use Rattle.calendar.specs.MomentLaws.{moment_sound, moment_only, seconds_limit}
use Rattle.calendar.specs.FormLaws.{form_read, read_form, small_at, form_small}

-- octets that read as a number are that number's octets
pub time_sound : (s : List ℕ) (n : ℕ) → time_of s ≡ Some n → (n ≤ last_second) × (s ≡ time_form n)
unfolding time_form
time_sound s n e =
    let (m, r, f, d) = read_form s n e in
    (rw (← d) (seconds_limit m r), f ∙ ap moment_form (sym (moment_only m r)) ∙ ap (λ (k : ℕ). moment_form (moment_of k)) d)

-- a number's octets read as that number
pub time_complete : (n : ℕ) → n ≤ last_second → time_of (time_form n) ≡ Some n
unfolding time_form
time_complete n h =
    let (r, d) = moment_sound n h in
    form_read (moment_of n) r ∙ ap (λ (k : ℕ). Some k) d

-- each below 256
pub time_octets : (n i : ℕ) → get_or (time_form n) i 0 < 256
unfolding time_form
time_octets n = small_at (moment_form (moment_of n)) (form_small (moment_of n))
