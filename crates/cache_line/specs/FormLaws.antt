-- An input that is written in order is read as its parts.
-- form_clock, form_begins, form_paper, form_cache; form_reply, form_follows.
-- The parts are in Input, the answer in Reply. Assumes nothing.
use Rattle.std.specs.Prelude.{ℕ, ◌+◌, ◌-◌, ◌^◌, ◌<◌, ◌≡◌, refl, false, get_or, take, drop}
use native.Mathlib.Omega.{arith}
use Rattle.std.proofs.Common.{sym, ◌∙◌, lit≤, length-append, take_at, drop-drop, get_or-drop}
use Rattle.std.proofs.Math.Path.{ap, ap₂}
use mathlib.Core.List.{List, ◌∷◌, ◌++◌}
use Rattle.std.proofs.Math.ListN.{length}
use Rattle.std.proofs.Math.Seq.{drop_at}
use borrow.Author.Tests.{ne_eqb, le-ltb}
use Rattle.octets.specs.Number.{value_of, octets_of}
use Rattle.octets.specs.NumberLaws.{octets_length, value_octets}
use Rattle.fields.specs.FieldLaws.{value_there}
use Rattle.freshness.specs.declared.Clock.{Clock}
use Rattle.cache_line.specs.Input.{is_new, clock_in, begins_at, paper_in, cache_in, input_form}
use Rattle.cache_line.specs.Reply.{reply_with, cache_with, reply_of, cache_of}

module _ (operation : ℕ) (clock : Clock) (paper s : List ℕ) (a : clock.now < 2 ^ 64) (b : clock.tolerance < 2 ^ 64) where
  abbrev form : List ℕ
  form = input_form operation clock paper s

  abbrev last : List ℕ
  last = length paper ∷ (paper ++ s)

  abbrev second : List ℕ
  second = octets_of 8 clock.tolerance ++ last

  after_now : drop 9 form ≡ second
  after_now = drop_at (octets_of 8 clock.now) second 8 (octets_length 8 clock.now)

  after_tolerance : drop 17 form ≡ last
  after_tolerance =
      sym (drop-drop 8 9 form)
      ∙ ap (drop 8) after_now
      ∙ drop_at (octets_of 8 clock.tolerance) last 8 (octets_length 8 clock.tolerance)

  after_size : drop 18 form ≡ paper ++ s
  after_size = sym (drop-drop 1 17 form) ∙ ap (drop 1) after_tolerance

  size : get_or form 17 0 ≡ length paper
  size = sym (get_or-drop 17 form 0 0) ∙ ap (λ (x : List ℕ). get_or x 0 0) after_tolerance

  long : length form ≡ 18 + length paper + length s
  long =
      omega (
        arith,
        length-append (octets_of 8 clock.now) second,
        length-append (octets_of 8 clock.tolerance) last,
        length-append paper s,
        octets_length 8 clock.now,
        octets_length 8 clock.tolerance,
      )

  pub form_clock : clock_in form ≡ clock
  unfolding clock_in
  form_clock =
      ap₂
      (λ (x y : ℕ). record { now = x; tolerance = y })
      (value_there form 1 8 (lit≤ tt) (omega (arith, long))
      ∙ ap value_of (take_at (octets_of 8 clock.now) second 8 (octets_length 8 clock.now))
      ∙ value_octets 8 clock.now a)
      (value_there form 9 8 (lit≤ tt) (omega (arith, long))
      ∙ ap (λ (x : List ℕ). value_of (take 8 x)) after_now
      ∙ ap value_of (take_at (octets_of 8 clock.tolerance) last 8 (octets_length 8 clock.tolerance))
      ∙ value_octets 8 clock.tolerance b)

  pub form_begins : begins_at form ≡ 18 + length paper
  unfolding begins_at
  form_begins =
      rw (le-ltb (length form) 18 (omega (arith, long)), size, le-ltb (length form) (18 + length paper) (omega (arith, long)))

  pub form_paper : paper_in form ≡ paper
  unfolding paper_in
  form_paper =
      let e : 18 + length paper - 18 ≡ length paper = omega arith in
      rw (form_begins, e, after_size) (take_at paper s (length paper) refl)

  pub form_cache : cache_in form ≡ s
  unfolding cache_in
  form_cache = rw form_begins (sym (drop-drop (length paper) 18 form) ∙ ap (drop (length paper)) after_size ∙ drop_at paper s (length paper) refl)

  old : is_new form ≡ false
  unfolding is_new
  old = rw (ne_eqb (length form) 1 (λ e. omega (arith, long)))

  -- the answer to it is that of its parts
  pub form_reply : reply_of form ≡ reply_with operation clock paper s
  unfolding reply_of
  form_reply = rw (old, ne_eqb (begins_at form) 0 (λ e. omega (arith, form_begins)), form_clock, form_paper, form_cache)

  pub form_follows : cache_of form ≡ cache_with operation clock paper s
  unfolding cache_of
  form_follows = rw (old, ne_eqb (begins_at form) 0 (λ e. omega (arith, form_begins)), form_clock, form_paper, form_cache)
