-- The cases of contents of one octet and of none, by their length; and the tests of an octet.
-- status_high, status_low, in status_cases; reason_high, reason_low, in reason_cases; wrong_code; empty_not,
-- empty_is, in empty_cases; single_not, single_place, single_next, single_is, in single_cases.
-- Assumes nothing.
use Rattle.std.specs.Prelude.{ℕ, ◌+◌, ◌^◌, ◌≤◌, ◌<◌, ◌≡◌, refl, Bool, true, false, cond, not, eqb, leb, List, [], ◌∷◌, length, get_or, take, drop, Ok, Err}
use Rattle.std.proofs.Common.{arith, sym, ap, ◌∙◌, Fits}
use Rattle.std.proofs.Math.Option.{Option, none, some}
use Rattle.std.specs.Int.{w64}
use borrow.Author.Tests.{le-leb, lt-leb}
use Rattle.octets.specs.Same.{same_of}
use Rattle.element.specs.Header.{header_of}
use Rattle.element.specs.Places.{Spot, misfit}
use Rattle.element.specs.declared.Misfit.{Misfit}
use Rattle.element.specs.declared.Span.{Span}
use Rattle.codec.specs.Tagged.{own, tagged_dec}
use Rattle.codec.specs.Contents.{fixed_read, filled_dec}
use Rattle.codec.specs.Views.{step_of}
use Rattle.layout.specs.Words.{single_read, status_ok, reason_ok}
use Rattle.read_content.specs.Spots.{expected}
use Rattle.read_content.specs.ExpectLaws.{content_first, content_end, content_length}
use Rattle.read_content.specs.PrimitiveCaseLaws.{element_wrong, element_none, element_some, wrong_step}
use Rattle.read_codes.specs.Codes.{code, code_of, single_at, empty_at}

-- the tests of the octet
negated : (b : Bool) → not b ≡ cond b false true
negated true = refl
negated false = refl

module _ (n : ℕ) where
  pub status_high : 6 < n → leb n 6 ≡ status_ok n
  unfolding status_ok
  status_high h = rw (lt-leb n 6 h)

  pub status_low : n ≤ 6 → not (eqb n 4) ≡ status_ok n
  unfolding status_ok
  status_low h = rw (le-leb n 6 h) (negated (eqb n 4))

  pub reason_high : 10 < n → leb n 10 ≡ reason_ok n
  unfolding reason_ok
  reason_high h = rw (lt-leb n 10 h)

  pub reason_low : n ≤ 10 → not (eqb n 7) ≡ reason_ok n
  unfolding reason_ok
  reason_low h = rw (le-leb n 10 h) (negated (eqb n 7))

pub ruleset status_cases = (status_high, status_low)

pub ruleset reason_cases = (reason_high, reason_low)

-- contents by their length
not_single : (test : ℕ → Bool) (c : List ℕ) → (length c ≡ 1 → ⊥) → single_read test c ≡ none
unfolding single_read
not_single test [] h = refl
not_single test (x ∷ []) h = absurd (h refl)
not_single test (x ∷ y ∷ c) h = refl

is_single : (c : List ℕ) → length c ≡ 1 → single_read (λ x. true) c ≡ some (get_or c 0 0)
unfolding single_read
is_single [] h = absurd (omega arith)
is_single (x ∷ []) h = refl
is_single (x ∷ y ∷ c) h = absurd (omega arith)

not_empty : (c : List ℕ) → (length c ≡ 0 → ⊥) → fixed_read [] c ≡ none
unfolding fixed_read same_of
not_empty [] h = absurd (h refl)
not_empty (x ∷ c) h = refl

is_empty_lem : (c : List ℕ) → length c ≡ 0 → fixed_read [] c ≡ some tt
unfolding fixed_read same_of
is_empty_lem [] h = refl
is_empty_lem (x ∷ c) h = absurd (omega arith)

-- a header that is wrong
module _ (t : ℕ) (s : List ℕ) (r : Spot) (q : r ≡ expected t (header_of s)) where
  pub wrong_code : (d : List ℕ → Option ℕ) (p : Misfit) → r ≡ Err p → Err p ≡ code_of (tagged_dec own t (filled_dec d) s)
  unfolding code_of
  wrong_code d p f = rw (element_wrong t s r q d p f)

-- by where the content is
module _ (t : ℕ) (s : List ℕ) (r : Spot) (q : r ≡ expected t (header_of s)) (v : Span) (f : r ≡ Ok v) where
  pub empty_not : (v.len ≡ 0 → ⊥) → Err (misfit 0) ≡ step_of (empty_at t s)
  unfolding step_of empty_at
  empty_not o =
      rw (element_none t s r q (fixed_read []) v f
      (not_empty (take v.len (drop v.start s)) (λ e. o (sym (content_length t s r q v f) ∙ e))))

  pub empty_is : v.len ≡ 0 → Ok v.start ≡ step_of (empty_at t s)
  unfolding step_of empty_at
  empty_is o =
      let e : v.start + v.len ≡ v.start = omega arith in
      rw (element_some t s r q (fixed_read []) v f tt (is_empty_lem (take v.len (drop v.start s)) (content_length t s r q v f ∙ o)), e)

  pub single_not : (v.len ≡ 1 → ⊥) → Err (misfit 0) ≡ code_of (single_at t s)
  unfolding code_of single_at
  single_not o =
      rw (element_none t s r q (single_read (λ x. true)) v f
      (not_single (λ x. true) (take v.len (drop v.start s)) (λ e. o (sym (content_length t s r q v f) ∙ e))))

  module _ (o : v.len ≡ 1) where
    pub single_place : v.start < length s
    single_place = omega (arith, content_end t s r q v f)

    pub single_next : length s < 2 ^ 64 → Fits w64 (v.start + 1)
    single_next z = record { fits = omega (arith, content_end t s r q v f) }

    pub single_is : Ok (code (get_or s v.start 0) (v.start + 1)) ≡ code_of (single_at t s)
    unfolding code_of single_at
    single_is =
        let c = take v.len (drop v.start s) in
        let e : v.start + v.len ≡ v.start + 1 = omega arith in
        let n = content_length t s r q v f in
        sym (ap code_of (element_some t s r q (single_read (λ x. true)) v f (get_or c 0 0) (is_single c (n ∙ o)))
        ∙ rw (content_first v.start v.len s (omega arith), e))

pub ruleset empty_cases = (wrong_step, empty_not, empty_is)

pub ruleset single_cases = (wrong_code, single_not, single_place, single_next, single_is)
