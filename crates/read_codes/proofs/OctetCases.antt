-- The cases of an octet that was read: it passes a test or fails it, or is the one that is wanted.
-- value_wrong, value_pass, value_fail, all in value_cases; taken_wrong, taken_pass, taken_fail, all in
-- taken_cases; fixed_wrong, fixed_same, fixed_other, all in fixed_cases.
-- Assumes nothing.
use Rattle.std.specs.Prelude.{ℕ, ◌≡◌, refl, Bool, true, false, cond, eqb, List, [], ◌∷◌, Ok, Err}
use Rattle.std.proofs.Common.{sym, ◌∙◌}
use Rattle.std.proofs.Math.Option.{none, some}
use borrow.Author.Tests.{eq-eqb, ne_eqb}
use Rattle.octets.specs.Same.{same_of}
use Rattle.element.specs.Places.{misfit}
use Rattle.element.specs.declared.Misfit.{Misfit}
use Rattle.codec.specs.Codec.{got, bad}
use Rattle.codec.specs.Outcome.{attach}
use Rattle.codec.specs.Tagged.{own, tagged_dec}
use Rattle.codec.specs.Contents.{fixed_read, or_start, filled_dec}
use Rattle.codec.specs.Views.{step_of}
use Rattle.layout.specs.Words.{single_read}
use Rattle.read_content.specs.ExpectLaws.{never}
use Rattle.read_content.specs.PrimitiveLaws.{other_bad, other_got}
use Rattle.read_codes.specs.Codes.{CodeRead, code_of, single_at}
use Rattle.read_codes.specs.CodeLaws.{code_got, code_bad}
use Rattle.read_codes.specs.declared.Code.{Code}

module _ (test : ℕ → Bool) where
  tested : (c : List ℕ) (v : ℕ) (b : Bool) → test v ≡ b → single_read (λ x. true) c ≡ some v → single_read test c ≡ cond b (some v) none
  unfolding single_read
  tested [] v b h e = never (cc)
  tested (x ∷ []) v b h e = let i : x ≡ v = cc in rw (i, h)
  tested (x ∷ y ∷ c) v b h e = never (cc)

  untested : (c : List ℕ) → single_read (λ x. true) c ≡ none → single_read test c ≡ none
  unfolding single_read
  untested [] e = refl
  untested (x ∷ []) e = never (cc)
  untested (x ∷ y ∷ c) e = refl

cond_same : (b : Bool) → cond b true false ≡ b
cond_same true = refl
cond_same false = refl

cond_false : (b : Bool) → cond b false false ≡ false
cond_false true = refl
cond_false false = refl

fixed_octet : (k : ℕ) (c : List ℕ) (v : ℕ) (b : Bool) → eqb k v ≡ b → single_read (λ x. true) c ≡ some v → fixed_read (k ∷ []) c ≡ cond b (some tt) none
unfolding single_read fixed_read same_of
fixed_octet k [] v b h e = never (cc)
fixed_octet k (x ∷ []) v b h e = let i : x ≡ v = cc in rw (i, h, cond_same b)
fixed_octet k (x ∷ y ∷ c) v b h e = never (cc)

fixed_none : (k : ℕ) (c : List ℕ) → single_read (λ x. true) c ≡ none → fixed_read (k ∷ []) c ≡ none
unfolding single_read fixed_read same_of
fixed_none k [] e = refl
fixed_none k (x ∷ []) e = never (cc)
fixed_none k (x ∷ y ∷ c) e = rw (cond_false (eqb k x))

-- by the octet that was read
module _ (t : ℕ) (s : List ℕ) (x : CodeRead) (q : x ≡ code_of (single_at t s)) where
  single_bad : (p : Misfit) → x ≡ Err p → tagged_dec own t (filled_dec (single_read (λ x. true))) s ≡ bad p.place
  unfolding single_at
  single_bad p f = code_bad (single_at t s) p.place (sym q ∙ f)

  single_got : (c : Code) → x ≡ Ok c → tagged_dec own t (filled_dec (single_read (λ x. true))) s ≡ got c.value c.next
  unfolding single_at
  single_got c f = code_got (single_at t s) c.value c.next (sym q ∙ f)

  -- an octet that passes a test
  module _ (test : ℕ → Bool) where
    test_bad : (p : Misfit) → x ≡ Err p → tagged_dec own t (filled_dec (single_read test)) s ≡ bad p.place
    test_bad p f = other_bad t s (single_read (λ x. true)) (single_read test) p.place (untested test) (single_bad p f)

    pub value_wrong : (p : Misfit) → x ≡ Err p → Err p ≡ code_of (tagged_dec own t (filled_dec (single_read test)) s)
    unfolding code_of
    value_wrong p f = rw (test_bad p f)

    pub taken_wrong : (p : Misfit) → x ≡ Err p → Err p ≡ step_of (tagged_dec own t (filled_dec (single_read test)) s)
    unfolding step_of
    taken_wrong p f = rw (test_bad p f)

    module _ (c : Code) (f : x ≡ Ok c) (z : Bool) (d : z ≡ test c.value) where
      test_got : (b : Bool) → z ≡ b → tagged_dec own t (filled_dec (single_read test)) s ≡ attach (own 0) c.next (or_start (cond b (some c.value) none))
      test_got b y =
          other_got t s (single_read (λ x. true)) (single_read test) c.value c.next (cond b (some c.value) none)
          (λ l e. tested test l c.value b (sym d ∙ y) e) (single_got c f)

      pub value_pass : z ≡ true → Ok c ≡ code_of (tagged_dec own t (filled_dec (single_read test)) s)
      unfolding code_of
      value_pass y = rw (test_got true y)

      pub value_fail : z ≡ false → Err (misfit 0) ≡ code_of (tagged_dec own t (filled_dec (single_read test)) s)
      unfolding code_of
      value_fail y = rw (test_got false y)

      pub taken_pass : z ≡ true → Ok c.next ≡ step_of (tagged_dec own t (filled_dec (single_read test)) s)
      unfolding step_of
      taken_pass y = rw (test_got true y)

      pub taken_fail : z ≡ false → Err (misfit 0) ≡ step_of (tagged_dec own t (filled_dec (single_read test)) s)
      unfolding step_of
      taken_fail y = rw (test_got false y)

  -- one octet alone
  module _ (k : ℕ) where
    pub fixed_wrong : (p : Misfit) → x ≡ Err p → Err p ≡ step_of (tagged_dec own t (filled_dec (fixed_read (k ∷ []))) s)
    unfolding step_of
    fixed_wrong p f = rw (other_bad t s (single_read (λ x. true)) (fixed_read (k ∷ [])) p.place (fixed_none k) (single_bad p f))

    module _ (c : Code) (f : x ≡ Ok c) where
      fixed_got : (b : Bool) → eqb k c.value ≡ b → tagged_dec own t (filled_dec (fixed_read (k ∷ []))) s ≡ attach (own 0) c.next (or_start (cond b (some tt) none))
      fixed_got b y =
          other_got t s (single_read (λ x. true)) (fixed_read (k ∷ [])) c.value c.next (cond b (some tt) none)
          (λ l e. fixed_octet k l c.value b y e) (single_got c f)

      pub fixed_same : c.value ≡ k → Ok c.next ≡ step_of (tagged_dec own t (filled_dec (fixed_read (k ∷ []))) s)
      unfolding step_of
      fixed_same y = rw (fixed_got true (eq-eqb k c.value (sym y)))

      pub fixed_other : (c.value ≡ k → ⊥) → Err (misfit 0) ≡ step_of (tagged_dec own t (filled_dec (fixed_read (k ∷ []))) s)
      unfolding step_of
      fixed_other y = rw (fixed_got false (ne_eqb k c.value (λ e. y (sym e))))

pub ruleset value_cases = (value_wrong, value_pass, value_fail)

pub ruleset taken_cases = (taken_wrong, taken_pass, taken_fail)

pub ruleset fixed_cases = (fixed_wrong, fixed_same, fixed_other)
