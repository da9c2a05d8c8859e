-- Contents against the tests that a description gives: octets that pass a test, one string of octets.
-- tested_finds, octets_finds, fixed_finds; octets_same.
-- Assumes nothing.
use Rattle.std.specs.Prelude.{ℕ, ◌≡◌, refl, Bool, true, false, cond, List}
use Rattle.std.proofs.Math.Option.{none, some}
use Rattle.octets.specs.Same.{same_of}
use Rattle.codec.specs.Codec.{read}
use Rattle.codec.proofs.Outcome.{broke_read}
use Rattle.codec.specs.Contents.{octets_read, fixed_read, or_start, filled_dec}
use Rattle.codec.specs.Views.{fit_of}
use Rattle.faults.specs.Faults.{unless}
use Rattle.faults.specs.Order.{leftmost}
use Rattle.faults.specs.Finds.{WholeFinds}

-- a content that is read where a test passes
pub tested_finds : {A : Type 0} (b : Bool) (a : A) → fit_of (or_start (cond b (some a) none)) ≡ leftmost (unless b)
unfolding fit_of leftmost
tested_finds true a = refl
tested_finds false a = refl

pub octets_finds : (test : List ℕ → Bool) → WholeFinds (filled_dec (octets_read test)) (λ c. unless (test c))
unfolding filled_dec octets_read
octets_finds test c = tested_finds (test c) c

pub fixed_finds : (x : List ℕ) → WholeFinds (filled_dec (fixed_read x)) (λ c. unless (same_of x c))
unfolding filled_dec fixed_read
fixed_finds x c = tested_finds (same_of x c) tt

-- octets are read as themselves
pub octets_same : (test : List ℕ → Bool) (c a : List ℕ) → filled_dec (octets_read test) c ≡ read a → c ≡ a
unfolding filled_dec octets_read
octets_same test c a e = go (test c) e
  where
    go : (b : Bool) → or_start (cond b (some c) none) ≡ read a → c ≡ a
    go true e = cc
    go false e = broke_read e
