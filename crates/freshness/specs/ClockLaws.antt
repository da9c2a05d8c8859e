-- A time and a tolerance are in range exactly if each is.
-- clock_exactly. The definitions are in Clock. Assumes nothing.
use Rattle.std.specs.Prelude.{ℕ, ◌≤◌, ◌↔◌, ◌≡◌, refl, Bool, true, false, cond}
use Rattle.std.proofs.Common.{arith, le-leb, leb-true}
use Rattle.calendar.specs.Time.{last_second}
use Rattle.freshness.specs.declared.Clock.{Clock}
use Rattle.freshness.specs.Clock.{now_ok, tolerance_ok, clock_ok}

pub clock_exactly : (clock : Clock) → clock_ok clock ≡ true ↔ (clock.now ≤ last_second) × (clock.tolerance ≤ 3600)
unfolding clock_ok
clock_exactly clock = (
  go (now_ok clock.now) refl,
  λ h. rw (le-leb clock.now last_second h.0) (le-leb clock.tolerance 3600 h.1),
)
  where
    go : (t : Bool) → now_ok clock.now ≡ t → cond t (tolerance_ok clock.tolerance) false ≡ true
        → (clock.now ≤ last_second) × (clock.tolerance ≤ 3600)
    go true p e = (leb-true clock.now last_second p, leb-true clock.tolerance 3600 e)
    go false p e = let z : ◌≡◌ {A = ℕ} 0 1 = cc in absurd (omega arith)
