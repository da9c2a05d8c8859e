-- Settled contracts of the walk. Of a function that makes or moves a walk the contract's own clauses are shown to be a plain
-- claim, in every model of the program logic, and that claim is settled.
-- ExitClaim, Plain; CRATE_FUNCTION_plain and CRATE_FUNCTION_settled of start and next, of next also walk_next_part and
-- walk_next_buffer; walk_step_from_settled, walk_steps_step_at_settled and walk_steps_part_in_settled, as elsewhere.
-- What it is to be settled is in Settled. Assumes nothing.
use Rattle.std.specs.Prelude.{◌≡◌, refl}
use base.Logic.{emp}
use borrow.Fn.World.{World, ArgsD, ResD}
use contract.Lifetimes.{Lfts}
use contract.Monad.{fact}
use denote.Triple.Clauses.{Ended, AtExit, Clauses}
use Rattle.walk_rules.specs.Walked.{start_of, say_of, hand_of, moved_of}
use Rattle.walk_steps.proofs.step_at.Reads as walk_steps_step_at
use Rattle.walk_steps.proofs.part_in.Reads as walk_steps_part_in
use Rattle.walk.specs.contracts.start as walk_start
use Rattle.walk.specs.contracts.next as walk_next
use Rattle.walk.proofs.step_from.Reads as walk_step_from
use Rattle.contracts.specs.Settled.{Settled, settled, Settles, settles}

module _ (T : Ended) where
  -- a claim of the lifetimes, the arguments, the result and the parameters at exit
  abbrev pub ExitClaim : Type 1
  ExitClaim = (k : Lfts T.signature.lifetimes) → ArgsD T.signature k → ResD T.signature k → AtExit T k → Type 0

  -- a contract asks nothing, and ensures this claim
  abbrev pub Plain : ((w : World) → Clauses w.𝓤 T) → ExitClaim → Type 2
  Plain clauses Learnt =
      (w : World) (k : Lfts T.signature.lifetimes) (a : ArgsD T.signature k) (g : (clauses w k a).ghost)
      → ((clauses w k a).requires g ≡ emp w.𝓤)
      × ((z : ResD T.signature k) (e : AtExit T k) → (clauses w k a).ensures g z e ≡ fact w.𝓤 (Learnt k a z e))

-- ── start: a walk at the first entry of a lent response ──
abbrev pub start_learnt : ExitClaim walk_start.ended
start_learnt k a z e = z ≡ start_of a.0

pub walk_start_plain : Plain walk_start.ended (λ w. walk_start.clauses w.𝓛 w.𝓜.mem w.𝓡.returns) start_learnt
walk_start_plain w k a g = (refl, λ z e. refl)

pub walk_start_settled : Settled (λ k a. Unit {0}) start_learnt
walk_start_settled = settled _ _ _ (λ k a. tt) (λ k a z e p. p)

-- ── next: what a step of a lent walk says, the octets that it hands out, and the walk then ──
abbrev pub next_learnt : ExitClaim walk_next.ended
next_learnt k a z e = (z.says ≡ say_of a.0.now) × (z.part.now ≡ hand_of a.0.now) × (e.0.now ≡ moved_of a.0.now)

pub walk_next_plain : Plain walk_next.ended (λ w. walk_next.clauses w.𝓛 w.𝓜.mem w.𝓡.returns) next_learnt
walk_next_plain w k a g = (refl, λ z e. refl)

pub walk_next_settled : Settles (λ k a. Unit {0}) next_learnt (λ k z e. z.says)
walk_next_settled = settles _ _ (λ k z e. z.says) _ (λ k a. tt) (λ k a z e p. p.0)

pub walk_next_part : Settles (λ k a. Unit {0}) next_learnt (λ k z e. z.part.now)
walk_next_part = settles _ _ (λ k z e. z.part.now) _ (λ k a. tt) (λ k a z e p. p.1)

pub walk_next_buffer : Settles (λ k a. Unit {0}) next_learnt (λ k z e. e.0.now)
walk_next_buffer = settles _ _ (λ k z e. e.0.now) _ (λ k a. tt) (λ k a z e p. p.2)

-- ── step_from: a step at a place, as numbers ──
pub walk_step_from_settled : Settled walk_step_from.Asked walk_step_from.Learnt
walk_step_from_settled = settled _ _ _ (λ k a. tt) (λ k a z e p. p)

-- ── step_at, part_in: a step by the response and the place, and its part by what was said ──
pub walk_steps_step_at_settled : Settled walk_steps_step_at.Asked walk_steps_step_at.Learnt
walk_steps_step_at_settled = settled _ _ _ (λ k a. tt) (λ k a z e p. p)

pub walk_steps_part_in_settled : Settles walk_steps_part_in.Asked walk_steps_part_in.Learnt (λ k z e. z.now)
walk_steps_part_in_settled = settles _ _ (λ k z e. z.now) _ (λ k a. tt) (λ k a z e p. p)
