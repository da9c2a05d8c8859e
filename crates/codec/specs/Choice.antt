-- One of two elements, by whether the first octet is the first one's.
-- choice.
-- The definitions stand here; the laws, and what is made of them, in proofs/Choice.
-- Assumes nothing.
use Rattle.std.specs.Prelude.{ℕ, Bool, cond, List, ◌⊎◌}
use Rattle.std.proofs.Math.Logic.{inl, inr}
use Rattle.codec.specs.Codec.{Got}
use Rattle.codec.specs.Outcome.{called}
use Rattle.codec.specs.Starts.{starts_with}

-- the first, or the second
unfoldable pub choice_of : {A B : Type 0} → Bool → (List ℕ → Got A) → (List ℕ → Got B) → List ℕ → Got (A ⊎ B)
choice_of b d d' s = cond b (called inl (d s)) (called inr (d' s))

unfoldable pub choice_dec : {A B : Type 0} → ℕ → (List ℕ → Got A) → (List ℕ → Got B) → List ℕ → Got (A ⊎ B)
choice_dec t d d' s = choice_of (starts_with t s) d d' s
