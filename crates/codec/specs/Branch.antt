-- An element, and then one of two whole lists: the first where the element's value passes a test, the
-- second where it does not.
-- branch; branch_then, branch_else, branch_bad.
-- The definitions stand here; the laws, and what is made of them, in proofs/Branch.
-- Assumes nothing.
use Rattle.std.specs.Prelude.{ℕ, Bool, cond, List, ◌⊎◌}
use Rattle.std.proofs.Math.Logic.{inl, inr}
use Rattle.std.proofs.Math.ListN.{drop}
use Rattle.codec.specs.Codec.{Read, Got}
use Rattle.codec.specs.Outcome.{further, on_got}

-- after an element of n octets, by whether it passes: the first list, or the second
unfoldable pub branch_of : {A B C : Type 0} → Bool → A → ℕ → (List ℕ → Read B) → (List ℕ → Read C)
    → List ℕ → Read ((A × B) ⊎ (A × C))
branch_of b a n d d' s = cond b (further n (λ y. inl (a, y)) (d (drop n s))) (further n (λ y. inr (a, y)) (d' (drop n s)))

unfoldable pub branch_dec : {A B C : Type 0} → (List ℕ → Got A) → (A → Bool) → (List ℕ → Read B) → (List ℕ → Read C)
    → List ℕ → Read ((A × B) ⊎ (A × C))
branch_dec d test d' d'' s = on_got (d s) (λ a n. branch_of (test a) a n d' d'' s)
