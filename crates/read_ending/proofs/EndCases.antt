-- Maybe extensions, by the first octet, and maybe nextUpdate before them: what the code knows at each
-- return, and the contract there.
-- ends_empty, ends_other, ends_there; next_missing, next_wrong, next_end, next_after.
-- Assumes nothing.
use Prim.Native.Nat.{ℕ, ◌-◌, ◌≤◌}
use native.Mathlib.Omega.{arith}
use mathlib.Core.Path.{◌≡◌, refl, sym}
use mathlib.Core.Bool.{Bool, true, false}
use mathlib.Core.List.{List, [], ◌∷◌}
use Rattle.std.specs.Prelude.{Ok, Err}
use lib.Dec.{eqb}
use lib.ListN.{length, get_or, take, drop}
use borrow.Author.Tests.{eq-eqb, ne_eqb}
use Rattle.element.specs.Places.{misfit}
use Rattle.element.specs.declared.Misfit.{Misfit}
use Rattle.codec.specs.Starts.{starts_with}
use Rattle.codec.specs.Views.{step_of, fit_of}
use Rattle.codec.specs.Steps.{Step, Fit}
use Rattle.layout.proofs.Format.{extensions, extensions_start, next_update}
use Rattle.read_sequence.specs.Judged.{filled_by, after_by}
use Rattle.read_sequence.specs.CaseLaws.{filled_optional, optional_none, option_there, option_missing, field_wrong, field_end, field_after}
use Rattle.read_ending.specs.Ends.{extensions_on, next_on}

starts_empty : (s : List ℕ) → length s ≡ 0 → false ≡ starts_with 0xa1 s
unfolding starts_with
starts_empty [] h = refl
starts_empty (x ∷ s) h = absurd (omega arith)

starts_by : (s : List ℕ) → (length s ≡ 0 → ⊥) → eqb (get_or s 0 0) 0xa1 ≡ starts_with 0xa1 s
unfolding starts_with
starts_by [] h = absurd (h refl)
starts_by (x ∷ s) h = refl

module _ (s : List ℕ) where
  -- nothing is there
  pub ends_empty : length s ≡ 0 → Ok tt ≡ fit_of (extensions_on.dec s)
  unfolding extensions_on filled_by
  ends_empty h = optional_none extensions s 0xa1 extensions_start false (starts_empty s h) refl (Ok tt) (sym (rw h))

  module _ (n : length s ≡ 0 → ⊥) where
    -- something else is there
    pub ends_other : (get_or s 0 0 ≡ 0xa1 → ⊥) → Err (misfit 0) ≡ fit_of (extensions_on.dec s)
    unfolding extensions_on filled_by
    ends_other h =
        optional_none extensions s 0xa1 extensions_start (eqb (get_or s 0 0) 0xa1) (starts_by s n) (ne_eqb (get_or s 0 0) 0xa1 h) (Err (misfit 0))
        (sym (rw (ne_eqb 0 (length s) (λ e. n (sym e)))))

    -- extensions
    pub ends_there : get_or s 0 0 ≡ 0xa1 → (x : Step) → x ≡ step_of (extensions.dec s) → (r : Fit) → r ≡ filled_by (length s) x
        → r ≡ fit_of (extensions_on.dec s)
    unfolding extensions_on
    ends_there h x q r k = filled_optional extensions s x q r k 0xa1 extensions_start (eqb (get_or s 0 0) 0xa1) (starts_by s n) (eq-eqb (get_or s 0 0) 0xa1 h)

-- ── maybe nextUpdate ──
module _ (s : List ℕ) (z : Bool) (d : z ≡ starts_with 0xa0 s) where
  pub next_missing : z ≡ false → (r : Fit) → r ≡ fit_of (extensions_on.dec s) → r ≡ fit_of (next_on.dec s)
  unfolding next_on
  next_missing y r c = option_missing 0xa0 next_update extensions_on s z d r y c

  module _ (y : z ≡ true) (x : Step) (q : x ≡ step_of (next_update.dec s)) where
    pub next_wrong : (p : Misfit) → x ≡ Err p → Err p ≡ fit_of (next_on.dec s)
    unfolding next_on
    next_wrong p f = option_there 0xa0 next_update extensions_on s z d (Err p) y (field_wrong next_update s x q extensions_on.dec p f)

    pub next_end : (n : ℕ) → x ≡ Ok n → n ≤ length s
    next_end = field_end next_update s x q

    pub next_after : (n : ℕ) → x ≡ Ok n → after_by n (length s) (fit_of (extensions_on.dec (take (length s - n) (drop n s)))) ≡ fit_of (next_on.dec s)
    unfolding next_on
    next_after n f =
        let v = fit_of (extensions_on.dec (take (length s - n) (drop n s))) in
        option_there 0xa0 next_update extensions_on s z d (after_by n (length s) v) y
        (field_after next_update extensions_on s n v (after_by n (length s) v) refl x q f refl)
