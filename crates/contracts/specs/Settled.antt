-- What it is for a contract to settle what a call leaves. A contract is two claims: `Asked`, what a call has to meet, of
-- the lifetimes and the arguments; `Learnt`, what is known after it, of those, the result and the parameters at exit.
-- Both are the contract's own clauses, as each crate passes them on for its functions.
-- Settles, settles; Settled, settled. The functions, crate by crate, are in SettledOctets, SettledWords,
-- SettledResponse, SettledRuling, SettledDesk, SettledWalk, SettledCache and SettledC.
-- Assumes nothing.
use Rattle.std.specs.Prelude.{◌≡◌}
use Rattle.std.proofs.Common.{sym, ◌∙◌}

module _ {K : Type 0} {A Z E : K → Type 0} (Asked : (k : K) → A k → Type 0) (Learnt : (k : K) → A k → Z k → E k → Type 0) where
  -- every call meets what is asked; and after any two calls with the same arguments, what is seen of the result and of
  -- the parameters at exit is equal
  abbrev pub Settles : {S : K → Type 0} → ((k : K) → Z k → E k → S k) → Type 0
  Settles see =
      ((k : K) (a : A k) → Asked k a)
      × ((k : K) (a : A k) (z z' : Z k) (e e' : E k) → Learnt k a z e → Learnt k a z' e' → see k z e ≡ see k z' e')

  -- it is so where the contract says that what is seen equals something of the arguments
  pub settles : {S : K → Type 0} (see : (k : K) → Z k → E k → S k) (f : (k : K) → A k → S k)
      → ((k : K) (a : A k) → Asked k a)
      → ((k : K) (a : A k) (z : Z k) (e : E k) → Learnt k a z e → see k z e ≡ f k a)
      → Settles see
  settles see f asked h = (asked, λ k a z z' e e' p q. h k a z e p ∙ sym (h k a z' e' q))

  -- the same of the whole result
  abbrev pub Settled : Type 0
  Settled = Settles (λ k z e. z)

  pub settled : (f : (k : K) → A k → Z k)
      → ((k : K) (a : A k) → Asked k a)
      → ((k : K) (a : A k) (z : Z k) (e : E k) → Learnt k a z e → z ≡ f k a)
      → Settled
  settled f asked h = settles (λ k z e. z) f asked h
