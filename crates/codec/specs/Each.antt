-- Elements up to the end of a list, no key twice. Each is read by an element codec that knows the
-- keys before it, so that a repeat is refused where it stands, before anything to its right.
-- Fresh, NoneTwice, Keyed, each.
-- The definitions stand here; the laws, and what is made of them, in proofs/Each.
-- Assumes nothing.
use Prim.Native.Nat.{ℕ, zero, suc, ◌-◌}
use Rattle.std.specs.Prelude.{◌≡◌, drop}
use mathlib.Core.List.{List, [], ◌∷◌}
use Rattle.codec.specs.Codec.{Read, broke, Got, Element}
use Rattle.codec.specs.Outcome.{further, on_got}
use Rattle.codec.specs.Many.{enough, All}

-- none of those keys is this one
abbrev pub Fresh : {K : Type 0} → List K → K → Type 0
Fresh seen k = All (λ j. j ≡ k → ⊥) seen

-- no item has the key of an earlier one
abbrev pub NoneTwice : {A K : Type 0} → (A → K) → List A → Type 0
NoneTwice key [] = Unit {0}
NoneTwice key (a ∷ l) = All (λ b. key a ≡ key b → ⊥) l × NoneTwice key l

-- at least lo and at most k; seen are the keys of those before, the last first
unfoldable pub each_dec : {A K : Type 0} → (A → K) → (List K → List ℕ → Got A) → List K → ℕ → ℕ → List ℕ → Read (List A)
each_dec key d seen lo zero [] = enough lo
each_dec key d seen lo zero (x ∷ s) = broke 0
each_dec key d seen lo (suc k) [] = enough lo
each_dec key d seen lo (suc k) (x ∷ s) =
    on_got (d seen (x ∷ s)) (λ a n. further n (λ l. a ∷ l) (each_dec key d (key a ∷ seen) (lo - 1) k (drop n (x ∷ s))))

-- the keys before change nothing but that they are refused
pub record Keyed {A K : Type 0} (key : A → K) (enc : List K → A → List ℕ) (ok : List K → A → Type 0) : Type 0 where
  pub form : (seen : List K) (a : A) → enc seen a ≡ enc [] a
  pub fresh : (seen : List K) (a : A) → ok seen a → ok [] a × Fresh seen (key a)
  pub allowed : (seen : List K) (a : A) → ok [] a → Fresh seen (key a) → ok seen a

abbrev pub KeyedElement : {A K : Type 0} → (A → K) → (List K → Element A) → Type 0
KeyedElement key e = Keyed key (λ seen. (e seen).enc) (λ seen. (e seen).ok)
