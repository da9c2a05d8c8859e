-- The octet that a form begins with. An element that may be missing, and one of two elements, are
-- recognised by it alone.
-- starts_with, Starts, Other, Apart. That the combinators begin so is in StartsLaws.
-- The definitions stand here; the laws, and what is made of them, in proofs/Starts.
-- Assumes nothing.
use Rattle.std.specs.Prelude.{ℕ, ◌≡◌, Bool, true, false, List, [], ◌∷◌, eqb}
use Rattle.codec.specs.Codec.{Whole, Element}

-- whether a list begins with this octet
unfoldable pub starts_with : ℕ → List ℕ → Bool
starts_with t [] = false
starts_with t (x ∷ s) = eqb x t

-- every form of an element begins with this octet
abbrev pub Starts : {A : Type 0} → ℕ → Element A → Type 0
Starts {A} t e = (a : A) → e.ok a → starts_with t (e.enc a) ≡ true

-- none does
abbrev pub Other : {A : Type 0} → ℕ → Element A → Type 0
Other {A} t e = (a : A) → e.ok a → starts_with t (e.enc a) ≡ false

-- no form of a whole list begins with this octet
abbrev pub Apart : {A : Type 0} → ℕ → Whole A → Type 0
Apart {A} t w = (a : A) → w.ok a → starts_with t (w.enc a) ≡ false
