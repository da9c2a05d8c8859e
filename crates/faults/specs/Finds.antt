-- That a reading finds the first fault, or that there is none: of one element, and of a whole list.
-- Finds, HeadFinds, WholeFinds. That the combinators of codec do is in ItemLaws and RowLaws.
-- Assumes nothing.
use Rattle.std.specs.Prelude.{ℕ, ◌+◌, ◌≡◌, List, [], ◌∷◌, Ok}
use Rattle.element.specs.Header.{header_of}
use Rattle.element.specs.declared.Header.{Header}
use Rattle.element.specs.Places.{HeaderRead}
use Rattle.codec.specs.Codec.{Read, Got, got, bad}
use Rattle.codec.specs.Views.{fit_of}
use Rattle.faults.specs.Order.{leftmost}

-- of an element: the first fault, or none, and that it takes what its header says
abbrev pub Finds : {A : Type 0} → Got A → HeaderRead → List ℕ → Type 0
Finds {A} g x [] = (a : A) × (h : Header) × (x ≡ Ok h) × (g ≡ got a (h.start + h.len))
Finds g x (p ∷ l) = g ≡ bad p

abbrev pub HeadFinds : {A : Type 0} → (List ℕ → Got A) → (List ℕ → List ℕ) → Type 0
HeadFinds d f = (s : List ℕ) → Finds (d s) (header_of s) (f s)

-- of a whole list: the first fault, or none
abbrev pub WholeFinds : {A : Type 0} → (List ℕ → Read A) → (List ℕ → List ℕ) → Type 0
WholeFinds d g = (s : List ℕ) → fit_of (d s) ≡ leftmost (g s)
