-- Elements up to the end of a list: at least so many and at most so many, or any number. An element
-- beyond the most is refused at its first octet, whatever it is; too few are refused at the end.
-- many; all_dec, the reading of any number, whose codec is in Any.
-- The definitions stand here; the laws, and what is made of them, in proofs/Many.
-- Assumes nothing.
use Prim.Native.Nat.{ℕ, zero, suc, ◌-◌}
use Rattle.std.specs.Prelude.{cond, eqb, length, drop}
use mathlib.Core.List.{List, [], ◌∷◌, ◌++◌}
use Rattle.codec.specs.Codec.{Read, read, broke, Got}
use Rattle.codec.specs.Outcome.{further, on_got}

-- the end, where lo more are wanted
abbrev pub enough : {A : Type 0} → ℕ → Read (List A)
enough lo = cond (eqb lo 0) (read []) (broke 0)

-- at least lo elements and at most k
unfoldable pub many_dec : {A : Type 0} → (List ℕ → Got A) → ℕ → ℕ → List ℕ → Read (List A)
many_dec d lo zero [] = enough lo
many_dec d lo zero (x ∷ s) = broke 0
many_dec d lo (suc k) [] = enough lo
many_dec d lo (suc k) (x ∷ s) = on_got (d (x ∷ s)) (λ a n. further n (λ l. a ∷ l) (many_dec d (lo - 1) k (drop n (x ∷ s))))

-- any number: an element takes an octet at least, so there are no more elements than octets
unfoldable pub all_dec : {A : Type 0} → (List ℕ → Got A) → List ℕ → Read (List A)
all_dec d s = many_dec d 0 (length s) s

-- their forms, one after another
abbrev pub forms : {A : Type 0} → (A → List ℕ) → List A → List ℕ
forms f [] = []
forms f (a ∷ l) = f a ++ forms f l

-- each one is so
abbrev pub All : {A : Type 0} → (A → Type 0) → List A → Type 0
All f [] = Unit {0}
All f (a ∷ l) = f a × All f l
