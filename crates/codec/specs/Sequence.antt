-- One after another: nothing more, an element and then a whole list, an element that fills its
-- holder. Octets that are left over are refused at the first of them.
-- end, field, only.
-- The definitions stand here; the laws, and what is made of them, in proofs/Sequence.
-- Assumes nothing.
use Rattle.std.specs.Prelude.{ℕ, drop}
use mathlib.Core.List.{List, [], ◌∷◌}
use Rattle.codec.specs.Codec.{Read, read, broke, Got}
use Rattle.codec.specs.Outcome.{further, on_got}
use Rattle.codec.specs.Mapped.{mapped_dec}

-- nothing more
unfoldable pub end_dec : List ℕ → Read (Unit {0})
end_dec [] = read tt
end_dec (x ∷ s) = broke 0

-- an element, then a whole list
unfoldable pub field_dec : {A B : Type 0} → (List ℕ → Got A) → (List ℕ → Read B) → List ℕ → Read (A × B)
field_dec d d' s = on_got (d s) (λ a n. further n (λ b. (a, b)) (d' (drop n s)))

-- an element that fills its holder
unfoldable pub only_dec : {A : Type 0} → (List ℕ → Got A) → List ℕ → Read A
only_dec d = mapped_dec (λ x. x.0) (field_dec d end_dec)
