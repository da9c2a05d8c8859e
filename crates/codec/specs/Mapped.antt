-- The same values under other names: of a whole list, and of an element. Within the limits the two
-- ways between the names undo one another.
-- mapped_to, mapped_element_to (the limits are said in the new names); mapped_ok, mapped_element_ok (they
-- are those of the value that is named); mapped, mapped_element (the two ways undo one another
-- everywhere).
-- The definitions stand here; the laws, and what is made of them, in proofs/Mapped.
-- Assumes nothing.
use Rattle.std.specs.Prelude.{ℕ, List}
use Rattle.codec.specs.Codec.{Read, Got}
use Rattle.codec.specs.Outcome.{renamed, called}

unfoldable pub mapped_dec : {A B : Type 0} → (A → B) → (List ℕ → Read A) → List ℕ → Read B
mapped_dec f d s = renamed f (d s)

unfoldable pub called_dec : {A B : Type 0} → (A → B) → (List ℕ → Got A) → List ℕ → Got B
called_dec f d s = called f (d s)
