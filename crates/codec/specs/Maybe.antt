-- Nothing, or one element that fills its holder. An empty list is none and any other is the element:
-- no tag is looked at. Octets that are left over after the element are refused at the first of them.
-- maybe; maybe_none, maybe_some. An element that may be missing before others is in Option.
-- The definitions stand here; the laws, and what is made of them, in proofs/Maybe.
-- Assumes nothing.
use Rattle.std.specs.Prelude.{ℕ}
use mathlib.Core.List.{List, [], ◌∷◌}
use Rattle.std.proofs.Math.Option.{Option, none, some}
use Rattle.codec.specs.Codec.{Read, read, Got}
use Rattle.codec.specs.Outcome.{renamed}
use Rattle.codec.specs.Sequence.{only_dec}

-- nothing, or the element and then the end
unfoldable pub maybe_dec : {A : Type 0} → (List ℕ → Got A) → List ℕ → Read (Option A)
maybe_dec d [] = read none
maybe_dec d (x ∷ s) = renamed some (only_dec d (x ∷ s))
