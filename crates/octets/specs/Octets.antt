-- A list of octets: every element is below 256.
-- Octets. Its laws are in OctetsLaws.
-- Assumes nothing.
use Rattle.std.specs.Prelude.{ℕ, ◌<◌, List, [], ◌∷◌}

-- each is below 256
abbrev pub Octets : List ℕ → Type 0
Octets [] = Unit {0}
Octets (x ∷ s) = (x < 256) × Octets s
