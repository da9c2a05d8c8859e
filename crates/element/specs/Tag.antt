-- The first octet of an element, its tag (X.690, 8.1.2).
-- tag_of, tag_ok.
-- Assumes nothing.
use Rattle.std.specs.Prelude.{ℕ, ◌/◌, ◌%◌, Bool, true, false, cond, eqb}
use Rattle.element.specs.declared.Tag.{Tag}

-- the two top bits are the class, the next says constructed, the low five the number
abbrev pub tag_of : ℕ → Tag
tag_of t = record { class = t / 64; constructed = eqb (t / 32 % 2) 1; number = t % 32 }

-- number 31 is refused, and universal number 0
unfoldable pub tag_ok : ℕ → Bool
tag_ok t = cond (eqb (t % 32) 31) false (cond (eqb (t % 32) 0) (cond (eqb (t / 64) 0) false true) true)
