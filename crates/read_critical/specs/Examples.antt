-- Extensions looked through by computing: one that is critical, after one that is not, understood or
-- not.
-- strict; second_strange, second_known, plain_unknown.
-- Assumes nothing.
use Rattle.std.specs.Prelude.{ℕ, ◌≡◌, refl, List, [], ◌∷◌, ◌++◌, Some, None}
use Rattle.layout.proofs.Opened.{opened}
use Rattle.read_extensions.specs.Examples.{plain}
use Rattle.read_critical.specs.Strange.{is_strange, strange_moved, strange_at, strange_read, strange_of}

-- 1.3, critical
abbrev strict : List ℕ
strict = 0x30 ∷ 0x08 ∷ 0x06 ∷ 0x01 ∷ 0x2b ∷ 0x01 ∷ 0x01 ∷ 0xff ∷ 0x04 ∷ 0x00 ∷ []

-- the critical one is not understood: it starts after two headers and the other
second_strange : strange_of ((0x2a ∷ []) ∷ (0x2a ∷ []) ∷ []) ((0xa1 ∷ 0x13 ∷ 0x30 ∷ 0x11 ∷ []) ++ plain ++ strict) ≡ Some 11
unfolding opened is_strange strange_moved strange_at strange_read strange_of
second_strange = refl

-- it is understood, as the second OID
second_known : strange_of ((0x2a ∷ []) ∷ (0x2b ∷ []) ∷ []) ((0xa1 ∷ 0x13 ∷ 0x30 ∷ 0x11 ∷ []) ++ plain ++ strict) ≡ None
unfolding opened is_strange strange_moved strange_at strange_read strange_of
second_known = refl

-- an extension that is not critical need not be understood
plain_unknown : strange_of [] ((0xa1 ∷ 0x09 ∷ 0x30 ∷ 0x07 ∷ []) ++ plain) ≡ None
unfolding opened is_strange strange_moved strange_at strange_read strange_of
plain_unknown = refl
