-- Lists of extensions read by computing: the same OID twice, and none.
-- plain; twice, twice_broken, none_there.
-- Assumes nothing.
use Rattle.std.specs.Prelude.{ℕ, ◌≡◌, refl, List, [], ◌∷◌, ◌++◌}
use Rattle.codec.specs.Codec.{bad}
use Rattle.layout.proofs.Format.{extensions}
use Rattle.layout.proofs.Opened.{opened}

-- 1.2 with no octets as its value
abbrev pub plain : List ℕ
plain = 0x30 ∷ 0x05 ∷ 0x06 ∷ 0x01 ∷ 0x2a ∷ 0x04 ∷ 0x00 ∷ []

-- an OID comes twice: the place is the tag of the second one
twice : extensions.dec ((0xa1 ∷ 0x10 ∷ 0x30 ∷ 0x0e ∷ []) ++ plain ++ plain) ≡ bad 13
unfolding opened
twice = refl

-- the same where what follows it is broken too
twice_broken : extensions.dec ((0xa1 ∷ 0x10 ∷ 0x30 ∷ 0x0e ∷ []) ++ plain ++ (0x30 ∷ 0x05 ∷ 0x06 ∷ 0x01 ∷ 0x2a ∷ 0x05 ∷ 0x00 ∷ [])) ≡ bad 13
unfolding opened
twice_broken = refl

-- an empty list: the place is the end of what holds it
none_there : extensions.dec (0xa1 ∷ 0x02 ∷ 0x30 ∷ 0x00 ∷ []) ≡ bad 4
unfolding opened
none_there = refl
