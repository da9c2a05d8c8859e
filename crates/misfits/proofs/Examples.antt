-- Misfits of responses and of their parts, computed.
-- Assumes nothing.
use Rattle.std.specs.Prelude.{ℕ, ◌≡◌, refl, List, [], ◌∷◌, ◌++◌}
use Rattle.content.specs.Oid.{oid_from, oid_ok}
use Rattle.layout.specs.Words.{status_ok}
use Rattle.layout.specs.Read.{basic_type}
use Rattle.faults.specs.Faults.{item_faults}
use Rattle.faults.specs.Opened.{opened}
use Rattle.misfits.specs.Tests.{single_ok}
use Rattle.misfits.specs.Described.{envelope_line, bytes_item, basic_line, after_oid_line, extensions_item}
use Rattle.misfits.specs.Misfits.{inner_misfits, misfits}

-- the end of an empty response is its start
nothing_there : misfits [] ≡ 0 ∷ []
unfolding opened misfits envelope_line
nothing_there = refl

-- a successful response whose string is 30 alone: cut off, the end
abbrev cut : List ℕ
cut = (0x30 ∷ 0x15 ∷ 0x0a ∷ 0x01 ∷ 0x00 ∷ 0xa0 ∷ 0x10 ∷ 0x30 ∷ 0x0e ∷ []) ++ (0x06 ∷ 0x09 ∷ basic_type) ++ (0x04 ∷ 0x01 ∷ 0x30 ∷ [])

in_string : misfits cut ≡ 23 ∷ []
unfolding opened misfits inner_misfits envelope_line bytes_item basic_line single_ok status_ok oid_ok oid_from
in_string = refl

-- a string of another tag, 31 00: its place in the response
abbrev other : List ℕ
other = (0x30 ∷ 0x16 ∷ 0x0a ∷ 0x01 ∷ 0x00 ∷ 0xa0 ∷ 0x11 ∷ 0x30 ∷ 0x0f ∷ []) ++ (0x06 ∷ 0x09 ∷ basic_type) ++ (0x04 ∷ 0x02 ∷ 0x31 ∷ 0x00 ∷ [])

other_tag : misfits other ≡ 22 ∷ []
unfolding opened misfits inner_misfits envelope_line bytes_item basic_line single_ok status_ok oid_ok oid_from
other_tag = refl

-- the same, and an octet after the envelope: the envelope counts before the string
envelope_first : misfits (other ++ 0 ∷ []) ≡ 24 ∷ []
unfolding opened misfits inner_misfits envelope_line bytes_item basic_line single_ok status_ok oid_ok oid_from
envelope_first = refl

-- an OID twice, and a value of another tag after it
twice : item_faults extensions_item
    (0xa1 ∷ 0x10 ∷ 0x30 ∷ 0x0e ∷ 0x30 ∷ 0x05 ∷ 0x06 ∷ 0x01 ∷ 0x2a ∷ 0x04 ∷ 0x00 ∷ 0x30 ∷ 0x05 ∷ 0x06 ∷ 0x01 ∷ 0x2a ∷ 0x05 ∷ 0x00 ∷ [])
    ≡ 13 ∷ 16 ∷ []
unfolding opened extensions_item after_oid_line oid_ok oid_from
twice = refl
