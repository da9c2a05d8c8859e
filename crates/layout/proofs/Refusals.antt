-- What does not fit, with its place, by computing: one piece for each limit or rule of document 01.
-- Assumes nothing.
use Rattle.std.specs.Prelude.{ℕ, zero, suc, ◌*◌, ◌≡◌, refl, List, [], ◌∷◌, ◌++◌, replicate}
use Rattle.codec.specs.Codec.{broke, got, bad}
use Rattle.codec.specs.Tree.{Tree, node, stop, more}
use Rattle.layout.proofs.ElementKinds.{free, serial, hash}
use Rattle.layout.proofs.Format.{cert_status, extension_after, extensions, responder_id, version, signed_body, signature_bits}
use Rattle.layout.specs.Read.{unfit}
use Rattle.layout.proofs.Read.{reading}
use Rattle.layout.proofs.Opened.{opened}
use Rattle.layout.specs.Examples.{first}

-- ── the envelope ──
-- nothing at all
nothing : reading [] ≡ unfit 0
unfolding opened
nothing = refl

-- status 0 is followed by the response's bytes, another by nothing, and the envelope by nothing
no_bytes : reading (0x30 ∷ 0x03 ∷ 0x0a ∷ 0x01 ∷ 0x00 ∷ []) ≡ unfit 5
unfolding opened
no_bytes = refl

error_bytes : reading (0x30 ∷ 0x05 ∷ 0x0a ∷ 0x01 ∷ 0x06 ∷ 0xa0 ∷ 0x00 ∷ []) ≡ unfit 5
unfolding opened
error_bytes = refl

after_envelope : reading (0x30 ∷ 0x03 ∷ 0x0a ∷ 0x01 ∷ 0x06 ∷ 0x00 ∷ []) ≡ unfit 5
unfolding opened
after_envelope = refl

-- the type, 80, breaks the OID rule: it is no other type
type_rule : reading
    ((0x30 ∷ 0x0c ∷ 0x0a ∷ 0x01 ∷ 0x00 ∷ 0xa0 ∷ 0x07 ∷ 0x30 ∷ 0x05 ∷ []) ++ (0x06 ∷ 0x01 ∷ 0x80 ∷ 0x04 ∷ 0x00 ∷ []))
    ≡ unfit 9
unfolding opened
type_rule = refl

-- ── the version ──
-- 0 in two octets: its INTEGER's place
version_long : version.dec (0xa0 ∷ 0x04 ∷ 0x02 ∷ 0x02 ∷ 0x00 ∷ 0x00 ∷ []) ≡ bad 2
unfolding opened
version_long = refl

-- more in the A0 than the INTEGER: the first octet left over; nothing there: the end of the A0
version_more : version.dec (0xa0 ∷ 0x05 ∷ 0x02 ∷ 0x01 ∷ 0x00 ∷ 0x05 ∷ 0x00 ∷ []) ≡ bad 5
unfolding opened
version_more = refl

version_none : version.dec (0xa0 ∷ 0x00 ∷ []) ≡ bad 2
unfolding opened
version_none = refl

-- a version twice: the second stands where the responder id should
version_twice : signed_body.dec (0xa0 ∷ 0x03 ∷ 0x02 ∷ 0x01 ∷ 0x00 ∷ 0xa0 ∷ 0x03 ∷ 0x02 ∷ 0x01 ∷ 0x00 ∷ []) ≡ broke 5
unfolding opened
version_twice = refl

-- under A1, where a Name should be
version_a1 : signed_body.dec (0xa1 ∷ 0x03 ∷ 0x02 ∷ 0x01 ∷ 0x00 ∷ []) ≡ broke 2
unfolding opened
version_a1 = refl

-- ── extensions ──
-- a written FALSE
written_false : (extension_after []).dec (0x30 ∷ 0x08 ∷ 0x06 ∷ 0x01 ∷ 0x2a ∷ 0x01 ∷ 0x01 ∷ 0x00 ∷ 0x04 ∷ 0x00 ∷ []) ≡ bad 5
unfolding opened
written_false = refl

-- an OID twice: the second OID's place, also where something to its right is broken too
twice : extensions.dec
    (0xa1 ∷ 0x10 ∷ 0x30 ∷ 0x0e ∷ 0x30 ∷ 0x05 ∷ 0x06 ∷ 0x01 ∷ 0x2a ∷ 0x04 ∷ 0x00 ∷ 0x30 ∷ 0x05 ∷ 0x06 ∷ 0x01 ∷ 0x2a ∷ 0x05 ∷ 0x00 ∷ [])
    ≡ bad 13
unfolding opened
twice = refl

-- none: the end of what holds them
none_there : extensions.dec (0xa1 ∷ 0x02 ∷ 0x30 ∷ 0x00 ∷ []) ≡ bad 4
unfolding opened
none_there = refl

-- ── numbers and strings ──
-- reason 7
reason_7 : cert_status.dec ((0xa1 ∷ 0x16 ∷ first) ++ (0xa0 ∷ 0x03 ∷ 0x0a ∷ 0x01 ∷ 0x07 ∷ [])) ≡ bad 21
unfolding opened
reason_7 = refl

-- M9: a serial 00 7F
serial_long : serial.dec (0x02 ∷ 0x02 ∷ 0x00 ∷ 0x7f ∷ []) ≡ bad 0
unfolding opened
serial_long = refl

-- a hash of none and of 65
hash_none : hash.dec (0x04 ∷ 0x00 ∷ []) ≡ bad 0
unfolding opened
hash_none = refl

hash_65 : hash.dec (0x04 ∷ 0x41 ∷ replicate 65 0x11) ≡ bad 0
unfolding opened
hash_65 = refl

-- a key's hash of 19
key_19 : responder_id.dec (0xa2 ∷ 0x15 ∷ 0x04 ∷ 0x13 ∷ replicate 19 0x33) ≡ bad 2
unfolding opened
key_19 = refl

-- a signature of none, and one whose last octet is not whole
signature_none : signature_bits.dec (0x03 ∷ 0x01 ∷ 0x00 ∷ []) ≡ bad 0
unfolding opened
signature_none = refl

signature_part : signature_bits.dec (0x03 ∷ 0x02 ∷ 0x01 ∷ 0xaa ∷ []) ≡ bad 0
unfolding opened
signature_part = refl

-- ── depth ──
-- d sequences, one inside the other, the innermost empty
abbrev nested : ℕ → List ℕ
nested zero = []
nested (suc d) = 0x30 ∷ (d * 2) ∷ nested d

abbrev nest : ℕ → Tree
nest zero = node 0x30 stop
nest (suc d) = node 0x30 (more (nest d) stop)

-- 16 fit; of 17 the innermost is wrong
deep_16 : free.dec (nested 16) ≡ got (nest 15) 32
unfolding opened
deep_16 = refl

deep_17 : free.dec (nested 17) ≡ bad 32
unfolding opened
deep_17 = refl
