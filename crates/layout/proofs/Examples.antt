-- Whole responses, read and written by computing: error responses, one of another type, a small basic
-- one, and the same with its version written, 0 and another.
-- unauthorized, m10, other_type_lem, small_read, small_der, version_read, version_der, version_1.
-- A response with every optional part is in FullExample, one that a document prints in Sample; what does
-- not fit piece by piece is in Refusals.
-- The laws stand here, and what is made of them; the definitions in specs/Examples.
-- Assumes nothing.
use Rattle.std.specs.Prelude.{ℕ, ◌≡◌, refl, Bool, true, false, List, [], ◌∷◌, ◌++◌, replicate}
use Rattle.std.proofs.Math.Option.{none, some}
use Rattle.layout.specs.Reading.{good, by_key, Basic, failed, basic}
use Rattle.layout.specs.Read.{reads, other_type, unfit}
use Rattle.layout.proofs.Read.{der, reading}
use Rattle.layout.proofs.Opened.{opened}
use Rattle.layout.specs.Sha1.{sha1}
use Rattle.layout.specs.Examples.{first, hashes, next, signature, signer, type_element}

-- an error response reads as its status
unauthorized : reading (0x30 ∷ 0x03 ∷ 0x0a ∷ 0x01 ∷ 0x06 ∷ []) ≡ reads (failed 6)
unfolding opened
unauthorized = refl

-- M10: status 4 doesn't fit; the place is the ENUMERATED
m10 : reading (0x30 ∷ 0x03 ∷ 0x0a ∷ 0x01 ∷ 0x04 ∷ []) ≡ unfit 2
unfolding opened
m10 = refl

-- of another type, 1.3.6.1.5.5.7.48.1.2: the string, 30, is not looked at
other_type_lem : reading
    ((0x30 ∷ 0x15 ∷ 0x0a ∷ 0x01 ∷ 0x00 ∷ 0xa0 ∷ 0x10 ∷ 0x30 ∷ 0x0e ∷ [])
    ++ (0x06 ∷ 0x09 ∷ 0x2b ∷ 0x06 ∷ 0x01 ∷ 0x05 ∷ 0x05 ∷ 0x07 ∷ 0x30 ∷ 0x01 ∷ 0x02 ∷ []) ++ (0x04 ∷ 0x01 ∷ 0x30 ∷ []))
    ≡ other_type
unfolding opened
other_type_lem = refl

-- ── a small response: one entry, good ──
abbrev good_entry : List ℕ
good_entry =
    (0x30 ∷ 0x3a ∷ 0x30 ∷ 0x12 ∷ 0x30 ∷ 0x07 ∷ 0x06 ∷ 0x05 ∷ sha1) ++ hashes ++ (0x02 ∷ 0x01 ∷ 0x05 ∷ [])
    ++ (0x80 ∷ 0x00 ∷ []) ++ first ++ next

-- the fields of its signed part, the responder id first
abbrev fields : List ℕ
fields = (0xa2 ∷ 0x16 ∷ 0x04 ∷ 0x14 ∷ replicate 20 0x33) ++ first ++ (0x30 ∷ 0x3c ∷ good_entry)

abbrev small : List ℕ
small =
    (0x30 ∷ 0x81 ∷ 0x8d ∷ 0x0a ∷ 0x01 ∷ 0x00 ∷ 0xa0 ∷ 0x81 ∷ 0x87 ∷ 0x30 ∷ 0x81 ∷ 0x84 ∷ type_element)
    ++ (0x04 ∷ 0x77 ∷ 0x30 ∷ 0x75 ∷ 0x30 ∷ 0x67 ∷ fields) ++ signature

-- its reading, with the version written or not
abbrev small_reading : Bool → Basic
small_reading v = record {
  signed = record {
    versioned = v;
    responder = by_key (replicate 20 0x33);
    produced_at = 1114909200;
    entries =
        record {
          cert = record { algorithm = record { oid = sha1; parameters = none }; name_hash = 0x11 ∷ []; key_hash = 0x22 ∷ []; serial = 5 };
          status = good;
          this_update = 1114909200;
          next_update = some 1115082000;
          extensions = none;
        }
        ∷ [];
    extensions = none;
  };
  algorithm = signer;
  signature = 0xaa ∷ 0xbb ∷ [];
  certificates = none;
}

small_read : reading small ≡ reads (basic (small_reading false))
unfolding opened
small_read = refl

small_der : der (basic (small_reading false)) ≡ small
unfolding opened
small_der = refl

-- ── the same with a version written ──
abbrev versioned : ℕ → List ℕ
versioned n =
    (0x30 ∷ 0x81 ∷ 0x92 ∷ 0x0a ∷ 0x01 ∷ 0x00 ∷ 0xa0 ∷ 0x81 ∷ 0x8c ∷ 0x30 ∷ 0x81 ∷ 0x89 ∷ type_element)
    ++ (0x04 ∷ 0x7c ∷ 0x30 ∷ 0x7a ∷ 0x30 ∷ 0x6c ∷ 0xa0 ∷ 0x03 ∷ 0x02 ∷ 0x01 ∷ n ∷ fields) ++ signature

version_read : reading (versioned 0) ≡ reads (basic (small_reading true))
unfolding opened
version_read = refl

version_der : der (basic (small_reading true)) ≡ versioned 0
unfolding opened
version_der = refl

-- version 1 doesn't fit, and the place is its INTEGER
version_1 : reading (versioned 1) ≡ unfit 31
unfolding opened
version_1 = refl
