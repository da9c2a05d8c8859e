-- A basic response with every optional part, read and written by computing: two entries, revoked and
-- unknown. It has each tag of the layout but those of a good status and of a key's hash, which the small
-- response of Examples has.
-- full_read, full_der.
-- Assumes nothing.
use Rattle.std.specs.Prelude.{ℕ, ◌≡◌, refl, true, false, List, [], ◌∷◌, ◌++◌}
use Rattle.std.proofs.Math.Option.{none, some}
use Rattle.codec.specs.Tree.{prim, node, stop, more}
use Rattle.layout.specs.Reading.{revoked, unknown, Entry, by_name, Basic, basic}
use Rattle.layout.specs.Read.{reads}
use Rattle.layout.proofs.Read.{der, reading}
use Rattle.layout.proofs.Opened.{opened}
use Rattle.layout.specs.Examples.{type_element, first, next, hashes, signature, signer}
use Rattle.layout.specs.Sha1.{sha1}

abbrev revoked_entry : List ℕ
revoked_entry =
    (0x30 ∷ 0x62 ∷ 0x30 ∷ 0x15 ∷ 0x30 ∷ 0x09 ∷ 0x06 ∷ 0x05 ∷ sha1) ++ (0x05 ∷ 0x00 ∷ hashes) ++ (0x02 ∷ 0x02 ∷ 0x00 ∷ 0x80 ∷ [])
    ++ (0xa1 ∷ 0x16 ∷ first) ++ (0xa0 ∷ 0x03 ∷ 0x0a ∷ 0x01 ∷ 0x01 ∷ first) ++ next
    ++ (0xa1 ∷ 0x0d ∷ 0x30 ∷ 0x0b ∷ 0x30 ∷ 0x09 ∷ 0x06 ∷ 0x01 ∷ 0x2a ∷ 0x01 ∷ 0x01 ∷ 0xff ∷ 0x04 ∷ 0x01 ∷ 0x07 ∷ [])

abbrev unknown_entry : List ℕ
unknown_entry = (0x30 ∷ 0x27 ∷ 0x30 ∷ 0x12 ∷ 0x30 ∷ 0x07 ∷ 0x06 ∷ 0x05 ∷ sha1) ++ hashes ++ (0x02 ∷ 0x01 ∷ 0x05 ∷ 0x82 ∷ 0x00 ∷ first)

abbrev full : List ℕ
full =
    (0x30 ∷ 0x81 ∷ 0xe8 ∷ 0x0a ∷ 0x01 ∷ 0x00 ∷ 0xa0 ∷ 0x81 ∷ 0xe2 ∷ 0x30 ∷ 0x81 ∷ 0xdf ∷ type_element)
    ++ (0x04 ∷ 0x81 ∷ 0xd1 ∷ 0x30 ∷ 0x81 ∷ 0xce ∷ 0x30 ∷ 0x81 ∷ 0xb9 ∷ 0xa1 ∷ 0x04 ∷ 0x30 ∷ 0x02 ∷ 0x31 ∷ 0x00 ∷ first)
    ++ (0x30 ∷ 0x81 ∷ 0x8d ∷ revoked_entry) ++ unknown_entry
    ++ (0xa1 ∷ 0x10 ∷ 0x30 ∷ 0x0e ∷ 0x30 ∷ 0x05 ∷ 0x06 ∷ 0x01 ∷ 0x2a ∷ 0x04 ∷ 0x00 ∷ 0x30 ∷ 0x05 ∷ 0x06 ∷ 0x01 ∷ 0x2b ∷ 0x04 ∷ 0x00 ∷ [])
    ++ signature ++ (0xa0 ∷ 0x04 ∷ 0x30 ∷ 0x02 ∷ 0x30 ∷ 0x00 ∷ [])

abbrev full_entries : List Entry
full_entries =
    record {
      cert = record { algorithm = record { oid = sha1; parameters = some (prim 0x05 []) }; name_hash = 0x11 ∷ []; key_hash = 0x22 ∷ []; serial = 128 };
      status = revoked 1114909200 (some 1);
      this_update = 1114909200;
      next_update = some 1115082000;
      extensions = some (record { oid = 0x2a ∷ []; critical = true; value = 0x07 ∷ [] } ∷ []);
    }
    ∷ record {
      cert = record { algorithm = record { oid = sha1; parameters = none }; name_hash = 0x11 ∷ []; key_hash = 0x22 ∷ []; serial = 5 };
      status = unknown;
      this_update = 1114909200;
      next_update = none;
      extensions = none;
    }
    ∷ []

abbrev full_reading : Basic
full_reading = record {
  signed = record {
    versioned = false;
    responder = by_name (node 0x30 (more (node 0x31 stop) stop));
    produced_at = 1114909200;
    entries = full_entries;
    extensions = some (record { oid = 0x2a ∷ []; critical = false; value = [] } ∷ record { oid = 0x2b ∷ []; critical = false; value = [] } ∷ []);
  };
  algorithm = signer;
  signature = 0xaa ∷ 0xbb ∷ [];
  certificates = some (node 0x30 stop ∷ []);
}

full_read : reading full ≡ reads (basic full_reading)
unfolding opened
full_read = refl

full_der : der (basic full_reading) ≡ full
unfolding opened
full_der = refl
