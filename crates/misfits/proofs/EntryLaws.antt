-- The codecs of an entry, piece by piece, give the first place of the described entry's faults.
-- algorithm_placed, cert_placed, status_placed, extensions_placed, single_placed; the primitive
-- elements. The response around the entries is in ResponseLaws.
-- Assumes nothing.
use Rattle.std.specs.Prelude.{ℕ, refl, Bool, List, [], ◌∷◌}
use Rattle.octets.specs.Same.{same_of}
use Rattle.content.specs.Oid.{oid_ok}
use Rattle.content.specs.Serial.{serial_ok}
use Rattle.codec.specs.Contents.{octets_read, fixed_read}
use Rattle.codec.specs.Sequence.{only_dec}
use Rattle.codec.specs.Option.{option_dec}
use Rattle.layout.specs.Words.{time_read, serial_read, single_read, between, anything, reason_ok}
use Rattle.layout.specs.Names.{extension_of}
use Rattle.layout.proofs.ElementKinds as kinds
use Rattle.layout.proofs.Format as format
use Rattle.faults.specs.Description.{nothing, perhaps}
use Rattle.faults.proofs.ContentLaws.{octets_finds, fixed_finds}
use Rattle.faults.specs.Placed.{PlacedHead, Placed}
use Rattle.faults.proofs.PlacedLaws.{leaf_placed, around_placed, either_placed, free_placed, called, named, end_placed, then_placed, perhaps_placed, only_placed, one_placed}
use Rattle.faults.proofs.DistinctLaws.{distinct_placed}
use Rattle.misfits.specs.Tests.{time_ok, single_ok}
use Rattle.misfits.proofs.TestLaws.{time_finds, serial_finds, single_finds}
use Rattle.misfits.specs.Described.{oid_item, time_item, serial_item, string_item, enumerated_item, algorithm_item, cert_id_item, revoked_line, status_item, after_oid_line, extensions_item, single_item}

pub oid_placed : PlacedHead (kinds.oid).dec oid_item
unfolding kinds.oid
oid_placed = leaf_placed 0x06 (octets_read oid_ok) oid_ok (octets_finds oid_ok)

pub time_placed : PlacedHead (kinds.time).dec time_item
unfolding kinds.time
time_placed = leaf_placed 0x18 time_read time_ok time_finds

pub string_placed : (test : List ℕ → Bool) → PlacedHead (kinds.string test).dec (string_item test)
string_placed test = leaf_placed 0x04 (octets_read test) test (octets_finds test)

pub enumerated_placed : (test : ℕ → Bool) → PlacedHead (kinds.enumerated test).dec (enumerated_item test)
enumerated_placed test = leaf_placed 0x0a (single_read test) (single_ok test) (single_finds test)

serial_placed : PlacedHead (kinds.serial).dec serial_item
unfolding kinds.serial
serial_placed = leaf_placed 0x02 serial_read serial_ok serial_finds

hash_placed : PlacedHead (kinds.hash).dec (string_item (between 1 64))
unfolding kinds.hash
hash_placed = string_placed (between 1 64)

pub algorithm_placed : PlacedHead (format.algorithm_identifier).dec algorithm_item
unfolding format.algorithm_identifier format.algorithm_body kinds.free algorithm_item
algorithm_placed = around_placed 0x30 (named _ (then_placed oid_placed (one_placed (free_placed 16))))

pub cert_placed : PlacedHead (format.cert_id).dec cert_id_item
unfolding format.cert_id format.cert_body cert_id_item
cert_placed =
    around_placed 0x30
    (named _ (then_placed algorithm_placed (then_placed hash_placed (then_placed hash_placed (only_placed serial_placed)))))

-- ── status ──
revoked_placed : Placed (format.revoked_body).dec revoked_line
unfolding format.revoked_body format.reason revoked_line
revoked_placed =
    then_placed time_placed (named _ (perhaps_placed (around_placed 0xa0 (only_placed (enumerated_placed reason_ok))) 0xa0 end_placed))

pub status_placed : PlacedHead (format.cert_status).dec status_item
unfolding format.cert_status format.good_status format.unknown_status format.revoked_status status_item
status_placed =
    called _ (either_placed 0x80 (leaf_placed 0x80 (fixed_read []) (same_of []) (fixed_finds []))
    (either_placed 0x82 (leaf_placed 0x82 (fixed_read []) (same_of []) (fixed_finds [])) (around_placed 0xa1 revoked_placed)))

-- ── extensions ──
after_placed : Placed (option_dec 0x01 (format.critical).dec (only_dec (kinds.string anything).dec)) after_oid_line
unfolding format.critical after_oid_line
after_placed =
    perhaps_placed (leaf_placed 0x01 (fixed_read (0xff ∷ [])) (same_of (0xff ∷ [])) (fixed_finds (0xff ∷ []))) 0x01
    (only_placed (string_placed anything))

pub extensions_placed : PlacedHead (format.extensions).dec extensions_item
unfolding format.extensions format.extension_list format.extension_after format.extension_body format.new_oid extensions_item
extensions_placed =
    around_placed 0xa1 (only_placed (around_placed 0x30
    (distinct_placed 0x30 0x06 oid_ok extension_of (option_dec 0x01 (format.critical).dec (only_dec (kinds.string anything).dec)) (λ e. e.oid)
    (λ x. refl) after_placed 1 16)))

-- ── an entry ──
pub perhaps_extensions : Placed (kinds.optional 0xa1 format.extensions format.extensions_start).dec (perhaps 0xa1 extensions_item nothing)
perhaps_extensions = named _ (perhaps_placed extensions_placed 0xa1 end_placed)

pub single_placed : PlacedHead (format.single_response).dec single_item
unfolding format.single_response format.single_body format.next_update single_item
single_placed =
    around_placed 0x30
    (named _ (then_placed cert_placed (then_placed status_placed (then_placed time_placed
    (perhaps_placed (around_placed 0xa0 (only_placed time_placed)) 0xa0 perhaps_extensions)))))
