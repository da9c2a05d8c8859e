-- Laws of matching for a card: that a CertID is for one card only, and that it is for a card exactly where its octets
-- are the card's.
-- match_unique; hash_twenty, card_read, cert_octets.
-- The definitions are in Match and CertForm; the same over any algorithms is in Matched, Known
-- and CertFormLaws.
-- Assumes nothing.
use Rattle.std.specs.Prelude.{ℕ, ◌≡◌, true, List, [], ◌∷◌, length}
use Rattle.std.proofs.Common.{arith}
use Rattle.octets.specs.Octets.{Octets}
use Rattle.octets.specs.OctetsLaws.{octets_take}
use Rattle.octets.specs.Number.{value_of}
use Rattle.content.specs.Serial.{serial_ok}
use Rattle.content.specs.SerialLaws.{serial_same}
use Rattle.codec.specs.Codec.{read}
use Rattle.layout.specs.Reading.{CertId}
use Rattle.layout.specs.Limits.{HashOk}
use Rattle.layout.proofs.EntryFormat.{cert_body}
use Rattle.layout.specs.Sha1.{sha1}
use Rattle.answer.specs.Card.{serial_in}
use Rattle.answer.specs.declared.Card.{Card}
use Rattle.rule_matching.specs.Match.{is_sha1, is_for}
use Rattle.rule_matching.proofs.Matched.{match_same}
use Rattle.rule_matching.specs.CertForm.{is_card}
use Rattle.rule_matching.proofs.CertFormLaws.{octets_read_lem, octets_match}
use Rattle.rule_matching.specs.Known.{plain_of, null_of}
use Rattle.rule_matching.proofs.Known.{sha1_heads_lem, knows_sha1}

-- a CertID is for one card only
pub match_unique : (a b : Card) (c : CertId) → Octets a.serial → Octets b.serial
    → serial_ok (serial_in a) ≡ true → serial_ok (serial_in b) ≡ true → is_for a c ≡ true → is_for b c ≡ true
    → (a.name ≡ b.name) × (a.key ≡ b.key) × (serial_in a ≡ serial_in b)
match_unique a b c o p k l x y =
    let (n, h, v) = match_same is_sha1 is_sha1 a.name a.key b.name b.key (value_of (serial_in a)) (value_of (serial_in b)) c x y in
    let s = serial_same (serial_in a) (serial_in b) (octets_take a.size a.serial o) (octets_take b.size b.serial p) k l v in
    (n, h, s)

-- ---- octets

-- a hash of twenty octets
pub hash_twenty : (h : List ℕ) → Octets h → length h ≡ 20 → HashOk h
hash_twenty h o e = record { octets = o; least = omega arith; most = omega arith }

-- the card's octets read as a CertID that is for the card
pub card_read : (card : Card) → HashOk card.name → HashOk card.key → Octets card.serial → serial_ok (serial_in card) ≡ true
    → (part : List ℕ) → is_card card part ≡ true → (c : CertId) × (cert_body.dec part ≡ read c) × (is_for card c ≡ true)
card_read card n k o q part e =
    octets_read_lem card.name card.key (serial_in card) n k (octets_take card.size card.serial o) q
    is_sha1 (plain_of sha1 ∷ null_of sha1 ∷ []) knows_sha1 part (rw sha1_heads_lem e)

-- a CertID is for the card exactly where its octets are the card's
pub cert_octets : (card : Card) → HashOk card.name → HashOk card.key → Octets card.serial → serial_ok (serial_in card) ≡ true
    → (part : List ℕ) (c : CertId) → Octets part → cert_body.dec part ≡ read c → is_card card part ≡ is_for card c
cert_octets card n k o q part c p e =
    rw (← sha1_heads_lem) (octets_match card.name card.key (serial_in card) n k (octets_take card.size card.serial o) q
    is_sha1 (plain_of sha1 ∷ null_of sha1 ∷ []) knows_sha1 part c p e)
