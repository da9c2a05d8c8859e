-- Laws of the request for a card: how many octets it has; that the layout's codecs read from it the CertID that is
-- asked about, which is for the card; and that two cards have two requests.
-- request_length, request_range; request_codec, request_read, request_for, request_injective.
-- The definitions are in Request and RequestFormat; the same of any hashes and any algorithm is in FormLaws.
-- Assumes nothing.
use Rattle.std.specs.Prelude.{◌+◌, ◌≤◌, ◌≡◌, refl, true, length}
use Rattle.std.proofs.Common.{arith, ◌∙◌, inl, inr, length-take-le}
use Rattle.octets.specs.Octets.{Octets}
use Rattle.octets.specs.OctetsLaws.{octets_take}
use Rattle.octets.specs.Number.{value_of}
use Rattle.octets.specs.Same.{same_of}
use Rattle.element.specs.Length.{length_form}
use Rattle.element.specs.Form.{form_of}
use Rattle.content.specs.Serial.{serial_ok}
use Rattle.content.specs.SerialLaws.{serial_some}
use Rattle.codec.specs.Codec.{read}
use Rattle.codec.specs.Tree.{tree_enc}
use Rattle.layout.specs.Reading.{CertId}
use Rattle.layout.specs.Limits.{AlgorithmOk}
use Rattle.layout.proofs.ElementKinds as kinds
use Rattle.layout.proofs.EntryFormat.{algorithm_body, algorithm_identifier}
use Rattle.layout.specs.Sha1.{sha1, null_head}
use Rattle.answer.specs.Card.{serial_in, card_ok}
use Rattle.answer.specs.CardLaws.{field_exactly, field_same}
use Rattle.answer.specs.declared.Card.{Card}
use Rattle.rule_matching.specs.Match.{is_sha1, is_for}
use Rattle.rule_matching.proofs.Matched.{match_exactly}
use Rattle.rule_matching.proofs.MatchLaws.{hash_twenty, match_unique}
use Rattle.rule_matching.specs.Known.{null_of}
use Rattle.rule_matching.proofs.Known.{knows_sha1}
use Rattle.request.specs.Request.{request_of, Typed}
use Rattle.request.specs.RequestFormat.{ocsp_request, cert_of}
use Rattle.request.proofs.FormLaws.{form_length, with_form, with_read}

-- SHA-1 with 05 00 is the algorithm identifier of a request
null_head_lem : null_head ≡ algorithm_identifier.enc (null_of sha1)
unfolding algorithm_identifier algorithm_body kinds.oid kinds.free tree_enc form_of length_form
null_head_lem = refl

-- which is within the limits, and of few octets
known : AlgorithmOk (null_of sha1) × (length (algorithm_identifier.enc (null_of sha1)) ≤ 1024)
known = knows_sha1.fits (null_of sha1) (inr (inl refl))

-- 67 plus the serial's length octets
pub request_length : (card : Card) → length card.name ≡ 20 → length card.key ≡ 20 → length card.serial ≡ 20
    → card_ok card ≡ true → length (request_of card) ≡ 67 + card.size
request_length card n k s fits =
    let l = ((field_exactly card.size card.serial).0 fits).0 in
    let i = length-take-le card.size card.serial (omega arith) in
    form_length null_head card.name card.key (serial_in card) (omega arith) ∙ omega arith

-- so 68 to 87
pub request_range : (card : Card) → length card.name ≡ 20 → length card.key ≡ 20 → length card.serial ≡ 20
    → card_ok card ≡ true → (68 ≤ length (request_of card)) × (length (request_of card) ≤ 87)
request_range card n k s fits =
    let (l, r, z) = (field_exactly card.size card.serial).0 fits in
    let i = length-take-le card.size card.serial (omega arith) in
    omega (arith, request_length card n k s fits, serial_some (serial_in card) r)

module _ (card : Card) (t : Typed card) (fits : card_ok card ≡ true) where
  serial_fits_lem : serial_ok (serial_in card) ≡ true
  serial_fits_lem = ((field_exactly card.size card.serial).0 fits).1

  serial_octets : Octets (serial_in card)
  serial_octets = octets_take card.size card.serial t.serial

  -- the request is the form of its CertID in the layout
  pub request_codec : request_of card ≡ ocsp_request.enc (cert_of card)
  request_codec =
      rw null_head_lem (with_form (null_of sha1) card.name card.key (serial_in card) known.0
      (hash_twenty card.name t.name t.name_size) (hash_twenty card.key t.key t.key_size) serial_octets serial_fits_lem)

  -- the layout reads from it the CertID that is asked about
  pub request_read : ocsp_request.dec (request_of card) ≡ read (cert_of card)
  request_read =
      rw null_head_lem (with_read (null_of sha1) card.name card.key (serial_in card) known.0
      (hash_twenty card.name t.name t.name_size) (hash_twenty card.key t.key t.key_size) serial_octets serial_fits_lem known.1)

-- that CertID is for the card
cert_for : (card : Card) → is_for card (cert_of card) ≡ true
unfolding same_of
cert_for card =
    (match_exactly is_sha1 card.name card.key (value_of (serial_in card)) (cert_of card)).1
    record { algorithm = refl; name_hash = refl; key_hash = refl; serial = refl }

-- so an entry with the CertID that is read from the request is for the card
pub request_for : (card : Card) → Typed card → card_ok card ≡ true → (c : CertId) → ocsp_request.dec (request_of card) ≡ read c → is_for card c ≡ true
request_for card t fits c e =
    let i : cert_of card ≡ c = cc (request_read card t fits, e) in
    rw (← i) (cert_for card)

-- two cards that fit with one request are one card
pub request_injective : (a b : Card) → Typed a → Typed b → card_ok a ≡ true → card_ok b ≡ true → request_of a ≡ request_of b → a ≡ b
request_injective a b t u p q e =
    let c : cert_of a ≡ cert_of b = cc (request_read a t p, request_read b u q, e) in
    let m = match_unique a b (cert_of a) t.serial u.serial (serial_fits_lem a t p) (serial_fits_lem b u q) (cert_for a) (rw c (cert_for b)) in
    let f = field_same a.size b.size a.serial b.serial t.serial_size u.serial_size p q m.2 in
    λ i. record { name = m.0 i; key = m.1 i; serial = f.1 i; size = f.0 i }
