-- The request for a card (document 01, "Request and slip"; source document 000, 2.1 and A.1).
-- request_form; request_of, request_refusal; Typed. Its laws are in RequestLaws, and the same as a codec of the layout
-- is in RequestFormat.
-- Hashes have any length, and the algorithm identifier is any octets: only request_of has SHA-1 and a card.
-- Assumes nothing.
use Rattle.std.specs.Prelude.{ℕ, ◌≡◌, cond, List, length}
use Rattle.octets.specs.Octets.{Octets}
use Rattle.element.specs.Form.{form_of}
use Rattle.layout.specs.Sha1.{null_head}
use Rattle.answer.specs.Card.{serial_in, card_ok}
use Rattle.answer.specs.declared.Card.{Card}
use Rattle.rule_matching.specs.CertForm.{card_form}

-- four sequences, each holding only the next, the fourth holding one CertID: an algorithm identifier, both hashes, the serial
unfoldable pub request_form : List ℕ → List ℕ → List ℕ → List ℕ → List ℕ
request_form head name key serial =
    form_of 0x30 (form_of 0x30 (form_of 0x30 (form_of 0x30 (form_of 0x30 (card_form head name key serial)))))

-- SHA-1 with 05 00, the card's hashes and its serial
abbrev pub request_of : Card → List ℕ
request_of card = request_form null_head card.name card.key (serial_in card)

-- 1 where the card's serial breaks the rule, else 0: no refusal
abbrev pub request_refusal : Card → ℕ
request_refusal card = cond (card_ok card) 0 1

-- what is known of a card by its type
pub record Typed (card : Card) : Type 0 where
  pub name : Octets card.name
  pub name_size : length card.name ≡ 20
  pub key : Octets card.key
  pub key_size : length card.key ≡ 20
  pub serial : Octets card.serial
  pub serial_size : length card.serial ≡ 20
