-- The octets of a CertID's content that is for a card (document 01, "Elements" and "Response layout"): DER has
-- one form, so they are one of two strings, SHA-1 without parameters or with 05 00, then the card's fields.
-- card_form; sha1_heads; is_card_octets, is_card; last_of, is_fields.
-- That these are the octets of the CertIDs that Match calls for the card is in MatchLaws.
-- Hashes have any length, and the algorithms are any list: only is_card has SHA-1 and twenty octets.
-- Assumes nothing.
use Rattle.std.specs.Prelude.{ℕ, ◌-◌, Bool, false, cond, ◌||◌, List, [], ◌∷◌, ◌++◌, leb, length, get_or}
use Rattle.octets.specs.Same.{same_of}
use Rattle.element.specs.Form.{form_of}
use Rattle.layout.specs.Sha1.{plain_head, null_head}
use Rattle.answer.specs.Card.{serial_in}
use Rattle.answer.specs.declared.Card.{Card}

-- an algorithm identifier, two OCTET STRINGs and an INTEGER
unfoldable pub card_form : List ℕ → List ℕ → List ℕ → List ℕ → List ℕ
card_form head name key serial = head ++ (form_of 0x04 name ++ (form_of 0x04 key ++ form_of 0x02 serial))

-- SHA-1, parameters absent or 05 00
abbrev pub sha1_heads : List (List ℕ)
sha1_heads = plain_head ∷ null_head ∷ []

-- one of these algorithm identifiers, then the name hash, the key hash and the serial
unfoldable pub is_card_octets : List (List ℕ) → List ℕ → List ℕ → List ℕ → List ℕ → Bool
is_card_octets [] name key serial part = false
is_card_octets (head ∷ heads) name key serial part =
    same_of part (card_form head name key serial) || is_card_octets heads name key serial part

-- the content of a CertID whose algorithm is SHA-1 and whose hashes and serial are the card's
abbrev pub is_card : Card → List ℕ → Bool
is_card card part = is_card_octets sha1_heads card.name card.key (serial_in card) part

-- the last octet, 0 where there is none
abbrev pub last_of : List ℕ → ℕ
last_of s = get_or s (length s - 1) 0

-- the same of fields that are lent: a name hash, a key hash and a serial, of at most 127 octets each
unfoldable pub is_fields : List ℕ → List ℕ → List ℕ → List ℕ → Bool
is_fields name key serial part =
    cond (leb (length name) 127)
    (cond (leb (length key) 127)
    (cond (leb (length serial) 127) (is_card_octets sha1_heads name key serial part) false)
    false)
    false
