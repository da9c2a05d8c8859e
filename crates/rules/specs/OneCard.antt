-- Which entry an answer is taken from, in plain words: the one for this card, and no other is.
-- ForCard, OnlyEntry, Differ. The tests are is_for of crate rule_matching, and entries_for in Order; that these say the same is
-- in OneCardLaws.
-- Assumes nothing.
use Rattle.std.specs.Prelude.{◌⊎◌, ◌≡◌}
use mathlib.Core.List.{List, [], ◌∷◌, ◌++◌, Memᴰ}
use Rattle.std.proofs.Math.Option.{none, some}
use Rattle.octets.specs.Number.{value_of}
use Rattle.codec.specs.Tree.{prim}
use Rattle.layout.specs.Reading.{CertId, Entry}
use Rattle.layout.specs.Sha1.{sha1}
use Rattle.answer.specs.Card.{serial_in}
use Rattle.answer.specs.declared.Card.{Card}

-- a CertID is for the card: its algorithm is SHA-1, parameters absent or 05 00, both hashes and the serial are equal
pub record ForCard (card : Card) (c : CertId) : Type 0 where
  pub algorithm : c.algorithm.oid ≡ sha1
  pub parameters : (c.algorithm.parameters ≡ none) ⊎ (c.algorithm.parameters ≡ some (prim 5 []))
  pub name_hash : c.name_hash ≡ card.name
  pub key_hash : c.key_hash ≡ card.key
  pub serial : c.serial ≡ value_of (serial_in card)

-- an entry of a list is for the card, and no entry before or after it is
pub record OnlyEntry (card : Card) (l : List Entry) (e : Entry) : Type 0 where
  pub before : List Entry
  pub after : List Entry
  pub place : l ≡ before ++ (e ∷ after)
  pub here : ForCard card e.cert
  pub earlier : (x : Entry) → Memᴰ x before → ForCard card x.cert → ⊥
  pub later : (x : Entry) → Memᴰ x after → ForCard card x.cert → ⊥

-- two cards differ in a hash or in the serial
abbrev pub Differ : Card → Card → Type 0
Differ a b = (a.name ≡ b.name → ⊥) ⊎ (a.key ≡ b.key → ⊥) ⊎ (serial_in a ≡ serial_in b → ⊥)
