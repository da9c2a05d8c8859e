-- The room's cache, for the depositor (document 02, C-11): what the desk is told about a card is about this card and no
-- other, whatever was filed before, and nobody is ever let in or turned away by another's answer.
-- own_card, own_in_full; never_anothers, never_one_answer, two_cards, changed_octet; one_place.
-- `ask_of clock card s` is what asking the buffer s for a card gives (cache_rules: Cache), `NoRefusal` that an answer
-- is good, revoked or unknown (rules: Accepted), `Differ` that two cards differ in a hash or in the serial (rules:
-- OneCard). `Octets` and `Whole` hold of every buffer and card in code. Assumes nothing.
use Rattle.std.specs.Prelude.{ℕ, ◌≡◌, true, List, get_or}
use Rattle.std.proofs.Common.{⊎_elim, sym, ap, ◌∙◌}
use Rattle.octets.specs.Octets.{Octets}
use Rattle.answer.specs.declared.Card.{Card}
use Rattle.answer.specs.declared.Answer.{Answer}
use Rattle.answer.specs.Card.{card_ok, serial_in}
use Rattle.slip.specs.Slip.{card_octets}
use Rattle.rules.specs.Accepted.{NoRefusal}
use Rattle.rules.specs.OneCard.{Differ}
use Rattle.freshness.specs.declared.Clock.{Clock}
use Rattle.cache_rules.specs.Place.{WholeCard}
use Rattle.cache_rules.specs.Cache.{told, ask_of}
use Rattle.cache_rules.specs.Has.{Has}
use Rattle.cache_check.specs.CheckTheorem as check

-- whatever octets the buffer has, at any time: an answer that is no refusal is about the card that was asked
pub own_card : (clock : Clock) (card : Card) (s : List ℕ) → Octets s → WholeCard card
    → (a : Answer) → NoRefusal a.verdict → ask_of clock card s ≡ told a → a.card ≡ card
own_card = check.own_card

-- in both hashes and the serial
pub own_in_full : (clock : Clock) (card : Card) (s : List ℕ) → Octets s → WholeCard card
    → (a : Answer) → NoRefusal a.verdict → ask_of clock card s ≡ told a
    → (a.card.name ≡ card.name) × (a.card.key ≡ card.key) × (serial_in a.card ≡ serial_in card)
own_in_full clock card s o w a v e =
    let i = own_card clock card s o w a v e in
    (ap (λ (x : Card). x.name) i, ap (λ (x : Card). x.key) i, ap serial_in i)

-- ── two different cards, c and d ──
module _ (c d : Card) (w : WholeCard c) (different : c ≡ d → ⊥) where
  -- asking for one never gives an answer whose card is the other
  pub never_anothers : (clock : Clock) (s : List ℕ) → Octets s → (a : Answer) → NoRefusal a.verdict → ask_of clock c s ≡ told a → a.card ≡ d → ⊥
  never_anothers clock s o a v e i = different (sym (own_card clock c s o w a v e) ∙ i)

  -- nor do both ever get one answer, in one cache or in two, at one time or at two
  pub never_one_answer : WholeCard d → (clock later : Clock) (s u : List ℕ) → Octets s → Octets u
      → (a : Answer) → NoRefusal a.verdict → ask_of clock c s ≡ told a → ask_of later d u ≡ told a → ⊥
  never_one_answer x clock later s u o p a v e f = never_anothers clock s o a v e (own_card later d u p x a v f)

-- cards are different where a hash or the serial differs, though the other two are the same: the same serial of another
-- issuer is another card
pub two_cards : (c d : Card) → Differ c d → c ≡ d → ⊥
two_cards c d h e = ⊎_elim (λ f. f (ap (λ (x : Card). x.name) e)) (⊎_elim (λ f. f (ap (λ (x : Card). x.key) e)) (λ f. f (ap serial_in e))) h

-- and where any one of their 61 octets differs
pub changed_octet : (c d : Card) (i : ℕ) → (get_or (card_octets c) i 0 ≡ get_or (card_octets d) i 0 → ⊥) → c ≡ d → ⊥
changed_octet c d i h e = h (ap (λ (x : Card). get_or (card_octets x) i 0) e)

-- a place has one card
pub one_place : (s : List ℕ) (i : ℕ) (c d : Card) → WholeCard c → WholeCard d → card_ok c ≡ true → card_ok d ≡ true → Has s i c → Has s i d → c ≡ d
one_place = check.one_card
