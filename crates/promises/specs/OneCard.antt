-- For the depositor: an accepted answer is about this card and no other, and counts at the time that was asked.
-- one_entry; for_card_in_full, only_entry_in_full; two_cards, changed_octet.
-- `ForCard`, `OnlyEntry` and `Differ` say in plain words which entry is for a card (rules: OneCard).
-- two_cards and changed_octet ask that a serial has octets, as every card of the code has.
-- Assumes nothing.
use Rattle.std.specs.Prelude.{ℕ, ◌+◌, ◌≤◌, ◌⊎◌, ◌↔◌, ◌≡◌, get_or}
use Rattle.std.proofs.Common.{⊎_elim, ap}
use mathlib.Core.List.{List, [], ◌∷◌, ◌++◌, Memᴰ}
use Rattle.std.proofs.Math.Option.{none, some}
use Rattle.octets.specs.Octets.{Octets}
use Rattle.octets.specs.Number.{value_of}
use Rattle.codec.specs.Tree.{prim}
use Rattle.layout.specs.Reading.{CertId, Entry, Basic, basic}
use Rattle.layout.specs.Read.{reads}
use Rattle.layout.proofs.Read.{reading}
use Rattle.layout.specs.Sha1.{sha1}
use Rattle.answer.specs.Card.{serial_in}
use Rattle.answer.specs.declared.Card.{Card}
use Rattle.answer.specs.Verdict.{saying}
use Rattle.rules.specs.declared.Question.{Question}
use Rattle.rules.specs.Ruling.{said, answer_of}
use Rattle.rules.specs.Accepted.{Accepted, NoRefusal}
use Rattle.rules.proofs.RulingLaws.{accepted_exactly, accepted_answer}
use Rattle.rules.specs.OneCard.{ForCard, OnlyEntry, Differ}
use Rattle.rules.proofs.EntriesLaws.{only_exactly}
use Rattle.rules.proofs.OneCardLaws as ruling

-- an entry is for a card: its algorithm is SHA-1, with parameters absent or 05 00, and its two hashes and its serial are
-- the card's
pub for_card_in_full : (card : Card) (c : CertId)
    → ForCard card c
    ↔ (c.algorithm.oid ≡ sha1)
    × ((c.algorithm.parameters ≡ none) ⊎ (c.algorithm.parameters ≡ some (prim 5 [])))
    × (c.name_hash ≡ card.name)
    × (c.key_hash ≡ card.key)
    × (c.serial ≡ value_of (serial_in card))
for_card_in_full card c = (
  λ f. (f.algorithm, f.parameters, f.name_hash, f.key_hash, f.serial),
  λ (a, p, n, k, s). record { algorithm = a; parameters = p; name_hash = n; key_hash = k; serial = s },
)

-- it is the only one: it stands in the list, and no entry before it or after it is for the card
pub only_entry_in_full : (card : Card) (l : List Entry) (e : Entry)
    → OnlyEntry card l e
    ↔ (before after : List Entry)
    × (l ≡ before ++ (e ∷ after))
    × ForCard card e.cert
    × ((x : Entry) → Memᴰ x before → ForCard card x.cert → ⊥)
    × ((x : Entry) → Memᴰ x after → ForCard card x.cert → ⊥)
only_entry_in_full card l e = (
  λ o. (o.before, o.after, o.place, o.here, o.earlier, o.later),
  λ (b, a, p, h, i, j). record { before = b; after = a; place = p; here = h; earlier = i; later = j },
)

-- for any question, Name and response: an answer that is no refusal names the question's card, and says what the only
-- entry for that card says, and the now that was asked lies within that entry's own times
pub one_entry : (q : Question) (name s : List ℕ) → NoRefusal (answer_of q name s).verdict
    → (b : Basic) × (e : Entry) × (next : ℕ)
    × (reading s ≡ reads (basic b))
    × OnlyEntry q.card b.signed.entries e
    × (answer_of q name s ≡ saying (said e.status e.this_update next) q.card)
    × (e.next_update ≡ some next)
    × (e.this_update ≤ q.now)
    × (q.now ≤ next + q.tolerance)
    × (q.tolerance ≤ 3600)
one_entry q name s h =
    let (b, e, next, a) = (accepted_exactly q name s).0 h in
    (b, e, next, a.reads_as, (only_exactly q.card b.signed.entries e).0 a.only, accepted_answer q name s b e next a, a.ends, a.begun, a.current, a.range.tolerance)

-- ── two questions, q with its Name about a response s and r with its Name about a response t, that both take their answer
-- from one entry ──
module _ (q r : Question) (name other s t : List ℕ) (b d : Basic) (e : Entry) (next end : ℕ)
    (x : Accepted q name s b e next) (y : Accepted r other t d e end)
    (o : Octets q.card.serial) (p : Octets r.card.serial) where
  -- ask about one card
  pub same_card_lem : (q.card.name ≡ r.card.name) × (q.card.key ≡ r.card.key) × (serial_in q.card ≡ serial_in r.card)
  same_card_lem = ruling.one_card q r name other s t b d e next end x y o p

  -- so their cards do not differ in a hash or in the serial
  pub two_cards : Differ q.card r.card → ⊥
  two_cards = ruling.two_cards q r name other s t b d e next end x y o p

  -- nor in any octet of either hash or of the serial
  pub changed_octet : (i : ℕ)
      → (get_or q.card.name i 0 ≡ get_or r.card.name i 0 → ⊥)
      ⊎ (get_or q.card.key i 0 ≡ get_or r.card.key i 0 → ⊥)
      ⊎ (get_or (serial_in q.card) i 0 ≡ get_or (serial_in r.card) i 0 → ⊥)
      → ⊥
  changed_octet i h =
      let (n, k, z) = same_card_lem in
      ⊎_elim (λ f. f (ap (λ (l : List ℕ). get_or l i 0) n)) (⊎_elim (λ f. f (ap (λ (l : List ℕ). get_or l i 0) k)) (λ f. f (ap (λ (l : List ℕ). get_or l i 0) z))) h
