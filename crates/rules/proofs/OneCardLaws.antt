-- No answer about another card: an accepted answer is taken from an entry that has this card's three parts, it is the
-- only such entry, and the answer's card is the question's. Two questions about different cards never take their answer
-- from one entry.
-- never_another_card; one_entry, one_card, two_cards.
-- one_card and two_cards ask that a card's serial has octets: of larger numbers two serials may have one value.
-- The definitions are in OneCard and Accepted. Assumes nothing.
use Rattle.std.specs.Prelude.{ℕ, ◌≡◌, List}
use Rattle.std.proofs.Common.{⊎_elim, sym, ◌∙◌}
use Rattle.octets.specs.Octets.{Octets}
use Rattle.octets.specs.OctetsLaws.{octets_take}
use Rattle.octets.specs.Number.{value_of}
use Rattle.content.specs.SerialLaws.{serial_same}
use Rattle.layout.specs.Reading.{Entry, Basic, basic}
use Rattle.layout.specs.Read.{reads}
use Rattle.layout.proofs.Read.{reading}
use Rattle.answer.specs.Card.{serial_in}
use Rattle.answer.specs.CardLaws.{field_exactly}
use Rattle.answer.specs.Verdict.{saying}
use Rattle.rules.specs.declared.Question.{Question}
use Rattle.rules.specs.Ruling.{said, answer_of}
use Rattle.rules.specs.Accepted.{Accepted, NoRefusal}
use Rattle.rules.proofs.RulingLaws.{accepted_answer, accepted_exactly}
use Rattle.rules.specs.OneCard.{ForCard, OnlyEntry, Differ}
use Rattle.rules.proofs.EntriesLaws.{only_exactly}

-- an answer that is no refusal is about the question's card, and says what the only entry for that card says
pub never_another_card : (q : Question) (name s : List ℕ) → NoRefusal (answer_of q name s).verdict
    → (b : Basic) × (e : Entry) × (next : ℕ)
    × (reading s ≡ reads (basic b))
    × OnlyEntry q.card b.signed.entries e
    × (answer_of q name s ≡ saying (said e.status e.this_update next) q.card)
never_another_card q name s h =
    let (b, e, next, a) = (accepted_exactly q name s).0 h in
    (b, e, next, a.reads_as, (only_exactly q.card b.signed.entries e).0 a.only, accepted_answer q name s b e next a)

module _ (q r : Question) (name other s t : List ℕ) (b d : Basic) (e : Entry) (next end : ℕ) (x : Accepted q name s b e next) (y : Accepted r other t d e end) where
  -- the entry of an accepted response is for the card
  for_first : ForCard q.card e.cert
  for_first = ((only_exactly q.card b.signed.entries e).0 x.only).here

  for_second : ForCard r.card e.cert
  for_second = ((only_exactly r.card d.signed.entries e).0 y.only).here

  -- two questions that take their answer from one entry ask about the same hashes and the same number
  pub one_entry : (q.card.name ≡ r.card.name) × (q.card.key ≡ r.card.key) × (value_of (serial_in q.card) ≡ value_of (serial_in r.card))
  one_entry = (
    sym for_first.name_hash ∙ for_second.name_hash,
    sym for_first.key_hash ∙ for_second.key_hash,
    sym for_first.serial ∙ for_second.serial,
  )

  -- and about the same serial, octet by octet
  pub one_card : Octets q.card.serial → Octets r.card.serial
      → (q.card.name ≡ r.card.name) × (q.card.key ≡ r.card.key) × (serial_in q.card ≡ serial_in r.card)
  one_card o p = (
    one_entry.0,
    one_entry.1,
    serial_same
        (serial_in q.card)
        (serial_in r.card)
        (octets_take q.card.size q.card.serial o)
        (octets_take r.card.size r.card.serial p)
        ((field_exactly q.card.size q.card.serial).0 x.range.serial).1
        ((field_exactly r.card.size r.card.serial).0 y.range.serial).1
        one_entry.2,
  )

  -- questions whose cards differ in a hash or in the serial never take their answer from one entry
  pub two_cards : Octets q.card.serial → Octets r.card.serial → Differ q.card r.card → ⊥
  two_cards o p h =
      let (i, j, k) = one_card o p in
      ⊎_elim (λ f. f i) (⊎_elim (λ f. f j) (λ f. f k)) h
