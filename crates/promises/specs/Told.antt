-- What the functions that answer in cases say, by document 01's numbers (Numbers): the entries one by one, the search for a
-- card's entry, and the response judged for a question.
-- entry_told_lem; found_told_lem; opened_told_lem. The response judged alone is in ForC, times are in Rows, the writers in Buffers.
-- `entry_of` is what show::entry_at answers (show: Shown), `found_of` what rule_search::search answers of entries that are read, and
-- `for_card` the entries for a card, in order (search: Search), `opened_of` what rule_response::open answers (opened: Opened).
-- Assumes nothing.
use Rattle.std.specs.Prelude.{ℕ, ◌↔◌, ◌≡◌, refl, List, [], ◌∷◌, Ok, Err}
use Rattle.std.proofs.Common.{arith, ap, ◌∙◌}
use Rattle.octets.specs.Octets.{Octets}
use Rattle.layout.specs.Reading as layout
use Rattle.layout.specs.Limits.{HashOk}
use Rattle.read_content.specs.ExpectLaws.{never}
use Rattle.read_response.specs.Parts.{judged_of}
use Rattle.read_response.specs.Refusals.{refusal_of}
use Rattle.show.specs.Shown.{entry_of}
use Rattle.show.specs.declared.Entry.{Entry}
use Rattle.show.specs.declared.Entry.TheVariants as entry
use Rattle.answer.specs.Verdict.{refused_at}
use Rattle.answer.specs.declared.Card.{Card}
use Rattle.rule_search.specs.Search.{found_of, for_card}
use Rattle.rule_search.proofs.FoundLaws.{found_none, found_one, found_two}
use Rattle.rule_search.specs.declared.Found.{Found}
use Rattle.rule_search.specs.declared.Found.TheVariants as found
use Rattle.rules.specs.declared.Question.{Question}
use Rattle.rules.specs.Accepted.{InRange}
use Rattle.rules.proofs.AcceptedLaws.{range_exactly}
use Rattle.rules.specs.Ruling.{answer_of}
use Rattle.rule_response.specs.Opened.{Opened, opened_of}
use Rattle.rule_check.specs.CardRuled.{opened_ruled}
use Rattle.rule_check.specs.CheckLaws.{check_by_parts}
use Rattle.desk_c.specs.Places.{entry_number}
use Rattle.desk_c.specs.EntryLaws.{entry_number_lem}
use Rattle.promises.specs.Numbers.{Told}
use Rattle.promises.specs.NumbersOfCheck.{entry_told, found_told, opened_told, opened_place}

-- show::entry_at, at every ordinal: the number is the response's refusal, 0 where it has none
pub entry_told_lem : (s : List ℕ) (k : ℕ) → (entry_told (entry_of s k)).number ≡ (refusal_of (judged_of s)).number
unfolding entry_number
entry_told_lem s k = same (entry_of s k) ∙ entry_number_lem s k
  where
    same : (x : Entry) → (entry_told x).number ≡ entry_number x
    same (entry.At start len) = refl
    same entry.End = refl
    same (entry.Refused number status place) = refl

-- rule_search::search: 10 exactly where no entry is for the card, 0 exactly where one is, 11 exactly where two or more are
pub found_told_lem : (card : Card) (l : List layout.Entry) (n : ℕ) → n ≡ (found_told (found_of card l)).number
    → (n ≡ 10 ↔ for_card card l ≡ [])
    × (n ≡ 0 ↔ (e : layout.Entry) × (for_card card l ≡ e ∷ []))
    × (n ≡ 11 ↔ (e e' : layout.Entry) × (r : List layout.Entry) × (for_card card l ≡ e ∷ e' ∷ r))
found_told_lem card l n i = rw i (go (found_of card l) refl)
  where
    go : (f : Found) → found_of card l ≡ f
        → ((found_told f).number ≡ 10 ↔ for_card card l ≡ [])
        × ((found_told f).number ≡ 0 ↔ (e : layout.Entry) × (for_card card l ≡ e ∷ []))
        × ((found_told f).number ≡ 11 ↔ (e e' : layout.Entry) × (r : List layout.Entry) × (for_card card l ≡ e ∷ e' ∷ r))
    go (found.None k) j =
        let (p, q) = found_none card l k j in (
          (λ e. p, λ e. refl),
          (λ e. absurd (omega arith), λ (e, h). never (cc (p, h))),
          (λ e. absurd (omega arith), λ (e, f, r, h). never (cc (p, h))),
        )
    go (found.One a b c) j =
        let (x, p, q, z) = found_one card l a b c j in (
          (λ e. absurd (omega arith), λ h. never (cc (p, h))),
          (λ e. (x, p), λ e. refl),
          (λ e. absurd (omega arith), λ (e, f, r, h). never (cc (p, h))),
        )
    go (found.Two a b) j =
        let (x, y, r, p) = found_two card l a b j in (
          (λ e. absurd (omega arith), λ h. never (cc (p, h))),
          (λ e. absurd (omega arith), λ (e, h). never (cc (p, h))),
          (λ e. (x, y, r, p), λ e. refl),
        )

-- rule_response::open, for a question in range whose card has hashes and a serial of octets: a number that it gives is the check's
-- answer, and the status and the place go with it
pub opened_told_lem : (q : Question) (name s : List ℕ) → InRange q name → Octets s → HashOk q.card.name → HashOk q.card.key → Octets q.card.serial
    → (told : Told) → told ≡ opened_told (opened_of q name s) → (told.number ≡ 0 → ⊥) → answer_of q name s ≡ refused_at told.number told.status (opened_place (opened_of q name s))
unfolding opened_ruled
opened_told_lem q name s range o h k z told i n =
    check_by_parts q name s ((range_exactly q name).1 range) o (record { name = h; key = k; serial = z }) ∙ go (opened_of q name s) i
  where
    go : (x : Opened) → told ≡ opened_told x → opened_ruled q s x ≡ refused_at told.number told.status (opened_place x)
    go (Err r) j = rw j
    go (Ok v) j = absurd (n (ap (λ (t : Told). t.number) j))
