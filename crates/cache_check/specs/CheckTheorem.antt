-- Theorems of asking as against the check (document 02, C-11), for crate promises to cite.
-- no_refusal_said, as_the_check, outside_both; own_card, one_card.
-- `ask_of clock card s` is what asking the buffer s gives, `place_in s i` its place i, `says_at` what the slip in a place
-- says, and `answer_of q name r` what the check answers for a question, the signer's Name and a response.
-- Assumes nothing.
use Rattle.std.specs.Prelude.{ℕ, ◌<◌, ◌≡◌, refl, Bool, true, false, List, ltb}
use Rattle.std.proofs.Common.{sym, ap, ◌∙◌}
use Rattle.octets.specs.Octets.{Octets}
use Rattle.answer.specs.declared.Card.{Card}
use Rattle.answer.specs.declared.Verdict.{Verdict}
use Rattle.answer.specs.declared.Verdict.TheVariants as verdict
use Rattle.answer.specs.declared.Answer.{Answer}
use Rattle.answer.specs.Card.{card_ok}
use Rattle.answer.specs.Verdict.{kind_of, saying, refused}
use Rattle.slip.specs.Slip.{card_octets}
use Rattle.layout.specs.Reading.{Entry, Basic}
use Rattle.rules.specs.declared.Question.{Question}
use Rattle.rules.specs.Ruling.{said, answer_of}
use Rattle.rules.specs.Accepted.{Accepted, NoRefusal}
use Rattle.rules.proofs.RulingLaws.{accepted_exactly, accepted_answer}
use Rattle.freshness.specs.declared.Clock.{Clock}
use Rattle.freshness.specs.Clock.{clock_ok}
use Rattle.cache_rules.specs.Place.{places, card_at, says_at, is_said, WholeCard}
use Rattle.cache_rules.proofs.FitLaws.{held_card}
use Rattle.cache_rules.specs.Cache.{place_in, is_cache, told, said_at, ask_of}
use Rattle.cache_rules.proofs.CacheLaws.{place_octets}
use Rattle.cache_rules.proofs.AskLaws as asking
use Rattle.cache_rules.proofs.HeldLaws as held
use Rattle.cache_rules.specs.Has.{Has}
use Rattle.cache_rules.proofs.OtherCardLaws.{place_own}
use Rattle.cache_rules.proofs.OutcomeTheorem.{outcome}
use Rattle.cache_check.specs.Later.{asked_at, AsTheCheck}
use Rattle.cache_check.specs.CheckLaws.{answer_outside, answer_inside}

-- ── as the check ──

-- what is no refusal is of kind 01 to 03
pub no_refusal_said : (a : Answer) → NoRefusal a.verdict → is_said a ≡ true
unfolding is_said
no_refusal_said a h = go a.verdict refl
  where
    go : (v : Verdict) → a.verdict ≡ v → ltb (kind_of a.verdict) 4 ≡ true
    go (verdict.Good this next) e = rw e
    go (verdict.Revoked this next at reason) e = rw e
    go (verdict.Unknown this next) e = rw e
    go (verdict.Refused number status) e = absurd (h number status e)

-- a time or a tolerance out of range gives 1 on both sides
pub outside_both : (clock : Clock) → clock_ok clock ≡ false → (q : Question) (name r s : List ℕ) → is_cache s ≡ true
    → (ask_of clock q.card s ≡ told (refused 1 0)) × (answer_of (asked_at clock q) name r ≡ refused 1 0)
outside_both clock k q name r s c = (asking.ask_clock clock q.card s c k, answer_outside clock q name r k)

module _ (q : Question) (name r s : List ℕ) (o : Octets s) (c : is_cache s ≡ true) (n : NoRefusal (answer_of q name r).verdict) where
  -- where a slip in the cache says what the check answered for a question, a Name and a response, asking gives what the
  -- check gives
  pub as_the_check : (i : ℕ) → i < places → says_at (place_in s i) ≡ answer_of q name r → AsTheCheck q name r s
  as_the_check i b e clock =
      let (basic, entry, next, a) = (accepted_exactly q name r).0 n in
      let w = accepted_answer q name r basic entry next a in
      let d : is_said (says_at (place_in s i)) ≡ true = rw e (no_refusal_said (answer_of q name r) n) in
      let h : card_at (place_in s i) ≡ card_octets q.card =
      held_card (place_in s i) (place_octets s i b o) d ∙ ap (λ (x : Answer). card_octets x.card) (e ∙ w) in
      go basic entry next a (e ∙ w) h (clock_ok clock) refl
    where
      go : (basic : Basic) (entry : Entry) (next : ℕ) (a : Accepted q name r basic entry next)
          → says_at (place_in s i) ≡ saying (said entry.status entry.this_update next) q.card
          → card_at (place_in s i) ≡ card_octets q.card
          → (t : Bool) → clock_ok clock ≡ t → ask_of clock q.card s ≡ told (answer_of (asked_at clock q) name r)
      go basic entry next a w h false k = let (x, y) = outside_both clock k q name r s c in x ∙ ap told (sym y)
      go basic entry next a w h true k =
          held.ask_here q.card s o c clock k a.range.serial i b h
          ∙ ap (λ (x : Answer). told (said_at clock x)) w
          ∙ ap told (answer_inside clock q name r basic entry next a k)

-- ── nothing about another card ──

-- whatever is told of a card, a refusal apart, is about that card: both hashes, the serial and its length
pub own_card : (clock : Clock) (card : Card) (s : List ℕ) → Octets s → WholeCard card
    → (a : Answer) → NoRefusal a.verdict → ask_of clock card s ≡ told a → a.card ≡ card
own_card clock card s o z a n e =
    outcome clock card s o (a.card ≡ card)
    (λ c q. refusal 19 q)
    (λ c h q. refusal 1 q)
    (λ q. absurd (asking.told_held a (sym e ∙ q)))
    (λ q. refusal 15 q)
    (λ q. refusal 16 q)
    (λ i (b, h) f d q. asking.told_card a (says_at (place_in s i)) (sym e ∙ q) ∙ place_own (place_in s i) (place_octets s i b o) d card z f h)
  where
    refusal : (m : ℕ) → ask_of clock card s ≡ told (refused m 0) → a.card ≡ card
    refusal m q = absurd (asking.said_refusal a m (no_refusal_said a n) (sym e ∙ q))

-- two cards that differ in an octet never have one place
pub one_card : (s : List ℕ) (i : ℕ) (c d : Card) → WholeCard c → WholeCard d → card_ok c ≡ true → card_ok d ≡ true → Has s i c → Has s i d → c ≡ d
one_card s i c d p q f g h l = asking.cards_same c d p q f g (sym h.1 ∙ l.1)
