-- Laws of asking: each answer exactly when it is due.
-- told_verdict, told_card, told_same, told_number, told_held, said_refusal; ask_19, ask_clock, ask_card, ask_none,
-- ask_held; said_early, said_late, said_within; cards_same.
-- The definitions are in Cache. Assumes nothing.
use Rattle.std.specs.Prelude.{ℕ, ◌+◌, ◌≤◌, ◌<◌, ◌≡◌, true, false, List, [], ◌++◌, Option, None, Some}
use Rattle.std.proofs.Common.{arith, sym, ap, ◌∙◌}
use borrow.Author.Tests.{lt-ltb, le-ltb, ne_eqb}
use Rattle.freshness.specs.Fresh.{fresh_refusal}
use Rattle.freshness.specs.FreshLaws.{fresh_early, fresh_late, fresh_within}
use Rattle.answer.specs.declared.Card.{Card}
use Rattle.answer.specs.declared.Answer.{Answer}
use Rattle.answer.specs.declared.Verdict.{Verdict}
use Rattle.answer.specs.Card.{card_ok}
use Rattle.answer.specs.CardLaws.{field_exactly}
use Rattle.answer.specs.Verdict.{kind_of, number_of, without_place, refused}
use Rattle.answer.specs.VerdictLaws.{refused_kind, refused_number}
use Rattle.fields.specs.Field.{card_in}
use Rattle.slip.specs.Slip.{card_octets, Sized}
use Rattle.slip.specs.CardOctetsLaws.{card_read}
use Rattle.cache_room.specs.Room.{held_at}
use Rattle.freshness.specs.declared.Clock.{Clock}
use Rattle.cache_rules.specs.declared.Told.{Told}
use Rattle.cache_rules.specs.Place.{places, card_at, says_at, is_said, this_of, next_of}
use Rattle.freshness.specs.Clock.{clock_ok}
use Rattle.cache_rules.proofs.PlaceLaws.{said_kind}
use Rattle.cache_rules.specs.Cache.{room_of, place_in, is_cache, told, not_held, missed_at, said_at, ask_of}

-- ---- what is told, told apart

pub told_verdict : (a b : Answer) → told a ≡ told b → a.verdict ≡ b.verdict
unfolding told
told_verdict a b e = let h : Some a.verdict ≡ Some b.verdict = ap (λ (x : Told). x.asked) e in cc h

pub told_card : (a b : Answer) → told a ≡ told b → a.card ≡ b.card
unfolding told
told_card a b e = ap (λ (x : Told). x.card) e

-- a place is not told
pub told_same : (a b : Answer) → told a ≡ told b → without_place a ≡ without_place b
told_same a b e = rw (told_verdict a b e, told_card a b e)

pub told_number : (m n : ℕ) → told (refused m 0) ≡ told (refused n 0) → m ≡ n
told_number m n e = sym (refused_number m 0) ∙ ap number_of (told_verdict (refused m 0) (refused n 0) e) ∙ refused_number n 0

pub told_held : (a : Answer) → told a ≡ not_held → ⊥
unfolding told not_held
told_held a e =
    let h : ◌≡◌ {A = Option Verdict} (Some a.verdict) None = ap (λ (x : Told). x.asked) e in
    cc h

-- what a place says is no refusal
pub said_refusal : (a : Answer) (n : ℕ) → is_said a ≡ true → told a ≡ told (refused n 0) → ⊥
said_refusal a n h e = omega (arith, said_kind a h, refused_kind n 0, ap kind_of (told_verdict a (refused n 0) e))

-- ---- by the tests in their order

module _ (clock : Clock) (card : Card) (s : List ℕ) where
  pub ask_19 : is_cache s ≡ false → ask_of clock card s ≡ told (refused 19 0)
  unfolding ask_of
  ask_19 c = rw c

  module _ (c : is_cache s ≡ true) where
    pub ask_clock : clock_ok clock ≡ false → ask_of clock card s ≡ told (refused 1 0)
    unfolding ask_of
    ask_clock k = rw (c, k)

    module _ (k : clock_ok clock ≡ true) where
      pub ask_card : card_ok card ≡ false → ask_of clock card s ≡ told (refused 1 0)
      unfolding ask_of
      ask_card f = rw (c, k, f)

      module _ (f : card_ok card ≡ true) where
        pub ask_none : places ≤ held_at card_at (card_octets card) (room_of s) → ask_of clock card s ≡ not_held
        unfolding ask_of
        ask_none h = rw (c, k, f, le-ltb (held_at card_at (card_octets card) (room_of s)) places h)

        pub ask_held : (i : ℕ) → i < places → held_at card_at (card_octets card) (room_of s) ≡ i
            → ask_of clock card s ≡ told (said_at clock (says_at (place_in s i)))
        unfolding ask_of
        ask_held i b e = rw (c, k, f, e, lt-ltb i places b)

-- ---- what is said at a time

module _ (clock : Clock) (a : Answer) (o : this_of a.verdict ≤ next_of a.verdict) where
  abbrev this : ℕ
  this = this_of a.verdict

  abbrev next : ℕ
  next = next_of a.verdict

  said_by : (n : ℕ) → missed_at clock a.verdict ≡ n → (n ≡ 0 → ⊥) → said_at clock a ≡ refused n 0
  unfolding said_at
  said_by n e z = rw (e, ne_eqb n 0 z)

  pub said_early : clock.now < this → said_at clock a ≡ refused 15 0
  unfolding missed_at
  said_early h = said_by 15 (ap fresh_refusal (fresh_early this next clock.now clock.tolerance o h)) (λ z. omega arith)

  pub said_late : this ≤ clock.now → next + clock.tolerance < clock.now → said_at clock a ≡ refused 16 0
  unfolding missed_at
  said_late b h = said_by 16 (ap fresh_refusal (fresh_late this next clock.now clock.tolerance o b h)) (λ z. omega arith)

  pub said_within : this ≤ clock.now → clock.now ≤ next + clock.tolerance → said_at clock a ≡ a
  unfolding said_at missed_at
  said_within b h = rw (fresh_within this next clock.now clock.tolerance o b h)

-- ---- cards by their octets

-- cards whose octets are the same are one card: both hashes, the serial and its length
pub cards_same : (c d : Card) → Sized 20 c → Sized 20 d → card_ok c ≡ true → card_ok d ≡ true → card_octets c ≡ card_octets d → c ≡ d
cards_same c d p q f g e =
    sym (card_read c [] 20 p (omega (arith, ((field_exactly c.size c.serial).0 f).0)))
    ∙ ap (λ (x : List ℕ). card_in 20 (x ++ [])) e
    ∙ card_read d [] 20 q (omega (arith, ((field_exactly d.size d.serial).0 g).0))
