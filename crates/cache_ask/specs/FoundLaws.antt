-- What is told of what is found is what asking gives; and the card's octets in its slip are those that are looked for.
-- good, slip_card; found_told_lem.
-- The definitions are in Found, asking in crate cache_rules. Assumes nothing.
use Rattle.std.specs.Prelude.{ℕ, ◌≤◌, ◌<◌, ◌≡◌, Bool, eqb, leb, length, get_or, replicate}
use Rattle.std.proofs.Common.{arith, ◌∙◌, eq-eqb, le-leb, leb-true, leb-false}
use Rattle.std.proofs.Math.Path.{refl, sym, ap}
use Rattle.std.proofs.Math.Bool.{true, false, cond}
use mathlib.Core.List.{List, [], ◌∷◌, ◌++◌, append-nil}
use Rattle.std.proofs.Math.ListN.{take, drop}
use Rattle.std.proofs.Math.Seq.{take_at}
use Rattle.std.proofs.lemmas.Bool.{lt-leb}
use Rattle.octets.specs.Octets.{Octets}
use Rattle.freshness.specs.declared.Clock.{Clock}
use Rattle.freshness.specs.Clock.{clock_ok}
use Rattle.answer.specs.declared.Card.{Card}
use Rattle.answer.specs.declared.Answer.{Answer}
use Rattle.answer.specs.declared.Verdict.TheVariants.{Good}
use Rattle.answer.specs.Card.{card_ok}
use Rattle.answer.specs.CardLaws.{field_exactly}
use Rattle.answer.specs.Verdict.{saying, refused}
use Rattle.fields.specs.Field.{card_in}
use Rattle.fields.specs.Output.{output_in}
use Rattle.fields.specs.OutputLaws.{kept_refused, first_written}
use Rattle.slip.specs.Examples as slip
use Rattle.slip.specs.Rules.{times_ok, verdict_ok}
use Rattle.slip.specs.Table.{row_in, row_of, size_of}
use Rattle.slip.specs.Numbers.{numbers_form}
use Rattle.slip.specs.Slip.{card_octets, body_of, slip_of, card_fits as cardKept, slip_ok, slip_refusal, Sized}
use Rattle.slip.specs.CardOctetsLaws.{card_length, card_read}
use Rattle.slip.specs.SlipLaws.{slip_length}
use Rattle.cache_room.specs.Room.{held_at}
use Rattle.cache_room.proofs.FirstLaws.{held_card}
use Rattle.cache_rules.specs.Place.{places, card_at, says_at}
use Rattle.cache_rules.proofs.FitLaws.{full_said}
use Rattle.cache_rules.specs.Cache.{room_of, place_in, is_cache, told, missed_at, said_at, ask_of}
use Rattle.cache_rules.proofs.CacheLaws.{cache_exactly, room_length, place_octets, place_fit}
use Rattle.cache_rules.proofs.AskLaws.{ask_19, ask_clock, ask_card, ask_none, ask_held}
use Rattle.cache_rules.proofs.HeldLaws.{card_nonempty}
use Rattle.cache_place.specs.TimesLaws.{place_times}
use Rattle.cache_places.specs.Evenly.{evenly}
use Rattle.cache_places.specs.EvenlyLaws.{even_room}
use Rattle.cache_ask.specs.declared.Sought.TheVariants.{At, Refused}
use Rattle.cache_ask.specs.Found.{card_in_range, card_or_zeros, misses_at, found_in, ask_found, told_in}

-- ---- the card in its slip

-- a good answer about a card
abbrev pub good : Card → Answer
good card = saying (Good 0 0) card

module _ (card : Card) (h : Sized 20 card) where
  -- it may be written exactly if the card is in range
  good_refusal : slip_refusal (good card) ≡ cond (card_ok card) 0 17
  unfolding slip_refusal slip_ok verdict_ok times_ok cardKept row_of row_in
  good_refusal = refl

  good_size : length (slip_of (good card)) ≡ 78
  unfolding slip.slip_computes size_of
  good_size = slip_length 20 (good card) (λ c. h)

  good_card : take 61 (drop 1 (slip_of (good card))) ≡ card_octets card
  unfolding slip_of body_of row_of row_in
  good_card = take_at (card_octets card) (numbers_form (8 ∷ 8 ∷ []) (0 ∷ 0 ∷ [])) 61 (card_length card 20 h)

  pub slip_card : take 61 (drop 1 (output_in (slip_refusal (good card)) (replicate 78 0) (slip_of (good card)))) ≡ card_or_zeros card
  unfolding card_or_zeros
  slip_card = go (card_ok card) refl
    where
      go : (b : Bool) → card_ok card ≡ b → take 61 (drop 1 (output_in (slip_refusal (good card)) (replicate 78 0) (slip_of (good card)))) ≡ cond b (card_octets card) (replicate 61 0)
      go true e =
          rw (good_refusal, e)
          (ap (λ (x : List ℕ). take 61 (drop 1 x))
          (first_written (replicate 78 0) (slip_of (good card)) (omega (arith, good_size))
          ∙ ap (λ (k : ℕ). slip_of (good card) ++ drop k (replicate 78 0)) good_size
          ∙ append-nil (slip_of (good card)))
          ∙ good_card)
      go false e = rw (good_refusal, e) (ap (λ (x : List ℕ). take 61 (drop 1 x)) (kept_refused 17 (replicate 78 0) (slip_of (good card)) (λ z. omega arith)))

  -- its octets are a card in range
  form_fits : card_ok card ≡ true → card_in_range (card_octets card) ≡ true
  unfolding card_in_range
  form_fits e =
      let same : card_in 20 (card_octets card) ≡ card =
      ap (card_in 20) (sym (append-nil (card_octets card))) ∙ card_read card [] 20 h (omega (arith, ((field_exactly card.size card.serial).0 e).0)) in
      rw (eq-eqb (length (card_octets card)) 61 (card_length card 20 h), same) e

-- zeros are none
zeros_fit : card_in_range (replicate 61 0) ≡ false
unfolding card_in_range slip.slip_computes
zeros_fit = refl

-- ---- asking

-- a place by the number of the rule that its times miss
by_number : (s : List ℕ) (i n : ℕ) → told_in s (cond (eqb n 0) (At i) (Refused n)) ≡ told (cond (eqb n 0) (says_at (get_or (evenly s) i [])) (refused n 0))
unfolding told_in
by_number s i n = go (eqb n 0)
  where
    go : (b : Bool) → told_in s (cond b (At i) (Refused n)) ≡ told (cond b (says_at (get_or (evenly s) i [])) (refused n 0))
    go true = refl
    go false = refl

module _ (clock : Clock) (s : List ℕ) (o : Octets s) (card : Card) (h : Sized 20 card) where
  module _ (c : is_cache s ≡ true) (k : clock_ok clock ≡ true) (f : card_ok card ≡ true) where
    room : evenly s ≡ room_of s
    room = even_room s ((cache_exactly s).0 c).0

    module _ (i : ℕ) (e : held_at card_at (card_octets card) (room_of s) ≡ i) where
      -- no place has the card
      none : places ≤ i → told_in s (found_in clock s i) ≡ ask_of clock card s
      unfolding found_in told_in
      none b = rw (le-leb 64 i b) (sym (ask_none clock card s c k f (rw e b)))

      module _ (b : i < places) where
        has : card_at (place_in s i) ≡ card_octets card
        has = rw e at (held_card card_at (card_octets card) [] (room_of s) (omega (arith, e, room_length s)))

        -- the octets of its times are the times that its slip says
        missed : misses_at clock (get_or (evenly s) i []) ≡ missed_at clock (says_at (place_in s i)).verdict
        unfolding misses_at missed_at
        missed =
            let x = place_octets s i b o in
            let t = place_times (place_in s i) x (full_said (place_in s i) x (place_fit s i b c) (λ z. card_nonempty card (sym has ∙ z))) in
            rw (room, t.0, t.1)

        there : told_in s (found_in clock s i) ≡ ask_of clock card s
        unfolding found_in said_at
        there =
            rw (lt-leb 64 i b, missed)
            (by_number s i (missed_at clock (says_at (place_in s i)).verdict)
            ∙ ap (λ (l : List (List ℕ)). told (cond (eqb (missed_at clock (says_at (place_in s i)).verdict) 0) (says_at (get_or l i [])) (refused (missed_at clock (says_at (place_in s i)).verdict) 0))) room
            ∙ sym (ask_held clock card s c k f i b e))

    found : told_in s (found_in clock s (held_at card_at (card_octets card) (evenly s))) ≡ ask_of clock card s
    found = rw room (go (leb places (held_at card_at (card_octets card) (room_of s))) refl)
      where
        go : (b : Bool) → leb places (held_at card_at (card_octets card) (room_of s)) ≡ b
            → told_in s (found_in clock s (held_at card_at (card_octets card) (room_of s))) ≡ ask_of clock card s
        go true q = none (held_at card_at (card_octets card) (room_of s)) refl (leb-true places (held_at card_at (card_octets card) (room_of s)) q)
        go false q = there (held_at card_at (card_octets card) (room_of s)) refl (leb-false places (held_at card_at (card_octets card) (room_of s)) q)

  pub found_told_lem : told_in s (ask_found clock (card_or_zeros card) s) ≡ ask_of clock card s
  unfolding ask_found card_or_zeros told_in
  found_told_lem = go (is_cache s) (clock_ok clock) (card_ok card) refl refl refl
    where
      go : (a b d : Bool) → is_cache s ≡ a → clock_ok clock ≡ b → card_ok card ≡ d → told_in s (ask_found clock (card_or_zeros card) s) ≡ ask_of clock card s
      go false b d p q r = rw p (sym (ask_19 clock card s p))
      go true false d p q r = rw (p, q) (sym (ask_clock clock card s p q))
      go true true false p q r = rw (p, q, r, zeros_fit) (sym (ask_card clock card s p q r))
      go true true true p q r = rw (p, q, r, form_fits card h r) (found p q r)
