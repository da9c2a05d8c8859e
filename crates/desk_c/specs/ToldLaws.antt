-- What is told of what is found is what asking for the card of these octets gives; and a place that is found says something, and
-- its slip stands there.
-- find_told; find_said, find_slip.
-- What is found is in FindLaws, asking in crate cache_rules. What C is told is in CachesLaws.
-- Assumes nothing.
use Rattle.std.specs.Prelude.{ℕ, ◌*◌, ◌≡◌, Bool, get_or, take, drop}
use Rattle.std.proofs.Common.{arith, sym, ◌∙◌, take_all, eq-eqb}
use Rattle.std.proofs.Math.Path.{refl, ap}
use Rattle.std.proofs.Math.Bool.{true, false}
use mathlib.Core.List.{List, []}
use Rattle.std.proofs.Math.ListN.{length}
use Rattle.std.proofs.Math.Seq.{length-take-le}
use Rattle.octets.specs.Octets.{Octets}
use Rattle.freshness.specs.declared.Clock.{Clock}
use Rattle.freshness.specs.Clock.{clock_ok}
use Rattle.answer.specs.Card.{card_ok}
use Rattle.fields.specs.Field.{card_in}
use Rattle.slip.specs.Slip.{card_octets, slip_of}
use Rattle.slip.specs.CardOctetsLaws.{card_written}
use Rattle.desk_question.proofs.SizeLaws.{card_sized}
use Rattle.cache_room.specs.Room.{held_at}
use Rattle.cache_room.proofs.FirstLaws.{held_card}
use Rattle.cache_rules.specs.Place.{slip_size, kind_at, slip_in, card_at, says_at, is_said}
use Rattle.cache_rules.proofs.FitLaws.{held_slip}
use Rattle.cache_rules.specs.Cache.{room_of, place_in, is_cache, ask_of}
use Rattle.cache_rules.proofs.CacheLaws.{room_length, place_octets}
use Rattle.cache_rules.proofs.AskLaws.{ask_19, ask_clock, ask_card}
use Rattle.cache_rules.proofs.HeldLaws.{here_said}
use Rattle.cache_rules.specs.Has.{Has}
use Rattle.cache_rules.proofs.AskTheorem.{slip_stands}
use Rattle.cache_places.specs.Evenly.{evenly}
use Rattle.cache_ask.specs.declared.Sought.TheVariants.{At}
use Rattle.cache_ask.specs.Found.{card_in_range, card_or_zeros, ask_found, told_in}
use Rattle.cache_ask.specs.FoundLaws.{found_told_lem}
use Rattle.desk_c.specs.FindLaws.{HeldHere, find_held, find_places, find_wide}

module _ (clock : Clock) (c s : List ℕ) where
  module _ (o : Octets s) (p : Octets c) (l : length c ≡ 61) where
    fits_card : card_in_range c ≡ card_ok (card_in 20 c)
    unfolding card_in_range
    fits_card = rw (eq-eqb (length c) 61 l)

    own_octets : card_octets (card_in 20 c) ≡ c
    own_octets = card_written 20 c p (omega (arith, l)) ∙ take_all 61 c (omega (arith, l))

    own_form : card_ok (card_in 20 c) ≡ true → card_or_zeros (card_in 20 c) ≡ c
    unfolding card_or_zeros
    own_form r = rw r own_octets

    -- what is told of it is what asking for the card of these octets gives
    pub find_told : told_in s (ask_found clock c s) ≡ ask_of clock (card_in 20 c) s
    unfolding ask_found told_in
    find_told = go (is_cache s) (clock_ok clock) (card_ok (card_in 20 c)) refl refl refl
      where
        go : (x y z : Bool) → is_cache s ≡ x → clock_ok clock ≡ y → card_ok (card_in 20 c) ≡ z
            → told_in s (ask_found clock c s) ≡ ask_of clock (card_in 20 c) s
        go false y z a b r = rw a (sym (ask_19 clock (card_in 20 c) s a))
        go true false z a b r = rw (a, b) (sym (ask_clock clock (card_in 20 c) s a b))
        go true true false a b r = rw (a, b, fits_card, r) (sym (ask_card clock (card_in 20 c) s a b r))
        go true true true a b r =
            ap (λ (x : List ℕ). told_in s (ask_found clock x s)) (sym (own_form r)) ∙ found_told_lem clock s o (card_in 20 c) (card_sized 20 c)

    -- a place that is found has the card: it says something, and its slip stands there
    module _ (i : ℕ) (e : ask_found clock c s ≡ At i) where
      abbrev held : HeldHere clock c s i
      held = find_held clock c s i e

      has : Has s i (card_in 20 c)
      has =
          let h : held_at card_at c (room_of s) ≡ i = ap (held_at card_at c) (sym (find_places clock c s i e)) ∙ held.held in (
            held.inside,
            (rw h at (held_card card_at c [] (room_of s) (omega (arith, h, held.inside, room_length s)))) ∙ sym own_octets,
          )

      pub find_said : is_said (says_at (place_in s i)) ≡ true
      find_said = here_said (card_in 20 c) s o held.cache i has.0 has.1

      ok : card_ok (card_in 20 c) ≡ true
      ok = sym fits_card ∙ held.card

      slip_long : length (slip_in (get_or (evenly s) i [])) ≡ slip_size (kind_at (place_in s i))
      unfolding slip_in
      slip_long =
          ap (λ (x : List (List ℕ)). length (slip_in (get_or x i []))) (find_places clock c s i e)
          ∙ length-take-le (slip_size (kind_at (place_in s i))) (place_in s i)
          (omega (arith, find_wide clock c s i e, (held_slip (place_in s i) (place_octets s i held.inside o) find_said).1))

      pub find_slip : take (length (slip_in (get_or (evenly s) i []))) (drop (87 * i) s) ≡ slip_of (says_at (place_in s i))
      find_slip =
          ap (λ (n : ℕ). take n (drop (87 * i) s)) slip_long
          ∙ slip_stands clock (card_in 20 c) s o held.cache held.clock ok i has
