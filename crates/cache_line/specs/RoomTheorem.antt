-- What the program `room` answers to each operation, each theorem stated in full.
-- new_answered, new_fits; filing_answered; ask_answered, list_answered; follows_fits.
-- `reply_of` is the octets whose hex is the line, `cache_of` the octets that follow it, `input_form` an input written in order.
-- A clock's numbers are below 2 ^ 64, `Octets` are below 256, and a card is `Sized`: so is every value in code.
-- Assumes nothing.
use Rattle.std.specs.Prelude.{ℕ, ◌-◌, ◌^◌, ◌<◌, ◌⊎◌, ◌≡◌, refl, Bool, true, false, cond, eqb, get_or, drop, Ok, Err}
use Rattle.std.proofs.Common.{inl, inr, ◌∙◌}
use mathlib.Core.List.{List, [], ◌∷◌}
use Rattle.octets.specs.Octets.{Octets}
use Rattle.octets.specs.OctetsLaws.{octets_take, octets_drop}
use Rattle.freshness.specs.declared.Clock.{Clock}
use Rattle.freshness.specs.Clock.{clock_ok}
use Rattle.answer.specs.declared.Card.{Card}
use Rattle.slip.specs.Slip.{Sized}
use Rattle.cache_rules.specs.Examples.{cache_computes}
use Rattle.cache_rules.specs.Numbers.{Filed}
use Rattle.cache_rules.specs.Cache.{room_of, is_cache, filed_of, buffer_of, ask_of}
use Rattle.cache_rules.proofs.CacheLaws.{cache_exactly}
use Rattle.cache_rules.proofs.RefusalLaws.{count_accepted}
use Rattle.cache_rules.proofs.FilingLaws.{after_cache}
use Rattle.cache_places.specs.EvenlyLaws.{even_room}
use Rattle.cache_ask.specs.Found.{card_or_zeros}
use Rattle.cache_line.specs.Input.{is_new, clock_in, begins_at, paper_in, cache_in, input_form}
use Rattle.cache_line.specs.Marks.{marks_of}
use Rattle.cache_line.specs.Reply.{numbered, accepted_reply, filed_reply, filed_cache, list_reply, reply_with, cache_with, new_cache, reply_of, cache_of}
use Rattle.cache_line.specs.FormLaws.{form_reply, form_follows}
use Rattle.cache_line.specs.Told.{told_reply}
use Rattle.cache_line.specs.ToldLaws.{ask_tells}

-- 00: the number 0, and 5,568 zeros
pub new_answered : (reply_of (0 ∷ []) ≡ numbered 0) × (cache_of (0 ∷ []) ≡ new_cache)
unfolding reply_of cache_of is_new
new_answered = (refl, refl)

-- which are a cache
pub new_fits : is_cache new_cache ≡ true
unfolding cache_computes
new_fits = refl

module _ (clock : Clock) (a : clock.now < 2 ^ 64) (b : clock.tolerance < 2 ^ 64) (s : List ℕ) where
  -- 01: the count, and then the cache as it is after the filing; or a refusal's number, and no cache
  pub filing_answered : (slip : List ℕ)
      → (reply_of (input_form 1 clock slip s) ≡ filed_reply (filed_of clock s slip))
      × (cache_of (input_form 1 clock slip s) ≡ filed_cache (filed_of clock s slip) (buffer_of clock s slip))
  unfolding reply_with cache_with
  filing_answered slip = (form_reply 1 clock slip s a b, form_follows 1 clock slip s a b)

  -- 02: what asking gives, and no cache
  pub ask_answered : Octets s → (card : Card) → Sized 20 card
      → (reply_of (input_form 2 clock (card_or_zeros card) s) ≡ told_reply (ask_of clock card s)) × (cache_of (input_form 2 clock (card_or_zeros card) s) ≡ [])
  unfolding reply_with cache_with
  ask_answered o card h = (form_reply 2 clock (card_or_zeros card) s a b ∙ ask_tells clock card s o h, form_follows 2 clock (card_or_zeros card) s a b)

  -- 03: the marks of a cache's places, and no cache
  pub list_answered : is_cache s ≡ true → clock_ok clock ≡ true
      → (reply_of (input_form 3 clock [] s) ≡ accepted_reply (marks_of clock (room_of s))) × (cache_of (input_form 3 clock [] s) ≡ [])
  unfolding reply_with cache_with list_reply
  list_answered c k = (
    form_reply 3 clock [] s a b ∙ rw (c, k, even_room s ((cache_exactly s).0 c).0),
    form_follows 3 clock [] s a b,
  )

-- whatever the input: what follows the line is nothing, or a cache
pub follows_fits : (l : List ℕ) → Octets l → (cache_of l ≡ []) ⊎ (is_cache (cache_of l) ≡ true)
unfolding cache_of cache_with filed_cache paper_in
follows_fits l o = go (is_new l) (eqb (begins_at l) 0) (eqb (get_or l 0 0) 1)
  where
    after : List ℕ
    after = filed_cache (filed_of (clock_in l) (cache_in l) (paper_in l)) (buffer_of (clock_in l) (cache_in l) (paper_in l))

    filing : (clock : Clock) (s t : List ℕ) → Octets t → (r : Filed) → filed_of clock s t ≡ r
        → (filed_cache r (buffer_of clock s t) ≡ []) ⊎ (is_cache (filed_cache r (buffer_of clock s t)) ≡ true)
    filing clock s t o (Err x) e = inl refl
    filing clock s t o (Ok n) e = inr (after_cache clock s t (count_accepted clock s t n e) o)

    go : (x y z : Bool) → (cond x new_cache (cond y [] (cond z after [])) ≡ []) ⊎ (is_cache (cond x new_cache (cond y [] (cond z after []))) ≡ true)
    go true y z = inr new_fits
    go false true z = inl refl
    go false false false = inl refl
    go false false true =
        filing
        (clock_in l)
        (cache_in l)
        (paper_in l)
        (octets_take (begins_at l - 18) (drop 18 l) (octets_drop 18 l o))
        (filed_of (clock_in l) (cache_in l) (paper_in l))
        refl
