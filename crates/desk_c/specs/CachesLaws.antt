-- Laws of what desk_cache_ask answers: its number is that of what asking gives, so that each says exactly what it was, and the octets
-- at its place are the answer's slip.
-- ask_nothing, ask_inside, ask_other_length; ask_number, ask_exactly, ask_slip.
-- The definitions are in Caches; asking is in crate cache_rules (Cache, Numbers), what is found in FindLaws and ToldLaws. What
-- desk_cache_file answers is in the laws of a filing there.
-- Assumes nothing.
use Rattle.std.specs.Prelude.{ℕ, ◌+◌, ◌≤◌, ◌<◌, ◌↔◌, ◌≡◌, Bool, List}
use native.Mathlib.Omega.{arith}
use Rattle.std.proofs.Math.Path.{refl, ap}
use Rattle.std.proofs.Common.{sym, ◌∙◌}
use Rattle.std.proofs.Math.Bool.{true, false, cond}
use Rattle.std.proofs.Math.ListN.{length}
use Rattle.octets.specs.Octets.{Octets}
use Rattle.freshness.specs.declared.Clock.{Clock}
use Rattle.answer.specs.declared.Answer.{Answer}
use Rattle.answer.specs.Verdict.{kind_of, refused}
use Rattle.fields.specs.Field.{card_in}
use Rattle.slip.specs.Slip.{slip_of}
use Rattle.show.specs.Parts.{empty_span}
use Rattle.show.specs.Shown.{octets_in}
use Rattle.cache_rules.specs.declared.Told.{Told}
use Rattle.cache_rules.specs.Place.{says_at}
use Rattle.cache_rules.proofs.PlaceLaws.{said_kind}
use Rattle.cache_rules.specs.Cache.{place_in, is_cache, told, not_held, ask_of}
use Rattle.cache_rules.proofs.AskLaws.{told_same}
use Rattle.cache_rules.specs.Numbers.{asked_number}
use Rattle.cache_rules.proofs.NumberLaws.{asked_number_lem}
use Rattle.cache_ask.specs.declared.Sought.{Sought}
use Rattle.cache_ask.specs.declared.Sought.TheVariants.{At, NotHeld, Refused}
use Rattle.cache_ask.specs.Found.{ask_found, told_in}
use Rattle.desk_c.specs.Caches.{found_number, slip_span, found_span}
use Rattle.desk_c.specs.FindLaws.{find_room, find_here, find_number, find_short}
use Rattle.desk_c.specs.ToldLaws.{find_told, find_said, find_slip}

module _ (clock : Clock) (c s : List ℕ) where
  -- where the number is not 0, the part is empty
  pub ask_nothing : (found_number (ask_found clock c s) ≡ 0 → ⊥) → found_span s (ask_found clock c s) ≡ empty_span
  unfolding found_number found_span
  ask_nothing = go (ask_found clock c s)
    where
      go : (f : Sought) → (found_number f ≡ 0 → ⊥) → found_span s f ≡ empty_span
      go (At i) h = absurd (h refl)
      go NotHeld h = refl
      go (Refused n) h = refl

  -- the part lies in the cache
  pub ask_inside : (found_span s (ask_found clock c s)).start + (found_span s (ask_found clock c s)).len ≤ length s
  unfolding found_span slip_span
  ask_inside = go (ask_found clock c s) refl
    where
      go : (f : Sought) → ask_found clock c s ≡ f → (found_span s f).start + (found_span s f).len ≤ length s
      go (At i) e = find_room clock c s i e
      go NotHeld e = omega arith
      go (Refused n) e = omega arith

  -- a card has 61 octets: with others 19 where the buffer is no cache, else 1
  pub ask_other_length : (length c ≡ 61 → ⊥) → found_number (ask_found clock c s) ≡ cond (is_cache s) 1 19
  unfolding found_number
  ask_other_length h = ap found_number (find_short clock c s h) ∙ go (is_cache s)
    where
      go : (b : Bool) → found_number (cond b (Refused 1) (Refused 19)) ≡ cond b 1 19
      go true = refl
      go false = refl

  -- ── 61 octets: as asking for their card ──
  module _ (o : Octets s) (p : Octets c) (l : length c ≡ 61) where
    abbrev asked : Told
    asked = ask_of clock (card_in 20 c) s

    module _ (P : Type 0)
        (at : (i : ℕ) → ask_found clock c s ≡ At i → asked ≡ told (says_at (place_in s i)) → found_number (ask_found clock c s) ≡ 0 → P)
        (none : asked ≡ not_held → found_number (ask_found clock c s) ≡ 256 → P)
        (no : (n : ℕ) → asked ≡ told (refused n 0) → found_number (ask_found clock c s) ≡ n → (n ≡ 0 → ⊥) → n < 256 → P) where
      three : P
      unfolding told_in found_number
      three = go (ask_found clock c s) refl
        where
          go : (f : Sought) → ask_found clock c s ≡ f → P
          go (At i) e = at i e (sym (find_told clock c s o p l) ∙ ap (told_in s) e ∙ find_here clock c s i e) (ap found_number e)
          go NotHeld e = none (sym (find_told clock c s o p l) ∙ ap (told_in s) e) (ap found_number e)
          go (Refused n) e =
              let r = find_number clock c s n e in
              no n (sym (find_told clock c s o p l) ∙ ap (told_in s) e) (ap found_number e) r.0 r.1

    -- the number is that of what asking gives
    pub ask_number : found_number (ask_found clock c s) ≡ asked_number asked.asked
    ask_number =
        let exactly = asked_number_lem clock (card_in 20 c) s o in
        three (found_number (ask_found clock c s) ≡ asked_number asked.asked)
        (λ i q t z. z ∙ sym (exactly.1.1 (says_at (place_in s i), said_kind (says_at (place_in s i)) (find_said clock c s o p l i q), t)))
        (λ t z. z ∙ sym (exactly.0.1 t))
        (λ n t z nz b. z ∙ sym ((exactly.2 n (omega (arith, nz)) b).1 t))

    -- 256 exactly if it is not held; 0 exactly if asking gives an answer; another number exactly if asking gives that refusal
    pub ask_exactly : (found_number (ask_found clock c s) ≡ 256 ↔ asked ≡ not_held)
        × (found_number (ask_found clock c s) ≡ 0 ↔ (a : Answer) × (kind_of a.verdict < 4) × (asked ≡ told a))
        × ((n : ℕ) → 0 < n → n < 256 → found_number (ask_found clock c s) ≡ n ↔ asked ≡ told (refused n 0))
    ask_exactly = rw ask_number (asked_number_lem clock (card_in 20 c) s o)

    -- with an answer, the octets at its place are its slip
    pub ask_slip : (a : Answer) → kind_of a.verdict < 4 → asked ≡ told a → octets_in s (found_span s (ask_found clock c s)) ≡ slip_of a
    unfolding found_span slip_span slip_of
    ask_slip a k e =
        let zero : found_number (ask_found clock c s) ≡ 0 = ask_exactly.1.1 (a, k, e) in
        three (octets_in s (found_span s (ask_found clock c s)) ≡ slip_of a)
        (λ i q t z.
        ap (λ (f : Sought). octets_in s (found_span s f)) q ∙ find_slip clock c s o p l i q ∙ ap slip_of (told_same (says_at (place_in s i)) a (sym t ∙ e)))
        (λ t z. absurd (omega (arith, zero, z)))
        (λ n t z nz b. absurd (nz (sym z ∙ zero)))
