-- Laws of a place that fits: it is empty, or says something about the card that it has.
-- empty_card_lem, held_card, held_slip, fits_either, full_said, full_times; empty_exactly, slip_exactly, place_exactly.
-- The definitions are in Place. Assumes nothing.
use Rattle.std.specs.Prelude.{ℕ, zero, suc, ◌-◌, ◌≤◌, ◌<◌, ◌⊎◌, ◌↔◌, ◌≡◌, Bool, drop}
use Rattle.std.proofs.Common.{arith, ◌∙◌, take-append-drop, lt-ltb}
use Rattle.std.proofs.Math.Logic.{inl, inr, ⊎_elim}
use Rattle.std.proofs.Math.Path.{refl, sym, ap}
use Rattle.std.proofs.Math.Bool.{true, false, cond}
use mathlib.Core.List.{List, [], ◌++◌}
use Rattle.std.proofs.Math.ListN.{length, replicate, length-append}
use Rattle.octets.specs.Octets.{Octets}
use Rattle.octets.specs.OctetsLaws.{octets_take}
use Rattle.answer.specs.declared.Answer.{Answer}
use Rattle.answer.specs.Card.{all_zero}
use Rattle.answer.specs.CardLaws.{zero_true}
use Rattle.answer.specs.Verdict.{kind_of, without_place}
use Rattle.slip.specs.RulesLaws.{both}
use Rattle.slip.specs.Table.{row_in, row_of}
use Rattle.slip.specs.Slip.{card_octets, slip_of, slip_ok}
use Rattle.slip.specs.SlipLaws.{read_written}
use Rattle.cache_rules.specs.Place.{width, kind_at, slip_in, card_at, says_at, is_said, place_ok, place_of, this_of, next_of, says_of, slip_size, WholeCard}
use Rattle.cache_rules.proofs.PlaceLaws.{read_sized, said_kind, slip_back, slip_size_lem, slip_most, kind_there, card_there, said_times, place_fits, card_some}

-- zeros have no card
zero_card : (n : ℕ) → card_at (replicate n 0) ≡ []
unfolding card_at row_of row_in
zero_card zero = refl
zero_card (suc n) = refl

pub empty_card_lem : (p : List ℕ) → all_zero p ≡ true → card_at p ≡ []
empty_card_lem p e = ap card_at (zero_true p e) ∙ zero_card (length p)

module _ (p : List ℕ) (o : Octets p) where
  -- where its slip is said, its card is that of what it says
  pub held_card : is_said (says_at p) ≡ true → card_at p ≡ card_octets (says_at p).card
  unfolding says_at slip_in
  held_card h =
      ap card_at (sym (take-append-drop (slip_size (kind_at p)) p))
      ∙ card_there (slip_in p) (octets_take (slip_size (kind_at p)) p o) h (drop (slip_size (kind_at p)) p)

  -- the slip in it is that of what it says, and ends inside it
  pub held_slip : is_said (says_at p) ≡ true → (slip_of (says_at p) ≡ slip_in p) × (slip_size (kind_at p) ≤ width)
  unfolding says_at slip_in
  held_slip h =
      let t : Octets (slip_in p) = octets_take (slip_size (kind_at p)) p o in
      let k : kind_at p ≡ kind_at (slip_in p) =
      ap kind_at (sym (take-append-drop (slip_size (kind_at p)) p)) ∙ kind_there (slip_in p) t h (drop (slip_size (kind_at p)) p) in
      ((slip_back (slip_in p) t h).1, rw (k, ← slip_size_lem (slip_in p) t h) (slip_most (slip_in p) t h))

  -- it is empty, or says something
  pub fits_either : place_ok p ≡ true → (card_at p ≡ []) ⊎ (is_said (says_at p) ≡ true)
  unfolding place_ok
  fits_either e = go (all_zero p) refl e
    where
      go : (b : Bool) → all_zero p ≡ b → cond b true (cond (is_said (says_at p)) (all_zero (drop (slip_size (kind_at p)) p)) false) ≡ true
          → (card_at p ≡ []) ⊎ (is_said (says_at p) ≡ true)
      go true q e = inl (empty_card_lem p q)
      go false q e = inr (both (is_said (says_at p)) (all_zero (drop (slip_size (kind_at p)) p)) e).0

  -- with a card, it says something about that card, whose times are in order
  module _ (e : place_ok p ≡ true) (n : card_at p ≡ [] → ⊥) where
    pub full_said : is_said (says_at p) ≡ true
    full_said = go (fits_either e)
      where
        go : (card_at p ≡ []) ⊎ (is_said (says_at p) ≡ true) → is_said (says_at p) ≡ true
        go (inl z) = absurd (n z)
        go (inr z) = z

    pub full_times : this_of (says_at p).verdict ≤ next_of (says_at p).verdict
    unfolding says_at slip_in
    full_times = said_times (slip_in p) (octets_take (slip_size (kind_at p)) p o) full_said

-- ---- exactly which places fit

-- octets are a slip of kind 01 to 03 exactly if they are that of a good, revoked or unknown answer that keeps the slip
-- rules
pub slip_exactly : (t : List ℕ) → Octets t
    → is_said (says_of t) ≡ true ↔ (a : Answer) × (kind_of a.verdict < 4) × (slip_ok a ≡ true) × WholeCard a.card × (slip_of a ≡ t)
unfolding is_said
slip_exactly t o = (
  λ h. (says_of t, said_kind (says_of t) h, (slip_back t o h).0, read_sized t, (slip_back t o h).1),
  λ (a, k, ok, w, e).
      let r : says_of t ≡ without_place a = ap says_of (sym e) ∙ read_written a ok 20 (λ c. w) in
      rw r (lt-ltb (kind_of a.verdict) 4 k),
)

module _ (p : List ℕ) (o : Octets p) where
  -- one that fits and is not zeros is a slip and then zeros
  full : all_zero p ≡ false → place_ok p ≡ true → is_said (says_at p) ≡ true
  unfolding place_ok
  full q e = (both (is_said (says_at p)) (all_zero (drop (slip_size (kind_at p)) p)) (rw q at e)).0

  tail : all_zero p ≡ false → place_ok p ≡ true → all_zero (drop (slip_size (kind_at p)) p) ≡ true
  unfolding place_ok
  tail q e = (both (is_said (says_at p)) (all_zero (drop (slip_size (kind_at p)) p)) (rw q at e)).1

  -- one that fits is empty exactly if it has no card
  pub empty_exactly : place_ok p ≡ true → card_at p ≡ [] ↔ all_zero p ≡ true
  unfolding says_at
  empty_exactly e = (λ z. go z (all_zero p) refl, empty_card_lem p)
    where
      go : card_at p ≡ [] → (b : Bool) → all_zero p ≡ b → all_zero p ≡ true
      go z true q = q
      go z false q = absurd (card_some (slip_in p) (sym (held_card p o (full q e)) ∙ z))

  -- it is zeros, or a slip of kind 01 to 03 and then zeros
  pub place_exactly : length p ≡ width
      → place_ok p ≡ true ↔ (all_zero p ≡ true) ⊎ ((t : List ℕ) × Octets t × (is_said (says_of t) ≡ true) × (p ≡ place_of t))
  unfolding says_at slip_in place_ok place_of
  place_exactly l = (λ e. go (all_zero p) refl e, ⊎_elim (λ z. rw z) (λ (t, q, h, e). rw e (place_fits t q h)))
    where
      go : (b : Bool) → all_zero p ≡ b → place_ok p ≡ true
          → (all_zero p ≡ true) ⊎ ((t : List ℕ) × Octets t × (is_said (says_of t) ≡ true) × (p ≡ place_of t))
      go true q e = inl q
      go false q e =
          let t : Octets (slip_in p) = octets_take (slip_size (kind_at p)) p o in
          let h = full q e in
          let g : length (drop (slip_size (kind_at p)) p) ≡ width - length (slip_in p) =
          omega (arith, length-append (slip_in p) (drop (slip_size (kind_at p)) p), ap length (take-append-drop (slip_size (kind_at p)) p)) in
          inr (
            slip_in p,
            t,
            h,
            sym (take-append-drop (slip_size (kind_at p)) p)
                ∙ ap (λ (x : List ℕ). slip_in p ++ x) (zero_true (drop (slip_size (kind_at p)) p) (tail q e) ∙ ap (λ (n : ℕ). replicate n 0) g),
          )
