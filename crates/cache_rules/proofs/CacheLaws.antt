-- Laws of a cache: its length, that each place fits, and that no card stands in two of them.
-- fit_at, fit_from, fit_set; cache_exactly; room_length; place_at, place_octets, place_fit; cache_places.
-- The definitions are in Cache. Assumes nothing.
use Rattle.std.specs.Prelude.{ℕ, zero, suc, ◌*◌, ◌<◌, ◌↔◌, ◌≡◌, refl, true, false, cond, eqb, length, get_or, set, take, drop}
use Rattle.std.proofs.Common.{suc-le-suc, not-suc-le-zero, le_of_suc-le-suc, zero-lt-suc, eqb-true, eq-eqb}
use mathlib.Core.List.{List, [], ◌∷◌}
use Rattle.octets.specs.Octets.{Octets}
use Rattle.octets.specs.OctetsLaws.{octets_take, octets_drop}
use Rattle.slip.specs.RulesLaws.{both}
use Rattle.cache_room.proofs.PartsLaws.{parts_length, part_at}
use Rattle.cache_room.specs.Room.{cards_once}
use Rattle.cache_room.proofs.SingleLaws.{Single, single_true, single_from}
use Rattle.cache_rules.specs.Place.{width, places, card_at, place_ok}
use Rattle.cache_rules.specs.Cache.{room_of, place_in, all_fit, is_cache}

-- ---- every place

pub fit_at : (l : List (List ℕ)) (d : List ℕ) (i : ℕ) → all_fit l ≡ true → i < length l → place_ok (get_or l i d) ≡ true
unfolding all_fit
fit_at [] d i e b = absurd (not-suc-le-zero b)
fit_at (p ∷ l) d zero e b = (both (place_ok p) (all_fit l) e).0
fit_at (p ∷ l) d (suc i) e b = fit_at l d i (both (place_ok p) (all_fit l) e).1 (le_of_suc-le-suc b)

pub fit_from : (l : List (List ℕ)) (d : List ℕ) → ((i : ℕ) → i < length l → place_ok (get_or l i d) ≡ true) → all_fit l ≡ true
unfolding all_fit
fit_from [] d h = refl
fit_from (p ∷ l) d h = rw (h 0 (zero-lt-suc (length l))) (fit_from l d (λ i b. h (suc i) (suc-le-suc b)))

-- one more that fits
pub fit_set : (l : List (List ℕ)) (i : ℕ) (x : List ℕ) → all_fit l ≡ true → place_ok x ≡ true → all_fit (set l i x) ≡ true
unfolding all_fit
fit_set [] i x e h = refl
fit_set (p ∷ l) zero x e h = rw h (both (place_ok p) (all_fit l) e).1
fit_set (p ∷ l) (suc i) x e h =
    let q = both (place_ok p) (all_fit l) e in
    rw q.0 (fit_set l i x q.1 h)

-- ---- a cache

-- its length, that all places fit, and that no card is there twice
pub cache_exactly : (s : List ℕ) → is_cache s ≡ true ↔ (length s ≡ width * places) × (all_fit (room_of s) ≡ true) × Single card_at [] (room_of s)
unfolding is_cache
cache_exactly s = (
  λ e.
      let p = both (eqb (length s) (width * places)) (cond (all_fit (room_of s)) (cards_once card_at (room_of s)) false) e in
      let q = both (all_fit (room_of s)) (cards_once card_at (room_of s)) p.1 in
      (eqb-true (length s) (width * places) p.0, q.0, single_true card_at [] (room_of s) q.1),
  λ h. rw (eq-eqb (length s) (width * places) h.0, h.1) (single_from card_at [] (room_of s) h.2),
)

pub room_length : (s : List ℕ) → length (room_of s) ≡ places
unfolding room_of
room_length s = parts_length width places s

module _ (s : List ℕ) (i : ℕ) (b : i < places) where
  -- where a place stands
  pub place_at : place_in s i ≡ take width (drop (width * i) s)
  unfolding room_of
  place_at = part_at width places s [] i b

  pub place_octets : Octets s → Octets (place_in s i)
  place_octets o = rw place_at (octets_take width (drop (width * i) s) (octets_drop (width * i) s o))

  module _ (c : is_cache s ≡ true) where
    pub place_fit : place_ok (place_in s i) ≡ true
    place_fit = fit_at (room_of s) [] i ((cache_exactly s).0 c).1 (rw (room_length s) b)

-- in full: 5,568 octets, each place fits, and two places with one card are one place
pub cache_places : (s : List ℕ) → is_cache s ≡ true
    ↔ (length s ≡ 5568)
    × ((i : ℕ) → i < 64 → place_ok (place_in s i) ≡ true)
    × ((i j : ℕ) → i < 64 → j < 64 → card_at (place_in s i) ≡ card_at (place_in s j) → (card_at (place_in s i) ≡ [] → ⊥) → i ≡ j)
cache_places s =
    let l = room_length s in (
      λ e.
          let x = (cache_exactly s).0 e in
          (x.0, λ i b. place_fit s i b e, λ i j a b. x.2 i j (rw l a) (rw l b)),
      λ (a, b, c). (cache_exactly s).1 (a, fit_from (room_of s) [] (λ i h. b i (rw l at h)), λ i j p q. c i j (rw l at p) (rw l at q)),
    )
