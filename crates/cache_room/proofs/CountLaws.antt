-- Laws of the count: a filing leaves it, or adds one where it takes an empty place.
-- count_more, count_same.
-- The definitions are in Room. Assumes nothing.
use Prim.Native.Nat.{ℕ, zero, suc, ◌<◌}
use Rattle.std.proofs.Common.{not-suc-le-zero, le_of_suc-le-suc}
use Rattle.std.specs.Prelude.{◌≡◌, Bool, length, get_or, set}
use Rattle.std.proofs.Math.Path.{refl, ap}
use Rattle.std.proofs.Math.Bool.{true, false, cond}
use mathlib.Core.List.{List, [], ◌∷◌}
use Rattle.cache_room.specs.Room.{is_empty, count}

module _ {A : Type 0} (card : A → List ℕ) where
  module _ (d x : A) (n : is_empty card x ≡ false) where
    -- an empty place that is filled counts one more
    pub count_more : (l : List A) (i : ℕ) → i < length l → is_empty card (get_or l i d) ≡ true → count card (set l i x) ≡ suc (count card l)
    unfolding count
    count_more [] i b e = absurd (not-suc-le-zero b)
    count_more (y ∷ l) zero b e = rw (n, e)
    count_more (y ∷ l) (suc i) b e = go (is_empty card y) (count_more l i (le_of_suc-le-suc b) e)
      where
        go : (t : Bool) → count card (set l i x) ≡ suc (count card l)
            → cond t (count card (set l i x)) (suc (count card (set l i x))) ≡ suc (cond t (count card l) (suc (count card l)))
        go true h = h
        go false h = ap suc h

    -- another place that is written leaves the count
    pub count_same : (l : List A) (i : ℕ) → is_empty card (get_or l i d) ≡ false → count card (set l i x) ≡ count card l
    unfolding count
    count_same [] i e = refl
    count_same (y ∷ l) zero e = rw (n, e)
    count_same (y ∷ l) (suc i) e = rw (count_same l i e)
