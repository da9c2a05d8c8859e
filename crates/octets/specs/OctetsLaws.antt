-- Laws of lists of octets: joined, cut, and read at a place.
-- octets_append, octets_left, octets_right, octets_take, octets_drop, octets_at, octets_from.
-- The definition is in Octets. Assumes nothing.
use Rattle.std.specs.Prelude.{ℕ, zero, suc, ◌<◌, List, [], ◌∷◌, ◌++◌, length, get_or, take, drop}
use Rattle.std.proofs.Common.{suc-le-suc, zero-lt-suc, lit<}
use Rattle.octets.specs.Octets.{Octets}

-- two lists of octets, joined
pub octets_append : (s t : List ℕ) → Octets s → Octets t → Octets (s ++ t)
octets_append [] t p q = q
octets_append (x ∷ s) t p q = (p.0, octets_append s t p.1 q)

-- the first of two that are joined
pub octets_left : (s t : List ℕ) → Octets (s ++ t) → Octets s
octets_left [] t p = tt
octets_left (x ∷ s) t p = (p.0, octets_left s t p.1)

-- the second of two that are joined
pub octets_right : (s t : List ℕ) → Octets (s ++ t) → Octets t
octets_right [] t p = p
octets_right (x ∷ s) t p = octets_right s t p.1

-- the first n
pub octets_take : (n : ℕ) (s : List ℕ) → Octets s → Octets (take n s)
octets_take zero s p = tt
octets_take (suc n) [] p = tt
octets_take (suc n) (x ∷ s) p = (p.0, octets_take n s p.1)

-- what follows the first n
pub octets_drop : (n : ℕ) (s : List ℕ) → Octets s → Octets (drop n s)
octets_drop zero s p = p
octets_drop (suc n) [] p = tt
octets_drop (suc n) (x ∷ s) p = octets_drop n s p.1

-- at any index, since past the end stands 0
pub octets_at : (s : List ℕ) → Octets s → (i : ℕ) → get_or s i 0 < 256
octets_at [] p i = lit< tt
octets_at (x ∷ s) p zero = p.0
octets_at (x ∷ s) p (suc i) = octets_at s p.1 i

-- a list is one of octets where each of its elements is below 256
pub octets_from : (s : List ℕ) → ((i : ℕ) → i < length s → get_or s i 0 < 256) → Octets s
octets_from [] h = tt
octets_from (x ∷ s) h = (h zero (zero-lt-suc (length s)), octets_from s (λ i l. h (suc i) (suc-le-suc l)))
