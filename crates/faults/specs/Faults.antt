-- Every place where an element itself does not fit its description, from left to right. A fault ends
-- nothing: what follows the element is found by its header, and looked at too. Only where a header is
-- refused is it unknown where the next element starts, and the rest of that row is left. An element
-- that holds a fault is none itself; what an element with another tag holds is not looked at.
-- shift, unless, content_at, rest_at; the places of each kind of element and row; item_faults, line_faults.
-- That they ascend is in AscendLaws, that a reading gives the first in PlacedLaws, and where a refused
-- header is at fault in Head.
-- Assumes nothing.
use Rattle.std.specs.Prelude.{ℕ, zero, suc, ◌+◌, ◌-◌, Bool, true, false, cond, List, [], ◌∷◌, ◌++◌, eqb, length, take, drop, Ok, Err}
use Rattle.element.specs.Header.{header_of}
use Rattle.element.specs.Places.{HeaderRead}
use Rattle.codec.specs.Starts.{starts_with}
use Rattle.codec.specs.Keys.{new_test}
use Rattle.codec.specs.Tree.{constructed}
use Rattle.faults.specs.Description.{Item, leaf, around, either, free, free_with, Line, nothing, then, perhaps, one_or_none, several, distinct, depending}

-- the same places, n octets further on
abbrev pub shift : ℕ → List ℕ → List ℕ
shift n [] = []
shift n (p ∷ l) = (n + p) ∷ shift n l

-- a fault at the head, unless a test passes
abbrev pub unless : Bool → List ℕ
unless true = []
unless false = 0 ∷ []

-- the content of the element at the head
abbrev pub content_in : List ℕ → HeaderRead → List ℕ
content_in s (Ok h) = take h.len (drop h.start s)
content_in s (Err p) = []

unfoldable pub content_at : List ℕ → List ℕ
content_at s = content_in s (header_of s)

-- what follows it
abbrev pub rest_in : List ℕ → HeaderRead → List ℕ
rest_in s (Ok h) = drop (h.start + h.len) s
rest_in s (Err p) = []

unfoldable pub rest_at : List ℕ → List ℕ
rest_at s = rest_in s (header_of s)

-- ── in a row ──
-- the faults of what follows the element at the head
abbrev pub after_in : (List ℕ → List ℕ) → List ℕ → HeaderRead → List ℕ
after_in g s (Ok h) = shift (h.start + h.len) (g (drop (h.start + h.len) s))
after_in g s (Err p) = []

-- those of the element at the head, then those of what follows it
unfoldable pub then_faults : (List ℕ → List ℕ) → (List ℕ → List ℕ) → List ℕ → List ℕ
then_faults f g s = f s ++ after_in g s (header_of s)

-- left over: the first octet
unfoldable pub end_faults : List ℕ → List ℕ
end_faults [] = []
end_faults (x ∷ s) = 0 ∷ []

-- an element where this tag stands, then a row
unfoldable pub perhaps_faults : ℕ → (List ℕ → List ℕ) → (List ℕ → List ℕ) → List ℕ → List ℕ
perhaps_faults t f g s = cond (starts_with t s) (then_faults f g s) (g s)

-- nothing, or one element
unfoldable pub one_faults : (List ℕ → List ℕ) → List ℕ → List ℕ
one_faults f [] = []
one_faults f (x ∷ s) = then_faults f end_faults (x ∷ s)

-- at least lo and at most k: too few at the end, too many at the first one beyond
unfoldable pub several_faults : (List ℕ → List ℕ) → ℕ → ℕ → List ℕ → List ℕ
several_faults f lo zero [] = unless (eqb lo 0)
several_faults f lo zero (x ∷ s) = 0 ∷ []
several_faults f lo (suc k) [] = unless (eqb lo 0)
several_faults f lo (suc k) (x ∷ s) = then_faults f (several_faults f (lo - 1) k) (x ∷ s)

-- any number: there are no more elements than octets
unfoldable pub any_faults : (List ℕ → List ℕ) → List ℕ → List ℕ
any_faults f s = several_faults f 0 (length s) s

-- the key of the element at the head: with tag t around an element with tag u it is the content of that
-- one, also where it does not fit; any other element has none
unfoldable pub keys_at : ℕ → ℕ → List ℕ → List (List ℕ)
keys_at t u s = cond (starts_with t s) (cond (starts_with u (content_at s)) (content_at (content_at s) ∷ []) []) []

-- at least lo and at most k, where the faults of an element depend on the keys before it
unfoldable pub distinct_faults : (List ℕ → List (List ℕ)) → (List (List ℕ) → List ℕ → List ℕ) → List (List ℕ) → ℕ → ℕ → List ℕ → List ℕ
distinct_faults keys f seen lo zero [] = unless (eqb lo 0)
distinct_faults keys f seen lo zero (x ∷ s) = 0 ∷ []
distinct_faults keys f seen lo (suc k) [] = unless (eqb lo 0)
distinct_faults keys f seen lo (suc k) (x ∷ s) =
    then_faults (f seen) (distinct_faults keys f (keys (x ∷ s) ++ seen) (lo - 1) k) (x ∷ s)

-- ── of one element ──
-- by its header: what f makes of the header's size and the content where the tag is the one wanted
abbrev pub tagged_in : ℕ → (ℕ → List ℕ → List ℕ) → List ℕ → HeaderRead → List ℕ
tagged_in u f s (Ok h) = cond (eqb h.tag u) (f h.start (take h.len (drop h.start s))) (0 ∷ [])
tagged_in u f s (Err p) = p.place ∷ []

unfoldable pub leaf_faults : ℕ → (List ℕ → Bool) → List ℕ → List ℕ
leaf_faults u test s = tagged_in u (λ h c. unless (test c)) s (header_of s)

unfoldable pub around_faults : ℕ → (List ℕ → List ℕ) → List ℕ → List ℕ
around_faults u g s = tagged_in u (λ h c. shift h (g c)) s (header_of s)

-- any element, at most d deep; one beyond is at fault at its first octet, whatever it is
abbrev pub free_in : (List ℕ → List ℕ) → List ℕ → HeaderRead → List ℕ
free_in f s (Ok h) = cond (constructed h.tag) (shift h.start (any_faults f (take h.len (drop h.start s)))) []
free_in f s (Err p) = p.place ∷ []

unfoldable pub free_faults : ℕ → List ℕ → List ℕ
free_faults zero s = 0 ∷ []
free_faults (suc d) s = free_in (free_faults d) s (header_of s)

unfoldable pub free_with_faults : ℕ → ℕ → List ℕ → List ℕ
free_with_faults u d s = tagged_in u (λ h c. free_faults d s) s (header_of s)

-- an element with a tag around a key that is none of those seen, and a row after it
abbrev pub keyed_faults : ℕ → ℕ → (List ℕ → Bool) → (List ℕ → List ℕ) → List (List ℕ) → List ℕ → List ℕ
keyed_faults t u test g seen = around_faults t (then_faults (leaf_faults u (new_test test seen)) g)

-- ── of a layout ──
unfoldable mutual
  pub item_faults : Item → List ℕ → List ℕ
  item_faults (leaf t test) s = leaf_faults t test s
  item_faults (around t l) s = around_faults t (λ c. line_faults l c) s
  item_faults (either t i j) s = cond (starts_with t s) (item_faults i s) (item_faults j s)
  item_faults (free d) s = free_faults d s
  item_faults (free_with t d) s = free_with_faults t d s

  pub line_faults : Line → List ℕ → List ℕ
  line_faults nothing s = end_faults s
  line_faults (then i l) s = then_faults (λ r. item_faults i r) (λ r. line_faults l r) s
  line_faults (perhaps t i l) s = perhaps_faults t (λ r. item_faults i r) (λ r. line_faults l r) s
  line_faults (one_or_none i) s = one_faults (λ r. item_faults i r) s
  line_faults (several lo hi i) s = several_faults (λ r. item_faults i r) lo hi s
  line_faults (distinct lo hi t u test l) s = distinct_faults (keys_at t u) (keyed_faults t u test (λ r. line_faults l r)) [] lo hi s
  line_faults (depending i test l m) s =
      then_faults (λ r. item_faults i r) (λ r. cond (test (content_at s)) (line_faults l r) (line_faults m r)) s
