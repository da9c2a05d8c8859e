-- Faults of small lists, computed: one for each rule of C-16.
-- Assumes nothing.
use Rattle.std.specs.Prelude.{ℕ, ◌≡◌, refl, Bool, true, List, [], ◌∷◌, eqb, length}
use Rattle.faults.specs.Description.{leaf, around, free, Line, nothing, then, several, distinct}
use Rattle.faults.specs.Faults.{line_faults}
use Rattle.faults.specs.Opened.{opened}

abbrev any_content : List ℕ → Bool
any_content c = true

abbrev one_octet : List ℕ → Bool
one_octet c = eqb (length c) 1

-- a sequence of a string and a number of one octet
abbrev pair_line : Line
pair_line = then (around 0x30 (then (leaf 0x04 any_content) (then (leaf 0x02 one_octet) nothing))) nothing

fits : line_faults pair_line (0x30 ∷ 5 ∷ 4 ∷ 0 ∷ 2 ∷ 1 ∷ 7 ∷ []) ≡ []
unfolding opened
fits = refl

-- none ends the list: another tag, a wrong content, and an octet left over
three : line_faults pair_line (0x30 ∷ 7 ∷ 5 ∷ 0 ∷ 2 ∷ 2 ∷ 7 ∷ 8 ∷ 0 ∷ []) ≡ 2 ∷ 4 ∷ 8 ∷ []
unfolding opened
three = refl

-- one inside, and one left over after the sequence
inside_after : line_faults pair_line (0x30 ∷ 4 ∷ 4 ∷ 0 ∷ 2 ∷ 0 ∷ 9 ∷ []) ≡ 4 ∷ 6 ∷ []
unfolding opened
inside_after = refl

-- a cut-off header and a missing element: the end of what holds it, not of the list
cut_off : line_faults pair_line (0x30 ∷ 3 ∷ 4 ∷ 0 ∷ 2 ∷ []) ≡ 5 ∷ []
unfolding opened
cut_off = refl

missing : line_faults pair_line (0x30 ∷ 2 ∷ 4 ∷ 0 ∷ 0 ∷ 0 ∷ []) ≡ 4 ∷ 4 ∷ []
unfolding opened
missing = refl

-- overrunning what holds it: the element itself
overrun : line_faults pair_line (0x30 ∷ 4 ∷ 4 ∷ 0 ∷ 2 ∷ 1 ∷ 7 ∷ []) ≡ 4 ∷ 6 ∷ []
unfolding opened
overrun = refl

-- too many: the first one beyond, whatever it is; too few: the end
too_many : line_faults (several 1 2 (leaf 0x04 any_content)) (4 ∷ 0 ∷ 4 ∷ 0 ∷ 5 ∷ []) ≡ 4 ∷ []
unfolding opened
too_many = refl

too_few : line_faults (several 2 3 (leaf 0x04 any_content)) (4 ∷ 0 ∷ []) ≡ 2 ∷ []
unfolding opened
too_few = refl

-- a key a second time: the second one's tag; what follows the key is looked at too
repeated : line_faults (distinct 1 3 0x30 0x06 any_content nothing)
    (0x30 ∷ 3 ∷ 6 ∷ 1 ∷ 7 ∷ 0x30 ∷ 5 ∷ 6 ∷ 1 ∷ 7 ∷ 5 ∷ 0 ∷ []) ≡ 7 ∷ 10 ∷ []
unfolding opened
repeated = refl

-- an element of another shape has no key
no_key : line_faults (distinct 1 3 0x30 0x06 any_content nothing) (0x30 ∷ 3 ∷ 5 ∷ 1 ∷ 7 ∷ 0x30 ∷ 3 ∷ 6 ∷ 1 ∷ 7 ∷ []) ≡ 2 ∷ []
unfolding opened
no_key = refl

-- too deep: each element beyond
too_deep : line_faults (then (free 1) nothing) (0x30 ∷ 5 ∷ 4 ∷ 0 ∷ 4 ∷ 1 ∷ 7 ∷ []) ≡ 2 ∷ 4 ∷ []
unfolding opened
too_deep = refl
