-- Which headers are cut off: a refused header is at fault at the end of what holds it where it is, and
-- else at its tag.
-- more_of, cut_off. That a refused header's place is that one is in HeadLaws.
-- Assumes nothing.
use Rattle.std.specs.Prelude.{ℕ, ◌-◌, Bool, true, false, cond, List, [], ◌∷◌, ltb, length}
use Rattle.element.specs.Tag.{tag_ok}

-- how many more length octets the first one announces
unfoldable pub more_of : ℕ → ℕ
more_of b = cond (ltb b 128) 0 (cond (ltb 136 b) 0 (b - 128))

-- the octets end before the header does: there is none, or after a tag that fits there is no length
-- octet, or there are fewer than were announced
unfoldable pub cut_off : List ℕ → Bool
cut_off [] = true
cut_off (t ∷ []) = tag_ok t
cut_off (t ∷ b ∷ s) = cond (tag_ok t) (ltb (length s) (more_of b)) false
