-- The cases of a header that was read: it is refused, or has another tag, or this one; and of one that is short.
-- header_refused, header_other, header_same, all in header_cases; short_same.
-- Assumes nothing.
use Rattle.std.specs.Prelude.{ℕ, ◌≡◌, refl, Bool, true, List, get_or, Ok, Err}
use borrow.Author.Tests.{eq-eqb, ne_eqb}
use Rattle.element.specs.Header.{header_of, is_short}
use Rattle.element.specs.ShortLaws.{short_found}
use Rattle.element.specs.Places.{HeaderRead, header, misfit, span}
use Rattle.element.specs.declared.Header.{Header}
use Rattle.element.specs.declared.Misfit.{Misfit}
use Rattle.read_content.specs.Spots.{expected}

module _ (t : ℕ) (s : List ℕ) (r : HeaderRead) (q : r ≡ header_of s) where
  pub header_refused : (p : Misfit) → r ≡ Err p → Err p ≡ expected t (header_of s)
  unfolding expected
  header_refused p f = rw (← q, f)

  module _ (h : Header) (f : r ≡ Ok h) where
    pub header_other : (h.tag ≡ t → ⊥) → Err (misfit 0) ≡ expected t (header_of s)
    unfolding expected
    header_other o = rw (← q, f, ne_eqb h.tag t o)

    pub header_same : h.tag ≡ t → Ok (span h.start h.len) ≡ expected t (header_of s)
    unfolding expected
    header_same o = rw (← q, f, eq-eqb h.tag t o)

pub ruleset header_cases = (header_refused, header_other, header_same)

pub short_same : (t : ℕ) (s : List ℕ) (b : Bool) → b ≡ is_short s → b ≡ true → get_or s 0 0 ≡ t → Ok (span 2 (get_or s 1 0)) ≡ expected t (header_of s)
short_same t s b q y o = header_same t s _ (short_found s b q y) (header (get_or s 0 0) 2 (get_or s 1 0)) refl o
