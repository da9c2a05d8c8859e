-- Laws of a short header, by the answer that code has of it: its two octets are there, and are the tag and the length.
-- short_first, short_second, short_found. The definition is in Header.
-- Assumes nothing.
use Rattle.std.specs.Prelude.{ℕ, ◌-◌, ◌≤◌, ◌<◌, ◌≡◌, refl, Bool, true, false, ◌&&◌, List, leb, length, get_or, Ok}
use Rattle.std.proofs.Common.{arith, sym, ◌∙◌, leb-true}
use Rattle.octets.specs.SameLaws.{impossible}
use Rattle.element.specs.Tag.{tag_ok}
use Rattle.element.specs.Header.{header_of, is_short}
use Rattle.element.specs.HeaderLaws.{header_one}
use Rattle.element.specs.Places.{header}

-- where both answers are yes
both : (a b : Bool) → a && b ≡ true → (a ≡ true) × (b ≡ true)
both true b e = (refl, e)
both false b e = impossible e

-- what the four tests say
parts : (s : List ℕ) → is_short s ≡ true → (2 ≤ length s) × (get_or s 1 0 ≤ 127) × (get_or s 1 0 ≤ length s - 2) × (tag_ok (get_or s 0 0) ≡ true)
unfolding is_short
parts s e =
    let (h, f) = both (leb 2 (length s)) _ e in
    let (k, g) = both (leb (get_or s 1 0) 127) _ f in
    let (l, m) = both (leb (get_or s 1 0) (length s - 2)) _ g in
    (leb-true _ _ h, leb-true _ _ k, leb-true _ _ l, m)

-- the two octets are there, and are the header
module _ (s : List ℕ) (b : Bool) (q : b ≡ is_short s) (y : b ≡ true) where
  pub short_first : 0 < length s
  short_first = omega (arith, (parts s (sym q ∙ y)).0)

  pub short_second : 1 < length s
  short_second = omega (arith, (parts s (sym q ∙ y)).0)

  pub short_found : Ok (header (get_or s 0 0) 2 (get_or s 1 0)) ≡ header_of s
  short_found = let (h, k, l, m) = parts s (sym q ∙ y) in sym (header_one s h (omega arith) l m)
