-- Octets that stand at a place of a list, and a list cut into the fields of a signed part or of a basic
-- response: where each of them stands.
-- Stands, part_stands; Fields, first_stands, held_stands, last_stands; Pieces, one_stands, two_stands,
-- bits_stand, end_stands, content_fields.
-- The definitions stand here; the laws, and what is made of them, in proofs/Stands.
-- Assumes nothing.
use Rattle.std.specs.Prelude.{ℕ, ◌+◌, ◌≤◌, ◌≡◌, List, [], ◌∷◌, ◌++◌, length, take, drop}
use Rattle.element.specs.declared.Span.{Span}

-- these octets are at that place of the list, and end inside it
pub record Stands (s : List ℕ) (at : Span) (x : List ℕ) : Type 0 where
  pub octets : take at.len (drop at.start s) ≡ x
  pub inside : at.start + at.len ≤ length s

-- ── two fields, a header and what it holds, and a last field, from a place on ──
pub record Fields (s : List ℕ) (n : ℕ) (r t h e x : List ℕ) : Type 0 where
  pub before : List ℕ
  pub after : List ℕ
  pub long : length before ≡ n
  pub same : s ≡ before ++ ((r ++ (t ++ ((h ++ e) ++ (x ++ [])))) ++ after)

-- ── a header and what it holds, a second piece, a header with 00 and octets, and a last piece, from a
-- place to the end ──
pub record Pieces (s : List ℕ) (n : ℕ) (h d a k g c : List ℕ) : Type 0 where
  pub before : List ℕ
  pub long : length before ≡ n
  pub same : s ≡ before ++ ((h ++ d) ++ (a ++ ((k ++ (0 ∷ g)) ++ (c ++ []))))
