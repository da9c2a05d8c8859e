-- Octets that stand at a place of a list, and a list cut into the fields of a signed part or of a basic
-- response: where each of them stands.
-- Stands, part_stands; Fields, first_stands, held_stands, last_stands; Pieces, one_stands, two_stands,
-- bits_stand, end_stands, content_fields.
-- The laws stand here, and what is made of them; the definitions in specs/Stands.
-- Assumes nothing.
use Rattle.std.specs.Prelude.{ℕ, ◌+◌, ◌-◌, ◌≡◌, refl, List, [], ◌∷◌, ◌++◌, length, take, drop}
use Rattle.std.proofs.Common.{arith, ap, ◌∙◌, append_assoc, append-nil, length-append, take_at, drop_at}
use Rattle.element.specs.Places.{span}
use Rattle.read_response.specs.Stands.{Fields, Pieces, Stands}

-- they are between what is before and what is after
pub part_stands : (s p x q : List ℕ) (start n : ℕ) → s ≡ p ++ (x ++ q) → length p ≡ start → length x ≡ n → Stands s (span start n) x
part_stands s p x q start n e i j = record {
  octets = ap (λ (l : List ℕ). take n (drop start l)) e ∙ ap (take n) (drop_at p (x ++ q) start i) ∙ take_at x q n j;
  inside = omega (arith, ap length e, length-append p (x ++ q), length-append x q);
}

module _ {s : List ℕ} {n : ℕ} {r t h e x : List ℕ} (c : Fields s n r t h e x) where
  pub first_stands : Stands s (span n (length r)) r
  first_stands =
      part_stands s c.before r ((t ++ ((h ++ e) ++ (x ++ []))) ++ c.after) n (length r)
      (c.same ∙ simp append_assoc) c.long refl

  pub held_stands : Stands s (span (n + (length r + length t) + (length (h ++ e) - length e)) (length e)) e
  held_stands =
      part_stands s (c.before ++ (r ++ (t ++ h))) e (x ++ c.after) _ (length e)
      (c.same ∙ simp (append_assoc, append-nil)) (simp length-append (omega (arith, c.long))) refl

  pub last_stands : Stands s (span (n + (length r + length t) + length (h ++ e)) (length x)) x
  last_stands =
      part_stands s (c.before ++ (r ++ (t ++ (h ++ e)))) x c.after _ (length x)
      (c.same ∙ simp (append_assoc, append-nil)) (simp length-append (omega (arith, c.long))) refl

module _ {s : List ℕ} {n : ℕ} {h d a k g c : List ℕ} (p : Pieces s n h d a k g c) where
  pub one_stands : Stands s (span n (length (h ++ d))) (h ++ d)
  one_stands = part_stands s p.before (h ++ d) (a ++ ((k ++ (0 ∷ g)) ++ (c ++ []))) n (length (h ++ d)) p.same p.long refl

  pub two_stands : Stands s (span (n + length (h ++ d)) (length a)) a
  two_stands =
      part_stands s (p.before ++ (h ++ d)) a ((k ++ (0 ∷ g)) ++ (c ++ [])) _ (length a)
      (p.same ∙ simp append_assoc) (simp length-append (omega (arith, p.long))) refl

  pub bits_stand : Stands s (span (n + (length (h ++ d) + (length a + length (k ++ (0 ∷ g)))) - length g) (length g)) g
  bits_stand =
      part_stands s (p.before ++ ((h ++ d) ++ (a ++ (k ++ (0 ∷ []))))) g (c ++ []) _ (length g)
      (p.same ∙ simp append_assoc) (simp length-append (omega (arith, p.long))) refl

  pub end_stands : Stands s (span (n + (length (h ++ d) + (length a + length (k ++ (0 ∷ g))))) (length c)) c
  end_stands =
      part_stands s (p.before ++ ((h ++ d) ++ (a ++ (k ++ (0 ∷ g))))) c [] _ (length c)
      (p.same ∙ simp append_assoc) (simp length-append (omega (arith, p.long))) refl

  -- what the first header holds, after some octets v, cut into its fields
  pub content_fields : (v r t j e x : List ℕ) → d ≡ v ++ (r ++ (t ++ ((j ++ e) ++ (x ++ []))))
      → Fields s (n + (length (h ++ d) - length (r ++ (t ++ ((j ++ e) ++ (x ++ [])))))) r t j e x
  content_fields v r t j e x f = record {
    before = p.before ++ (h ++ v);
    after = a ++ ((k ++ (0 ∷ g)) ++ (c ++ []));
    long = rw f (simp length-append (omega (arith, p.long)));
    same = p.same ∙ rw f (simp append_assoc);
  }
