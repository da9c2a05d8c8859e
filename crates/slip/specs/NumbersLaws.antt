-- Laws of numbers one after the other: writing and reading give back each other.
-- Fitting, fitting_count; numbers_count, numbers_length, numbers_read, numbers_written.
-- The definitions are in Numbers. Assumes nothing.
use Rattle.std.specs.Prelude.{ℕ, suc, ◌+◌, ◌^◌, ◌<◌, ◌≡◌, refl, List, [], ◌∷◌, ◌++◌, length, take, drop}
use Rattle.std.proofs.Common.{arith, sym, ap, ap₂, ◌∙◌, append_assoc, length-append, length-drop, take-append-drop, take_at, drop_at, length-take-le}
use Rattle.octets.specs.Octets.{Octets}
use Rattle.octets.specs.OctetsLaws.{octets_take, octets_drop}
use Rattle.octets.specs.Number.{value_of, octets_of}
use Rattle.octets.specs.NumberLaws.{octets_length, octets_value, value_octets}
use Rattle.slip.specs.Numbers.{total, numbers_form, numbers_in}

-- a number for each width, and its width holds it
abbrev pub Fitting : List ℕ → List ℕ → Type 0
Fitting [] [] = Unit {0}
Fitting [] (v ∷ vs) = ⊥
Fitting (w ∷ ws) [] = ⊥
Fitting (w ∷ ws) (v ∷ vs) = (v < 256 ^ w) × Fitting ws vs

pub fitting_count : (ws vs : List ℕ) → Fitting ws vs → length vs ≡ length ws
fitting_count [] [] h = refl
fitting_count [] (v ∷ vs) h = absurd h
fitting_count (w ∷ ws) [] h = absurd h
fitting_count (w ∷ ws) (v ∷ vs) h = ap suc (fitting_count ws vs h.1)

-- as many numbers as widths
pub numbers_count : (ws s : List ℕ) → length (numbers_in ws s) ≡ length ws
unfolding numbers_in
numbers_count [] s = refl
numbers_count (w ∷ ws) s = ap suc (numbers_count ws (drop w s))

-- as many octets as the widths take
pub numbers_length : (ws vs : List ℕ) → length vs ≡ length ws → length (numbers_form ws vs) ≡ total ws
unfolding numbers_form total
numbers_length [] vs e = refl
numbers_length (w ∷ ws) [] e = absurd (omega arith)
numbers_length (w ∷ ws) (v ∷ vs) e =
    length-append (octets_of w v) (numbers_form ws vs) ∙ ap₂ (λ (a b : ℕ). a + b) (octets_length w v) (numbers_length ws vs (omega arith))

-- numbers that were written are read, whatever follows them
pub numbers_read : (ws vs t : List ℕ) → Fitting ws vs → numbers_in ws (numbers_form ws vs ++ t) ≡ vs
unfolding numbers_form numbers_in
numbers_read [] [] t h = refl
numbers_read [] (v ∷ vs) t h = absurd h
numbers_read (w ∷ ws) [] t h = absurd h
numbers_read (w ∷ ws) (v ∷ vs) t h =
    let e : octets_of w v ++ numbers_form ws vs ++ t ≡ octets_of w v ++ (numbers_form ws vs ++ t) = append_assoc (octets_of w v) (numbers_form ws vs) t in
    let l : length (octets_of w v) ≡ w = octets_length w v in
    ap (λ (s : List ℕ). value_of (take w s) ∷ numbers_in ws (drop w s)) e
    ∙ ap₂
    (λ (a b : List ℕ). value_of a ∷ numbers_in ws b)
    (take_at (octets_of w v) (numbers_form ws vs ++ t) w l)
    (drop_at (octets_of w v) (numbers_form ws vs ++ t) w l)
    ∙ ap₂ (λ (a : ℕ) (b : List ℕ). a ∷ b) (value_octets w v h.0) (numbers_read ws vs t h.1)

-- numbers that were read are written as they stood
pub numbers_written : (ws s : List ℕ) → Octets s → length s ≡ total ws → numbers_form ws (numbers_in ws s) ≡ s
unfolding numbers_form numbers_in total
numbers_written [] [] p e = refl
numbers_written [] (x ∷ s) p e = absurd (omega arith)
numbers_written (w ∷ ws) s p e =
    let l : length (take w s) ≡ w = length-take-le w s (omega arith) in
    let r : length (drop w s) ≡ total ws = length-drop w s ∙ omega arith in
    ap₂
    (λ (a b : List ℕ). a ++ b)
    (ap (λ (k : ℕ). octets_of k (value_of (take w s))) (sym l) ∙ octets_value (take w s) (octets_take w s p))
    (numbers_written ws (drop w s) (octets_drop w s p) r)
    ∙ take-append-drop w s
