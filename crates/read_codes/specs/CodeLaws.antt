-- Laws of an octet's answer: what it tells of the element at the head of a list.
-- code_got, code_bad, from what was answered; code_read, code_wrong, for an element.
-- The definition is in Codes. Assumes nothing.
use Rattle.std.specs.Prelude.{ℕ, ◌≤◌, ◌<◌, ◌≡◌, List, length, Ok, Err}
use Rattle.std.proofs.Common.{ap}
use Rattle.element.specs.Places.{misfit}
use Rattle.element.specs.PlacesLaws.{same_place}
use Rattle.codec.specs.Codec.{Got, got, bad, Element}
use Rattle.read_content.specs.ExpectLaws.{never}
use Rattle.read_codes.specs.Codes.{code, code_of}
use Rattle.read_codes.specs.declared.Code.{Code}

pub code_got : (g : Got ℕ) (v n : ℕ) → code_of g ≡ Ok (code v n) → g ≡ got v n
unfolding code_of
code_got (bad p) v n e = never (cc)
code_got (got u m) v n e = let i : code u m ≡ code v n = cc in ap (λ (x : Code). got x.value x.next) i

pub code_bad : (g : Got ℕ) (p : ℕ) → code_of g ≡ Err (misfit p) → g ≡ bad p
unfolding code_of
code_bad (bad j) p e = let i : j ≡ p = same_place e in ap bad i
code_bad (got x n) p e = never (cc)

pub code_read : (e : Element ℕ) (s : List ℕ) (v n : ℕ) → code_of (e.dec s) ≡ Ok (code v n) → (e.dec s ≡ got v n) × (0 < n) × (n ≤ length s)
code_read e s v n q =
    let g = code_got (e.dec s) v n q in
    let i = e.inside s v n g in
    (g, i.0, i.1)

pub code_wrong : (e : Element ℕ) (s : List ℕ) (p : ℕ) → code_of (e.dec s) ≡ Err (misfit p) → (e.dec s ≡ bad p) × (p ≤ length s)
code_wrong e s p q = let g = code_bad (e.dec s) p q in (g, e.within s p g)
