-- Laws of a spot: what it tells of the element at the head of a list.
-- spot_wrong; spot_reads, for an element whose value is its last octets (LastLaws). What `Step`
-- tells is in codec's ViewLaws.
-- The definition is in Spots. Assumes nothing.
use Rattle.std.specs.Prelude.{ℕ, ◌+◌, ◌-◌, ◌≤◌, ◌≡◌, refl, List, length, take, drop, Ok, Err}
use Rattle.std.proofs.Common.{arith, ap}
use Rattle.element.specs.Places.{misfit, span}
use Rattle.element.specs.PlacesLaws.{same_place, same_span}
use Rattle.codec.specs.Codec.{Got, got, bad, Element}
use Rattle.read_content.specs.Spots.{spot_of}
use Rattle.read_content.specs.ExpectLaws.{never}
use Rattle.read_content.specs.LastLaws.{Last}

-- ── what an answer tells of the reading ──
spot_got : (g : Got (List ℕ)) (b l : ℕ) → spot_of g ≡ Ok (span b l) → (x : List ℕ) × (n : ℕ) × (g ≡ got x n) × (n - length x ≡ b) × (length x ≡ l)
unfolding spot_of
spot_got (bad p) b l e = never (cc)
spot_got (got x n) b l e = let v = same_span e in (x, n, refl, v.0, v.1)

spot_bad : (g : Got (List ℕ)) (p : ℕ) → spot_of g ≡ Err (misfit p) → g ≡ bad p
unfolding spot_of
spot_bad (bad j) p e = let i : j ≡ p = same_place e in ap bad i
spot_bad (got x n) p e = never (cc)

pub spot_wrong : (e : Element (List ℕ)) (s : List ℕ) (p : ℕ) → spot_of (e.dec s) ≡ Err (misfit p) → (e.dec s ≡ bad p) × (p ≤ length s)
spot_wrong e s p q = let g = spot_bad (e.dec s) p q in (g, e.within s p g)

-- the value is the octets at the spot
pub spot_reads : (e : Element (List ℕ)) → Last e → (s : List ℕ) (b l : ℕ) → spot_of (e.dec s) ≡ Ok (span b l)
    → (e.dec s ≡ got (take l (drop b s)) (b + l)) × (length (take l (drop b s)) ≡ l) × (b + l ≤ length s)
spot_reads e v s b l q =
    let (x, n, g, eb, el) = spot_got (e.dec s) b l q in
    reads_of e s b l x n (v s x n g).0 (v s x n g).1 (e.inside s x n g).1 g eb el
  where
    reads_of : (e : Element (List ℕ)) (s : List ℕ) (b l : ℕ) (x : List ℕ) (n : ℕ) → length x ≤ n → x ≡ take (length x) (drop (n - length x) s) → n ≤ length s
        → e.dec s ≡ got x n → n - length x ≡ b → length x ≡ l
        → (e.dec s ≡ got (take l (drop b s)) (b + l)) × (length (take l (drop b s)) ≡ l) × (b + l ≤ length s)
    reads_of e s b l x n le ex i g eb el =
        let en : n ≡ b + l = omega arith in
        let ey : x ≡ take l (drop b s) = rw (eb, el) at ex in
        (rw (ey, en) at g, rw ey at el, omega arith)
