-- The place of a response that does not fit is the least of its misfits, and it fits exactly where it
-- has none.
-- fit_read; reading_first, misfits_ascend; place_least, fits_none.
-- The laws stand here, and what is made of them; the definitions in specs/Theorem.
-- Assumes nothing.
use Rattle.std.specs.Prelude.{ℕ, ◌+◌, ◌-◌, ◌≡◌, refl, Bool, true, false, cond, List, [], ◌∷◌, ◌↔◌, length, Ok, Err}
use Rattle.std.proofs.Common.{arith, sym, ap, ◌∙◌}
use Rattle.octets.specs.Same.{same_of}
use Rattle.element.specs.Places.{misfit}
use Rattle.element.specs.PlacesLaws.{same_place}
use Rattle.codec.specs.Codec.{Read, read, broke}
use Rattle.codec.specs.Views.{fit_of, later}
use Rattle.layout.specs.Reading.{Basic}
use Rattle.layout.specs.Names.{Envelope, failure, success}
use Rattle.layout.proofs.Format as format
use Rattle.layout.specs.Read.{basic_type, Outcome, reads, other_type, unfit, inner_reading}
use Rattle.layout.proofs.Read.{envelope_reading, reading}
use Rattle.faults.specs.Faults.{shift, line_faults}
use Rattle.faults.specs.Order.{Ascending, leftmost, Among, Least}
use Rattle.faults.proofs.OrderLaws.{ascend_from, ascend_later, first_least, least_first}
use Rattle.faults.proofs.AscendLaws.{line_ascends}
use Rattle.faults.proofs.RowLaws.{first_shift}
use Rattle.misfits.specs.Described.{basic_line, envelope_line}
use Rattle.misfits.proofs.ResponseLaws.{basic_placed, envelope_placed}
use Rattle.misfits.specs.Misfits.{status_content, type_content, string_content, inner_misfits, or_else, misfits}
use Rattle.misfits.specs.Tests.{is_zero}
use Rattle.misfits.specs.EnvelopeLaws.{Stands}
use Rattle.misfits.proofs.EnvelopeLaws.{envelope_stands}
use Rattle.misfits.specs.Theorem.{fit_read}

-- ── the basic response ──
inner_first : (at : ℕ) (c : List ℕ) → fit_read (inner_reading at ((format.basic_response).dec c)) ≡ leftmost (shift at (line_faults basic_line c))
unfolding fit_of later
inner_first at c =
    go ((format.basic_response).dec c) ∙ ap (later at) (basic_placed.finds c) ∙ sym (first_shift at (line_faults basic_line c))
  where
    go : (o : Read Basic) → fit_read (inner_reading at o) ≡ later at (fit_of o)
    go (read b) = refl
    go (broke p) = refl

-- with what the envelope says
string_first : (s t c : List ℕ) → Stands s (success t c) → fit_read (envelope_reading s (read (success t c))) ≡ leftmost (inner_misfits s)
unfolding inner_misfits leftmost
string_first s t c (z, et, ec) = rw (z, et, ec) (go (same_of t basic_type))
  where
    go : (b : Bool) → fit_read (cond b (inner_reading (length s - length c) ((format.basic_response).dec c)) other_type)
        ≡ leftmost (cond b (shift (length s - length c) (line_faults basic_line c)) [])
    go true = inner_first (length s - length c) c
    go false = refl

status_first : (s : List ℕ) (n : ℕ) → Stands s (failure n) → Ok tt ≡ leftmost (inner_misfits s)
unfolding inner_misfits leftmost
status_first s n z = rw z

-- ── the envelope before it ──
else_none : (l k : List ℕ) → Ok tt ≡ leftmost l → leftmost (or_else l k) ≡ leftmost k
unfolding leftmost
else_none [] k e = refl
else_none (p ∷ l) k e = let z : ◌≡◌ {A = ℕ} 0 1 = cc in absurd (omega arith)

else_some : (l k : List ℕ) (p : ℕ) → Err (misfit p) ≡ leftmost l → Err (misfit p) ≡ leftmost (or_else l k)
unfolding leftmost
else_some [] k p e = let z : ◌≡◌ {A = ℕ} 0 1 = cc in absurd (omega arith)
else_some (q ∷ l) k p e = e

-- a response's place is the first of its misfits
pub reading_first : (s : List ℕ) → fit_read (reading s) ≡ leftmost (misfits s)
unfolding reading misfits fit_of
reading_first s = go ((format.envelope).dec s) refl (envelope_placed.finds s)
  where
    go : (x : Read Envelope) → (format.envelope).dec s ≡ x → fit_of ((format.envelope).dec s) ≡ leftmost (line_faults envelope_line s)
        → fit_read (envelope_reading s x) ≡ leftmost (or_else (line_faults envelope_line s) (inner_misfits s))
    go (broke p) ex f = else_some (line_faults envelope_line s) (inner_misfits s) p (rw ex at f)
    go (read (failure n)) ex f =
        status_first s n (envelope_stands s (failure n) ex) ∙ sym (else_none (line_faults envelope_line s) (inner_misfits s) (rw ex at f))
    go (read (success t c)) ex f =
        string_first s t c (envelope_stands s (success t c) ex)
        ∙ sym (else_none (line_faults envelope_line s) (inner_misfits s) (rw ex at f))

-- ── the least ──
inner_ascend : (s : List ℕ) → (b : ℕ) × Ascending 0 (inner_misfits s) b
unfolding inner_misfits
inner_ascend s = go (is_zero (status_content s)) (same_of (type_content s) basic_type)
  where
    at : ℕ
    at = length s - length (string_content s)

    l : List ℕ
    l = line_faults basic_line (string_content s)

    go : (x y : Bool) → (b : ℕ) × Ascending 0 (cond x (cond y (shift at l) []) []) b
    go false y = (0, omega arith)
    go true false = (0, omega arith)
    go true true =
        let n = length (string_content s) in
        (at + n, ascend_from 0 at (at + n) (shift at l) (omega arith) (ascend_later at n (at + n) l (line_ascends basic_line (string_content s)) (omega arith)))

-- none is before the one to its left
pub misfits_ascend : (s : List ℕ) → (b : ℕ) × Ascending 0 (misfits s) b
unfolding misfits
misfits_ascend s = go (line_faults envelope_line s) (line_ascends envelope_line s)
  where
    go : (l : List ℕ) → Ascending 0 l (length s) → (b : ℕ) × Ascending 0 (or_else l (inner_misfits s)) b
    go [] h = inner_ascend s
    go (p ∷ l) h = (length s, h)

place_unfit : (o : Outcome) (p : ℕ) → fit_read o ≡ Err (misfit p) → o ≡ unfit p
place_unfit (reads r) p e = let z : ◌≡◌ {A = ℕ} 0 1 = cc in absurd (omega arith)
place_unfit other_type p e = let z : ◌≡◌ {A = ℕ} 0 1 = cc in absurd (omega arith)
place_unfit (unfit q) p e = ap unfit (same_place e)

-- a response does not fit, at this place, exactly if this is the least of its misfits
pub place_least : (s : List ℕ) (p : ℕ) → (reading s ≡ unfit p) ↔ Least p (misfits s)
place_least s p =
    let (b, h) = misfits_ascend s in (
      λ e. first_least 0 b (misfits s) h p (sym (reading_first s) ∙ ap fit_read e),
      λ m. place_unfit (reading s) p (reading_first s ∙ least_first 0 b (misfits s) h p m),
    )

-- and it fits, or is of another type, exactly if it has none
pub fits_none : (s : List ℕ) → ((p : ℕ) → reading s ≡ unfit p → ⊥) ↔ (misfits s ≡ [])
unfolding leftmost
fits_none s = (λ h. go (misfits s) refl h, λ e p i. none p e ((place_least s p).0 i).0)
  where
    none : (p : ℕ) → misfits s ≡ [] → Among p (misfits s) → ⊥
    none p e m = rw e at m

    go : (l : List ℕ) → misfits s ≡ l → ((p : ℕ) → reading s ≡ unfit p → ⊥) → misfits s ≡ []
    go [] e h = e
    go (p ∷ l) e h = absurd (h p (place_unfit (reading s) p (reading_first s ∙ ap leftmost e)))
