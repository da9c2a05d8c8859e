-- Laws of what a response is judged to be: what is judged basic reads as a basic response, and what reads
-- as one is judged so.
-- Reads, judged_basic, basic_judged.
-- The definitions are in Parts. Assumes nothing.
-- The laws stand here, and what is made of them; the definitions in specs/JudgedLaws.
use Rattle.std.specs.Prelude.{ℕ, ◌≤◌, ◌≡◌, refl, Bool, true, false, cond, List, ltb, length, Ok, Err}
use Rattle.std.proofs.Common.{ltb-false, le-ltb}
use Rattle.layout.specs.Reading.{Basic, failed, basic}
use Rattle.layout.specs.Read.{Outcome, reads, other_type, unfit}
use Rattle.layout.proofs.Read.{reading}
use Rattle.read_content.specs.ExpectLaws.{never}
use Rattle.read_response.specs.Parts.{judged_as, judged_of, parts_in}
use Rattle.read_response.specs.declared.Parts.{Parts}
use Rattle.read_response.specs.declared.Unread.TheVariants as unread
use Rattle.read_response.specs.JudgedLaws.{Reads}

pub judged_basic : (s : List ℕ) (t : Parts) → judged_of s ≡ Ok t → Reads s t
unfolding judged_of judged_as
judged_basic s t e = go (ltb 16384 (length s)) refl e
  where
    on : length s ≤ 16384 → (o : Outcome) → reading s ≡ o → judged_as (length s) o ≡ Ok t → Reads s t
    on le (reads (basic b)) q e = record { value = b; read = q; parts = cc; small = le }
    on le (reads (failed n)) q e = never (cc)
    on le other_type q e = never (cc)
    on le (unfit p) q e = never (cc)

    go : (k : Bool) → ltb 16384 (length s) ≡ k → cond k (Err unread.TooLong) (judged_as (length s) (reading s)) ≡ Ok t → Reads s t
    go true i e = never (cc)
    go false i e = on (ltb-false 16384 (length s) i) (reading s) refl e

-- and what reads as one is judged so
pub basic_judged : (s : List ℕ) (b : Basic) → length s ≤ 16384 → reading s ≡ reads (basic b) → judged_of s ≡ Ok (parts_in s b)
unfolding judged_of judged_as
basic_judged s b le e = rw (le-ltb 16384 (length s) le, e)
