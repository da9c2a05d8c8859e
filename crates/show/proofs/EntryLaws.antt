-- Laws of the entries one by one: which entry an ordinal has, that its octets are its form, and that a
-- response with a refusal gives that refusal at every ordinal.
-- entry_refused; entry_by, entry_shown, entry_past, entry_stands.
-- The definitions are in Shown. Assumes nothing.
use Rattle.std.specs.Prelude.{ℕ, ◌+◌, ◌≤◌, ◌<◌, ◌≡◌, refl, Bool, true, false, cond, List, ◌++◌, ltb, length, take, drop, Ok, Err}
use Rattle.std.proofs.Common.{arith, sym, ap, ◌∙◌, append_assoc, length-append, take-append-drop, length-take-le, lt-ltb, le-ltb}
use Rattle.octets.specs.Octets.{Octets}
use Rattle.element.specs.Places.{span}
use Rattle.codec.specs.Many.{forms}
use Rattle.layout.specs.Reading as reading
use Rattle.layout.proofs.Format.{single_response}
use Rattle.layout.specs.Read.{Outcome, reads, other_type, unfit}
use Rattle.layout.proofs.Read.{reading}
use Rattle.read_response.specs.Parts.{judged_as, judged_of, parts_in}
use Rattle.read_response.specs.Stands.{Stands}
use Rattle.read_response.proofs.Stands.{part_stands}
use Rattle.read_response.proofs.PartsLaws.{entries_stand}
use Rattle.show.specs.Shown.{refused_entry, entry_in, entry_as, entry_of}
use Rattle.show.proofs.StepsLaws.{forms_cut}
use Rattle.read_response.specs.declared.Parts.{Parts}
use Rattle.read_response.specs.declared.Unread.TheVariants as unread
use Rattle.read_response.specs.Judged.{Judged}
use Rattle.show.specs.declared.Entry.TheVariants as entry

-- what is not judged basic has no entry: its refusal stands at every ordinal
pub entry_refused : (s : List ℕ) (k : ℕ) (j : Judged) → judged_of s ≡ j → ((t : Parts) → j ≡ Ok t → ⊥) → entry_of s k ≡ refused_entry j
unfolding judged_of judged_as entry_of entry_as
entry_refused s k j e other = go (ltb 16384 (length s)) e
  where
    on : (o : Outcome) → judged_as (length s) o ≡ j → entry_as (length s) k o ≡ refused_entry j
    on (reads (reading.basic b)) e = absurd (other (parts_in s b) (sym e))
    on (reads (reading.failed c)) e = ap refused_entry e
    on other_type e = ap refused_entry e
    on (unfit p) e = ap refused_entry e

    go : (b : Bool) → cond b (Err unread.TooLong) (judged_as (length s) (reading s)) ≡ j → cond b (refused_entry (Err unread.TooLong)) (entry_as (length s) k (reading s)) ≡ refused_entry j
    go true e = ap refused_entry e
    go false e = on (reading s) e

module _ (s : List ℕ) (b : reading.Basic) (le : length s ≤ 16384) (e : reading s ≡ reads (reading.basic b)) (k : ℕ) where
  abbrev list : List reading.Entry
  list = b.signed.entries

  -- those before it, and itself
  abbrev earlier : List ℕ
  earlier = forms single_response.enc (take k list)

  abbrev itself : List ℕ
  itself = forms single_response.enc (take 1 (drop k list))

  abbrev later : List ℕ
  later = forms single_response.enc (drop 1 (drop k list))

  abbrev from : ℕ
  from = (parts_in s b).entries.start

  -- by the entries of the reading
  pub entry_by : entry_of s k ≡ entry_in from list k
  unfolding entry_of entry_as
  entry_by = rw (le-ltb 16384 (length s) le, e)

  pub entry_shown : k < length list → entry_of s k ≡ entry.At (from + length earlier) (length itself)
  unfolding entry_in
  entry_shown lt = entry_by ∙ rw (lt-ltb k (length list) lt)

  pub entry_past : length list ≤ k → entry_of s k ≡ entry.End
  unfolding entry_in
  entry_past over = entry_by ∙ rw (le-ltb k (length list) over)

  -- the octets there are its form
  pub entry_stands : Octets s → Stands s (span (from + length earlier) (length itself)) itself
  entry_stands o = go (entries_stand s b o e).octets (entries_stand s b o e).inside
    where
      n : ℕ
      n = (parts_in s b).entries.len

      go : take n (drop from s) ≡ forms single_response.enc list → from + n ≤ length s → Stands s (span (from + length earlier) (length itself)) itself
      go octets inside =
          let cut : forms single_response.enc list ≡ earlier ++ (itself ++ later) =
          forms_cut single_response.enc k list ∙ ap (λ (x : List ℕ). earlier ++ x) (forms_cut single_response.enc 1 (drop k list)) in
          let same : s ≡ take from s ++ (take n (drop from s) ++ drop n (drop from s)) =
          sym (ap (λ (x : List ℕ). take from s ++ x) (take-append-drop n (drop from s)) ∙ take-append-drop from s) in
          let at : length (take from s) ≡ from = length-take-le from s (omega arith) in
          part_stands s (take from s ++ earlier) itself (later ++ drop n (drop from s)) (from + length earlier) (length itself)
          (same ∙ rw (octets, cut) (simp append_assoc))
          (length-append (take from s) earlier ∙ rw at) refl
