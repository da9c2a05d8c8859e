-- Laws of what is shown to C of a refused response, which is nothing, and of an entry: its number is the response's refusal, its
-- octets are the reading's, and its place lies inside the response.
-- parts_none, certificates_nothing; entry_octets, entry_end, entry_number_lem, entry_nothing, entry_inside.
-- The definitions are in Places; the other parts are in PlacesLaws.
-- Assumes nothing.
use Rattle.std.specs.Prelude.{ℕ, ◌+◌, ◌≤◌, ◌<◌, ◌≡◌, Bool, List, take, drop, Ok, Err}
use Rattle.std.proofs.Common.{arith, ltb-true, ltb-false}
use Rattle.std.proofs.Math.Path.{refl}
use Rattle.std.proofs.Math.Bool.{true, false}
use Rattle.std.proofs.Math.Dec.{ltb}
use Rattle.std.proofs.Math.ListN.{length}
use Rattle.octets.specs.Octets.{Octets}
use Rattle.codec.specs.Many.{forms}
use Rattle.layout.specs.Reading.{Basic, basic}
use Rattle.layout.proofs.Format.{single_response}
use Rattle.layout.specs.Read.{reads}
use Rattle.layout.proofs.Read.{reading}
use Rattle.read_response.specs.Parts.{judged_of}
use Rattle.read_response.specs.Refusals.{refusal_of}
use Rattle.read_response.proofs.JudgedLaws.{judged_basic}
use Rattle.read_response.specs.declared.Parts.{Parts}
use Rattle.read_response.specs.Judged.{Judged}
use Rattle.read_response.specs.declared.Unread.TheVariants as unread
use Rattle.show.specs.Parts.{empty_span, no_parts, shown_parts}
use Rattle.show.specs.Shown.{octets_in, entry_of}
use Rattle.show.proofs.EntryLaws.{entry_refused, entry_shown, entry_past, entry_stands}
use Rattle.read_content.specs.ExpectLaws.{never}
use Rattle.desk_c.specs.Places.{certificates_in, entry_number, entry_span}
use Rattle.desk_c.specs.HeldLaws.{held_nothing}

module _ (s : List ℕ) where
  -- a response with a refusal has no parts
  pub parts_none : ((refusal_of (judged_of s)).number ≡ 0 → ⊥) → shown_parts (judged_of s) ≡ no_parts
  unfolding refusal_of shown_parts
  parts_none n = go (judged_of s) n
    where
      go : (j : Judged) → ((refusal_of j).number ≡ 0 → ⊥) → shown_parts j ≡ no_parts
      go (Ok p) n = absurd (n refl)
      go (Err unread.TooLong) n = refl
      go (Err (unread.Unfit p)) n = refl
      go (Err (unread.Failed c)) n = refl
      go (Err unread.OtherType) n = refl

  -- and nothing lies behind two headers of no octets
  pub certificates_nothing : ((refusal_of (judged_of s)).number ≡ 0 → ⊥) → certificates_in s (judged_of s) ≡ empty_span
  certificates_nothing n = held_nothing s (shown_parts (judged_of s)).certificates (rw (parts_none n) (record { octets = refl; inside = omega arith }))

-- ── an entry ──
module _ (s : List ℕ) (k : ℕ) where
  -- of a basic response there is the entry at an ordinal, or none
  module _ (b : Basic) (le : length s ≤ 16384) (e : reading s ≡ reads (basic b)) where
    basic_number : entry_number (entry_of s k) ≡ 0
    unfolding entry_number
    basic_number = go (ltb k (length b.signed.entries)) refl
      where
        go : (t : Bool) → ltb k (length b.signed.entries) ≡ t → entry_number (entry_of s k) ≡ 0
        go true i = rw (entry_shown s b le e k (ltb-true k (length b.signed.entries) i))
        go false i = rw (entry_past s b le e k (ltb-false k (length b.signed.entries) i))

    basic_inside : Octets s → (entry_span (entry_of s k)).start + (entry_span (entry_of s k)).len ≤ length s
    unfolding entry_span
    basic_inside o = go (ltb k (length b.signed.entries)) refl
      where
        go : (t : Bool) → ltb k (length b.signed.entries) ≡ t → (entry_span (entry_of s k)).start + (entry_span (entry_of s k)).len ≤ length s
        go true i = rw (entry_shown s b le e k (ltb-true k (length b.signed.entries) i)) (entry_stands s b le e k o).inside
        go false i = rw (entry_past s b le e k (ltb-false k (length b.signed.entries) i)) (omega arith)

    -- its octets are the form of the entry with this ordinal
    pub entry_octets : Octets s → k < length b.signed.entries
        → octets_in s (entry_span (entry_of s k)) ≡ forms single_response.enc (take 1 (drop k b.signed.entries))
    unfolding entry_span
    entry_octets o h = rw (entry_shown s b le e k h) (entry_stands s b le e k o).octets

    -- and past the last one the part is empty
    pub entry_end : length b.signed.entries ≤ k → entry_span (entry_of s k) ≡ empty_span
    unfolding entry_span
    entry_end h = rw (entry_past s b le e k h)

  -- a response that is refused has none
  refused_number : (j : Judged) → judged_of s ≡ j → ((t : Parts) → j ≡ Ok t → ⊥) → entry_number (entry_of s k) ≡ (refusal_of j).number
  unfolding entry_number
  refused_number j e n = rw (entry_refused s k j e n)

  refused_empty : (j : Judged) → judged_of s ≡ j → ((t : Parts) → j ≡ Ok t → ⊥) → entry_span (entry_of s k) ≡ empty_span
  unfolding entry_span
  refused_empty j e n = rw (entry_refused s k j e n)

  -- the number is the response's refusal
  pub entry_number_lem : entry_number (entry_of s k) ≡ (refusal_of (judged_of s)).number
  unfolding refusal_of
  entry_number_lem = go (judged_of s) refl
    where
      go : (j : Judged) → judged_of s ≡ j → entry_number (entry_of s k) ≡ (refusal_of j).number
      go (Ok t) e = let r = judged_basic s t e in basic_number r.value r.small r.read
      go (Err unread.TooLong) e = refused_number (Err unread.TooLong) e (λ t i. never (cc i))
      go (Err (unread.Unfit p)) e = refused_number (Err (unread.Unfit p)) e (λ t i. never (cc i))
      go (Err (unread.Failed n)) e = refused_number (Err (unread.Failed n)) e (λ t i. never (cc i))
      go (Err unread.OtherType) e = refused_number (Err unread.OtherType) e (λ t i. never (cc i))

  -- then the part is empty
  pub entry_nothing : ((refusal_of (judged_of s)).number ≡ 0 → ⊥) → entry_span (entry_of s k) ≡ empty_span
  unfolding refusal_of
  entry_nothing z = go (judged_of s) refl z
    where
      go : (j : Judged) → judged_of s ≡ j → ((refusal_of j).number ≡ 0 → ⊥) → entry_span (entry_of s k) ≡ empty_span
      go (Ok t) e z = absurd (z refl)
      go (Err unread.TooLong) e z = refused_empty (Err unread.TooLong) e (λ t i. never (cc i))
      go (Err (unread.Unfit p)) e z = refused_empty (Err (unread.Unfit p)) e (λ t i. never (cc i))
      go (Err (unread.Failed n)) e z = refused_empty (Err (unread.Failed n)) e (λ t i. never (cc i))
      go (Err unread.OtherType) e z = refused_empty (Err unread.OtherType) e (λ t i. never (cc i))

  -- and it lies inside the response in every case
  pub entry_inside : Octets s → (entry_span (entry_of s k)).start + (entry_span (entry_of s k)).len ≤ length s
  unfolding refusal_of
  entry_inside o = go (judged_of s) refl
    where
      nothing : entry_span (entry_of s k) ≡ empty_span → (entry_span (entry_of s k)).start + (entry_span (entry_of s k)).len ≤ length s
      nothing i = rw i (omega arith)

      go : (j : Judged) → judged_of s ≡ j → (entry_span (entry_of s k)).start + (entry_span (entry_of s k)).len ≤ length s
      go (Ok t) e = let r = judged_basic s t e in basic_inside r.value r.small r.read o
      go (Err unread.TooLong) e = nothing (refused_empty (Err unread.TooLong) e (λ t i. never (cc i)))
      go (Err (unread.Unfit p)) e = nothing (refused_empty (Err (unread.Unfit p)) e (λ t i. never (cc i)))
      go (Err (unread.Failed n)) e = nothing (refused_empty (Err (unread.Failed n)) e (λ t i. never (cc i)))
      go (Err unread.OtherType) e = nothing (refused_empty (Err unread.OtherType) e (λ t i. never (cc i)))
