-- Laws of a step: where response says that an entry is, the response has a reading with an entry of that
-- ordinal, and all of its octets are there.
-- HasEntry, entry_has; has_inside, part_sized, has_few.
-- The definitions are in Step. Assumes nothing.
-- The laws stand here, and what is made of them; the definitions in specs/StepLaws.
use Rattle.std.specs.Prelude.{ℕ, ◌+◌, ◌≤◌, ◌<◌, ◌≡◌, refl, Bool, true, false, cond, List, ltb, length, drop, Err}
use Rattle.std.proofs.Common.{arith, sym, ap, ◌∙◌, length-take-le, ltb-true, ltb-false}
use Rattle.std.proofs.Math.ListN.{length-drop}
use Rattle.octets.specs.Octets.{Octets}
use Rattle.layout.specs.Reading as reading
use Rattle.layout.specs.Read.{Outcome, reads, other_type, unfit}
use Rattle.layout.proofs.Read.{reading}
use Rattle.layout.proofs.Theorem.{sound}
use Rattle.read_content.specs.ExpectLaws.{never}
use Rattle.show.specs.Shown.{refused_entry, entry_in, entry_as, entry_of}
use Rattle.show.proofs.EntryLaws.{entry_shown, entry_stands}
use Rattle.read_response.specs.declared.Unread.TheVariants as unread
use Rattle.show.specs.declared.Entry.{Entry}
use Rattle.show.specs.declared.Entry.TheVariants as entry
use Rattle.walk_rules.specs.Step.{part_in, part_of}
use Rattle.walk_rules.specs.StepLaws.{HasEntry}

pub entry_has : (s : List ℕ) (k start n : ℕ) → entry_of s k ≡ entry.At start n → HasEntry s k
unfolding entry_of entry_as entry_in
entry_has s k start n e = go (ltb 16384 (length s)) refl e
  where
    within : length s ≤ 16384 → (b : reading.Basic) → reading s ≡ reads (reading.basic b) → (t : Bool) → ltb k (length b.signed.entries) ≡ t
        → (x : Entry) → cond t x entry.End ≡ entry.At start n → HasEntry s k
    within le b q true i x e = record { value = b; read = q; small = le; before = ltb-true k (length b.signed.entries) i }
    within le b q false i x e = never (cc)

    on : length s ≤ 16384 → (o : Outcome) → reading s ≡ o → entry_as (length s) k o ≡ entry.At start n → HasEntry s k
    on le (reads (reading.basic b)) q e = within le b q (ltb k (length b.signed.entries)) refl _ e
    on le (reads (reading.failed c)) q e = never (cc)
    on le other_type q e = never (cc)
    on le (unfit p) q e = never (cc)

    go : (t : Bool) → ltb 16384 (length s) ≡ t → cond t (refused_entry (Err unread.TooLong)) (entry_as (length s) k (reading s)) ≡ entry.At start n → HasEntry s k
    go true i e = never (cc)
    go false i e = on (ltb-false 16384 (length s) i) (reading s) refl e

-- where an entry is
abbrev start_in : Entry → ℕ
start_in (entry.At start n) = start
start_in entry.End = 0
start_in (entry.Refused n c p) = 0

abbrev len_in : Entry → ℕ
len_in (entry.At start n) = n
len_in entry.End = 0
len_in (entry.Refused n c p) = 0

module _ (s : List ℕ) (o : Octets s) (k start n : ℕ) (e : entry_of s k ≡ entry.At start n) where
  has : HasEntry s k
  has = entry_has s k start n e

  -- the entry ends inside the response
  pub has_inside : start + n ≤ length s
  has_inside =
      let i = sym (entry_shown s has.value has.small has.read k has.before) ∙ e in
      let a = ap (λ (x : Entry). start_in x) i in
      let b = ap (λ (x : Entry). len_in x) i in
      omega (arith, a, b, (entry_stands s has.value has.small has.read k o).inside)

  -- so its part has as many octets as are said
  pub part_sized : length (part_of s k) ≡ n
  unfolding part_of part_in
  part_sized = let i = has_inside in rw e (length-take-le n (drop start s) (simp length-drop (omega (arith, i))))

  -- there are at most 64 entries
  pub has_few : k < 64
  has_few = omega (arith, has.before, (sound s (reading.basic has.value) o has.read).0.signed.most)
