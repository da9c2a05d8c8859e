-- The cases of finding an entry: a step by a header, a loop over steps, and what the response was judged
-- to be.
-- Assumes nothing.
use Prim.Native.Nat.{ℕ, ◌+◌, ◌-◌, ◌^◌, ◌≤◌, ◌<◌}
use native.Mathlib.Omega.{arith}
use mathlib.Core.Path.{◌≡◌, refl, sym, ap, ◌∙◌}
use mathlib.Core.List.{List}
use Rattle.std.specs.Prelude.{Ok, Err}
use lib.ListN.{length, take, drop, length-drop}
use lib.Seq.{drop-drop}
use mir.Syntax.{w64}
use mir.Val.{Fits}
use Rattle.octets.specs.LentLaws.{Known, known_octets, rest_is, part_is, part_length}
use Rattle.element.specs.Header.{header_of}
use Rattle.element.specs.HeaderLaws.{header_inside}
use Rattle.element.specs.declared.Misfit.{Misfit}
use Rattle.element.specs.declared.Header.{Header}
use Rattle.codec.specs.Many.{forms}
use Rattle.layout.proofs.Format.{single_response}
use Rattle.read_response.specs.Parts.{parts_from, judged_of, parts_in}
use Rattle.read_response.proofs.PartsLaws.{entries_stand}
use Rattle.read_response.specs.JudgedLaws.{Reads}
use Rattle.read_response.proofs.JudgedLaws.{judged_basic}
use Rattle.show.specs.Shown.{refused_entry, entry_of}
use Rattle.show.specs.Steps.{step_size, steps_size, spot_after}
use Rattle.show.proofs.StepsLaws.{step_inside, steps_inside, steps_next, entry_after}
use Rattle.show.proofs.EntryLaws.{entry_refused, entry_shown, entry_past}
use Rattle.read_response.specs.declared.Parts.{Parts}
use Rattle.read_response.specs.declared.Unread.{Unread}
use Rattle.read_response.specs.Judged.{Judged}
use Rattle.show.specs.declared.Entry.{Entry}
use Rattle.show.specs.declared.Entry.TheVariants as entry

-- ── one step ──
module _ (s : List ℕ) where
  pub header_end : (h : Header) → header_of s ≡ Ok h → h.start + h.len ≤ length s
  header_end h e = (header_inside s h.tag h.start h.len e).1

  pub header_found : (h : Header) → header_of s ≡ Ok h → step_size s ≡ h.start + h.len
  unfolding step_size
  header_found h e = rw e

  pub header_none : (p : Misfit) → header_of s ≡ Err p → step_size s ≡ 0
  unfolding step_size
  header_none p e = rw e

-- ── a loop over steps: i of them end at a place ──
pub steps_none : (s : List ℕ) → 0 ≡ steps_size 0 s
unfolding steps_size
steps_none s = refl

module _ (s : List ℕ) (i at n : ℕ) (e : at ≡ steps_size i s) where
  pub steps_within : at ≤ length s
  steps_within = omega (arith, steps_inside i s)

  module _ (q : n ≡ step_size (take (length s - at) (drop at s))) where
    step_is : n ≡ step_size (drop at s)
    step_is = rw (rest_is at s) at q

    pub step_sum : length s < 2 ^ 64 → Fits w64 (at + n)
    step_sum z = record { fits = omega (arith, step_is, step_inside (drop at s), length-drop at s, steps_within) }

    pub step_next : at + n ≡ steps_size (i + 1) s
    step_next = rw (step_is, e) (sym (steps_next i s))

-- ── the element after some steps ──
pub after_found : (place k : ℕ) (s : List ℕ)
    → spot_after place k s ≡ entry.At (place + steps_size k s) (step_size (take (length s - steps_size k s) (drop (steps_size k s) s)))
unfolding spot_after
after_found place k s = rw (rest_is (steps_size k s) s)

-- ── by what the response was judged to be ──
module _ (s : List ℕ) (k : ℕ) where
  pub entry_none : (u : Unread) → judged_of s ≡ Err u → entry_of s k ≡ refused_entry (judged_of s)
  entry_none u e = entry_refused s k (judged_of s) refl (λ t g. cc)

  module _ (t : Parts) (e : judged_of s ≡ Ok t) where
    found : Reads s t
    found = judged_basic s t e

    count_is : t.count ≡ length found.value.signed.entries
    unfolding parts_from
    count_is = ap (λ (p : Parts). p.count) found.parts

    pub entry_end : t.count ≤ k → entry_of s k ≡ entry.End
    entry_end le = entry_past s found.value found.small found.read k (omega (arith, count_is))

    module _ (known : Known s) where
      pub entries_end : t.entries.start + t.entries.len ≤ length s
      entries_end = rw found.parts (entries_stand s found.value (known_octets s known) found.read).inside

      -- the entries, as the code lends them
      entries_are : take (t.entries.start + t.entries.len - t.entries.start) (drop t.entries.start s) ≡ forms single_response.enc found.value.signed.entries
      entries_are =
          part_is t.entries.start t.entries.len s
          ∙ ap (λ (p : Parts). take p.entries.len (drop p.entries.start s)) found.parts
          ∙ (entries_stand s found.value (known_octets s known) found.read).octets

      entries_length_lem : length (take (t.entries.start + t.entries.len - t.entries.start) (drop t.entries.start s)) ≡ t.entries.len
      entries_length_lem = rw (part_is t.entries.start t.entries.len s) (part_length t.entries.start t.entries.len s entries_end)

      pub entries_small : t.entries.start + length (take (t.entries.start + t.entries.len - t.entries.start) (drop t.entries.start s)) ≤ 16384
      entries_small = omega (arith, entries_length_lem, entries_end, found.small)

      pub entry_found : k < t.count
          → entry_of s k ≡ spot_after t.entries.start k (take (t.entries.start + t.entries.len - t.entries.start) (drop t.entries.start s))
      entry_found lt =
          let l = found.value.signed.entries in
          let small : length (forms single_response.enc l) < 2 ^ 64 = omega (arith, ap length entries_are, entries_length_lem, entries_end, found.small) in
          sym (
          ap (spot_after t.entries.start k) entries_are
          ∙ ap (λ (p : Parts). spot_after p.entries.start k (forms single_response.enc l)) found.parts
          ∙ entry_after (parts_in s found.value).entries.start k l small
          ∙ sym (entry_shown s found.value found.small found.read k (omega (arith, count_is)))
          )

pub ruleset header_cases = (header_end, header_found, header_none)

pub ruleset steps_cases = (steps_none, steps_within, step_sum, step_next)

pub ruleset after_cases = (steps_inside, after_found)

pub ruleset entry_cases = (entry_none, entry_end, entries_end, entries_small, entry_found)
