-- Each row of document 01's table of refusals, in plain terms: when its test applies.
-- Applies; row_1_in_full to row_16_in_full.
-- The table itself is in Refusals, with the theorem that the check gives the first row that applies. `InRange`, `Signs`,
-- `KnownInResponse`, `KnownInEntry` and `NotUnderstood` are in rules: Accepted; `OnlyEntry` and `ForCard` in rules: OneCard;
-- `reading` is what a list of octets says (layout: Read).
-- Assumes nothing.
use Rattle.std.specs.Prelude.{ℕ, ◌+◌, ◌≤◌, ◌<◌, ◌↔◌, ◌≡◌, true, length}
use Rattle.std.proofs.Math.Bool.{not}
use mathlib.Core.List.{List, ◌∷◌, Memᴰ}
use Rattle.std.proofs.Math.Option.{none, some}
use Rattle.std.proofs.Math.Dec.{eqb}
use borrow.Author.Tests.{ltb-true, lt-ltb, eqb-true, eq-eqb}
use Rattle.layout.specs.Reading.{Entry, Basic, failed, basic}
use Rattle.layout.specs.Read.{reads, other_type, unfit}
use Rattle.layout.proofs.Read.{reading}
use Rattle.rules.specs.declared.Question.{Question}
use Rattle.rules.specs.Question.{in_range}
use Rattle.rules.specs.Signer.{is_signer, in_response, in_entry, strange_in}
use Rattle.rules.specs.Order.{entries_for, is_none, are_more, missed, tests}
use Rattle.rules.specs.Rows.{test_of}
use Rattle.rules.specs.Ruling.{case_of}
use Rattle.rules.specs.Accepted.{InRange, Signs, KnownInResponse, KnownInEntry, NotUnderstood}
use Rattle.rules.proofs.AcceptedLaws.{range_exactly, signer_exactly, response_exactly, entry_exactly}
use Rattle.rules.specs.OneCard.{ForCard, OnlyEntry}
use Rattle.rules.proofs.EntriesLaws.{none_exactly}
use Rattle.rules.proofs.PlainLaws as plain

module _ (q : Question) (name s : List ℕ) where
  -- the test of row n applies to a question, the signer's Name and a response
  abbrev pub Applies : ℕ → Type 0
  Applies n = test_of n (tests (case_of q name s)) ≡ true

  -- ── the question and the whole response ──

  -- 1: the question is out of range
  pub row_1_in_full : Applies 1 ↔ (InRange q name → ⊥)
  unfolding test_of tests
  row_1_in_full = plain.apart (in_range q name) (range_exactly q name)

  -- 2: the response is longer than 16,384 octets
  pub row_2_in_full : Applies 2 ↔ 16384 < length s
  unfolding test_of tests
  row_2_in_full = (λ e. ltb-true 16384 (length s) e, λ h. lt-ltb 16384 (length s) h)

  -- 3: its octets don't fit the layout, at some place
  pub row_3_in_full : Applies 3 ↔ (place : ℕ) × (reading s ≡ unfit place)
  unfolding test_of tests
  row_3_in_full = plain.unfit_row (reading s)

  -- 4: it is an error response, with some status
  pub row_4_in_full : Applies 4 ↔ (status : ℕ) × (reading s ≡ reads (failed status))
  unfolding test_of tests
  row_4_in_full = plain.failed_row (reading s)

  -- 5: its type is not the basic one
  pub row_5_in_full : Applies 5 ↔ reading s ≡ other_type
  unfolding test_of tests
  row_5_in_full = plain.other_row (reading s)

  -- 6: the signature's verdict is not 1
  pub row_6_in_full : Applies 6 ↔ (q.verdict ≡ 1 → ⊥)
  unfolding test_of tests
  row_6_in_full = plain.apart (eqb q.verdict 1) (eqb-true q.verdict 1, eq-eqb q.verdict 1)

  -- ── the basic response ──

  -- 7: the responder id is not the signer's: neither its key hash, nor its Name octet by octet
  pub row_7_in_full : Applies 7 ↔ (b : Basic) × (reading s ≡ reads (basic b)) × (Signs q.signer name b.signed.responder → ⊥)
  unfolding test_of tests
  row_7_in_full =
      plain.response_row q name s (λ b. not (is_signer q.signer name b.signed.responder)) (λ b. Signs q.signer name b.signed.responder → ⊥)
      (λ b. plain.apart (is_signer q.signer name b.signed.responder) (signer_exactly q.signer name b.signed.responder))

  -- 8, of marks in range: the role is 2, and one of the three marks is missing
  pub row_8_in_full : q.marks ≤ 7 → Applies 8 ↔ (q.role ≡ 2) × (q.marks ≡ 7 → ⊥)
  unfolding test_of tests
  row_8_in_full = plain.marks_missing q.role q.marks

  -- 9: a critical response extension is neither the nonce nor extended revoke
  pub row_9_in_full : Applies 9 ↔ (b : Basic) × (reading s ≡ reads (basic b)) × NotUnderstood KnownInResponse b.signed.extensions
  unfolding test_of tests
  row_9_in_full =
      plain.response_row q name s (λ b. strange_in in_response b.signed.extensions) (λ b. NotUnderstood KnownInResponse b.signed.extensions)
      (λ b. plain.strange_found in_response KnownInResponse response_exactly b.signed.extensions)

  -- 10: no entry is for this card
  pub row_10_in_full : Applies 10
      ↔ (b : Basic) × (reading s ≡ reads (basic b)) × ((x : Entry) → Memᴰ x b.signed.entries → ForCard q.card x.cert → ⊥)
  unfolding test_of tests
  row_10_in_full =
      plain.response_row q name s (λ b. is_none (entries_for q.card b.signed.entries))
      (λ b. (x : Entry) → Memᴰ x b.signed.entries → ForCard q.card x.cert → ⊥)
      (λ b.
      let r = plain.none_row (entries_for q.card b.signed.entries) in
      let n = none_exactly q.card b.signed.entries in
      (λ e. n.0 (r.0 e), λ h. r.1 (n.1 h)))

  -- 11: two or more entries are for this card
  pub row_11_in_full : Applies 11
      ↔ (b : Basic) × (reading s ≡ reads (basic b)) × ((x y : Entry) × (others : List Entry) × (entries_for q.card b.signed.entries ≡ x ∷ y ∷ others))
  unfolding test_of tests
  row_11_in_full =
      plain.response_row q name s (λ b. are_more (entries_for q.card b.signed.entries))
      (λ b. (x y : Entry) × (others : List Entry) × (entries_for q.card b.signed.entries ≡ x ∷ y ∷ others))
      (λ b. plain.more_row (entries_for q.card b.signed.entries))

  -- ── the only entry for this card ──

  -- 12: a critical extension of that entry is not archive cutoff
  pub row_12_in_full : Applies 12
      ↔ (b : Basic) × (e : Entry) × (reading s ≡ reads (basic b)) × OnlyEntry q.card b.signed.entries e × NotUnderstood KnownInEntry e.extensions
  unfolding test_of tests
  row_12_in_full =
      plain.entry_row q name s (λ e. strange_in in_entry e.extensions) (λ e. NotUnderstood KnownInEntry e.extensions)
      (λ e. plain.strange_found in_entry KnownInEntry entry_exactly e.extensions)

  -- 13: that entry has no nextUpdate
  pub row_13_in_full : Applies 13
      ↔ (b : Basic) × (e : Entry) × (reading s ≡ reads (basic b)) × OnlyEntry q.card b.signed.entries e × (e.next_update ≡ none)
  unfolding test_of tests
  row_13_in_full = plain.entry_row q name s (λ e. eqb (missed q e) 13) (λ e. e.next_update ≡ none) (plain.times_13 q)

  -- 14: nextUpdate is before thisUpdate
  pub row_14_in_full : Applies 14
      ↔ (b : Basic) × (e : Entry) × (reading s ≡ reads (basic b)) × OnlyEntry q.card b.signed.entries e
      × ((next : ℕ) × (e.next_update ≡ some next) × (next < e.this_update))
  unfolding test_of tests
  row_14_in_full =
      plain.entry_row q name s (λ e. eqb (missed q e) 14) (λ e. (next : ℕ) × (e.next_update ≡ some next) × (next < e.this_update)) (plain.times_14 q)

  -- 15: thisUpdate is after now; the test asks as well that 14 does not apply
  pub row_15_in_full : Applies 15
      ↔ (b : Basic) × (e : Entry) × (reading s ≡ reads (basic b)) × OnlyEntry q.card b.signed.entries e
      × ((next : ℕ) × (e.next_update ≡ some next) × ((e.this_update ≤ next) × (q.now < e.this_update)))
  unfolding test_of tests
  row_15_in_full =
      plain.entry_row q name s (λ e. eqb (missed q e) 15)
      (λ e. (next : ℕ) × (e.next_update ≡ some next) × ((e.this_update ≤ next) × (q.now < e.this_update))) (plain.times_15 q)

  -- 16: now is after nextUpdate plus tolerance; the test asks as well that 14 and 15 do not apply
  pub row_16_in_full : Applies 16
      ↔ (b : Basic) × (e : Entry) × (reading s ≡ reads (basic b)) × OnlyEntry q.card b.signed.entries e
      × ((next : ℕ) × (e.next_update ≡ some next) × ((e.this_update ≤ next) × (e.this_update ≤ q.now) × (next + q.tolerance < q.now)))
  unfolding test_of tests
  row_16_in_full =
      plain.entry_row q name s (λ e. eqb (missed q e) 16)
      (λ e. (next : ℕ) × (e.next_update ≡ some next) × ((e.this_update ≤ next) × (e.this_update ≤ q.now) × (next + q.tolerance < q.now)))
      (plain.times_16 q)
