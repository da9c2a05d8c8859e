-- No refusal applies exactly when a response is accepted.
-- clear_exactly. The tests are in Order, the plain conditions in Accepted; each test against its condition is in
-- AcceptedLaws and TimesLaws.
-- Assumes nothing.
use Rattle.std.specs.Prelude.{ℕ, ◌↔◌, ◌≡◌, false, List, [], ◌∷◌, length}
use borrow.Author.Tests.{ltb-false, le-ltb, eqb-true, eq-eqb, not-false}
use Rattle.layout.specs.Reading.{Entry, Basic, basic}
use Rattle.layout.specs.Read.{reads}
use Rattle.layout.proofs.Read.{reading}
use Rattle.rules.specs.declared.Question.{Question}
use Rattle.rules.specs.Signer.{in_response, in_entry}
use Rattle.rules.specs.Order.{entries_for, missed, tests, first_of}
use Rattle.rules.specs.Ruling.{case_of}
use Rattle.rules.specs.Rows.{test_of}
use Rattle.rules.proofs.OrderLaws.{tests_none}
use Rattle.rules.specs.Accepted.{InRange, KnownInResponse, KnownInEntry, Accepted}
use Rattle.rules.proofs.AcceptedLaws.{range_exactly, signer_exactly, marks_exactly, strange_exactly, response_exactly, entry_exactly, outcome_basic, entries_one}
use Rattle.rules.proofs.TimesLaws.{missed_none, times_exactly}

module _ (q : Question) (name s : List ℕ) where
  -- accepted: no test applies
  accepted_clear : (b : Basic) (e : Entry) (next : ℕ) → Accepted q name s b e next → first_of (tests (case_of q name s)) ≡ 0
  unfolding first_of tests
  accepted_clear b e next a =
      rw (
        (range_exactly q name).1 a.range,
        le-ltb 16384 (length s) a.size,
        a.reads_as,
        eq-eqb q.verdict 1 a.valid,
        (signer_exactly q.signer name b.signed.responder).1 a.signer,
        (marks_exactly q.role q.marks a.range.marks).1 a.marks,
        (strange_exactly in_response KnownInResponse response_exactly b.signed.extensions).1 a.understood,
        a.only,
        (strange_exactly in_entry KnownInEntry entry_exactly e.extensions).1 a.entry_understood,
        (times_exactly q e).1 (next, a.ends, a.ordered, a.begun, a.current),
      )

  module _ (h : (m : ℕ) → test_of m (tests (case_of q name s)) ≡ false) where
    -- the rows that speak of the question and of the whole response
    clear_range : InRange q name
    unfolding test_of tests
    clear_range = (range_exactly q name).0 (not-false _ (h 1))

    clear_basic : (b : Basic) × (reading s ≡ reads (basic b))
    unfolding test_of tests
    clear_basic = outcome_basic (reading s) (h 3) (h 4) (h 5)

    module _ (b : Basic) (o : reading s ≡ reads (basic b)) where
      clear_entry : (e : Entry) × (entries_for q.card b.signed.entries ≡ e ∷ [])
      unfolding test_of tests
      clear_entry = entries_one (entries_for q.card b.signed.entries) (rw o at (h 10)) (rw o at (h 11))

      module _ (e : Entry) (p : entries_for q.card b.signed.entries ≡ e ∷ []) where
        clear_times : missed q e ≡ 0
        unfolding test_of tests
        clear_times = missed_none q e (rw (o, p) at (h 13)) (rw (o, p) at (h 14)) (rw (o, p) at (h 15)) (rw (o, p) at (h 16))

        clear_all : (next : ℕ) × Accepted q name s b e next
        unfolding test_of tests
        clear_all =
            let (next, ends, ordered, begun, current) = (times_exactly q e).0 clear_times in (
              next,
              record {
                range = clear_range;
                size = ltb-false 16384 (length s) (h 2);
                reads_as = o;
                valid = eqb-true q.verdict 1 (not-false _ (h 6));
                signer = (signer_exactly q.signer name b.signed.responder).0 (not-false _ (rw o at (h 7)));
                marks = (marks_exactly q.role q.marks clear_range.marks).0 (h 8);
                understood = (strange_exactly in_response KnownInResponse response_exactly b.signed.extensions).0 (rw o at (h 9));
                only = p;
                entry_understood = (strange_exactly in_entry KnownInEntry entry_exactly e.extensions).0 (rw (o, p) at (h 12));
                ends = ends;
                ordered = ordered;
                begun = begun;
                current = current;
              },
            )

  pub clear_exactly : first_of (tests (case_of q name s)) ≡ 0 ↔ (b : Basic) × (e : Entry) × (next : ℕ) × Accepted q name s b e next
  clear_exactly = (
    λ f.
        let h = (tests_none (case_of q name s)).0 f in
        let (b, o) = clear_basic h in
        let (e, p) = clear_entry h b o in
        let (next, a) = clear_all h b o e p in
        (b, e, next, a),
    λ (b, e, next, a). accepted_clear b e next a,
  )
