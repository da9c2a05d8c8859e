-- The table row by row: what is answered where a row applies and none before it does, by what the response
-- reads as; and what is answered where none applies.
-- row_2 to row_16, row_none. Row 1 is out-of-range in RefusalLaws. The definitions are in Order and Ruling.
-- Assumes nothing.
use Rattle.std.specs.Prelude.{ℕ, ◌≡◌, true, false, ◌&&◌, List, [], ◌∷◌, eqb, ltb, length, Some}
use Rattle.std.proofs.Math.Option.{some}
use Rattle.layout.specs.Reading.{Entry, Basic, failed, basic}
use Rattle.layout.specs.Read.{reads, other_type, unfit}
use Rattle.layout.proofs.Read.{reading}
use Rattle.answer.specs.Verdict.{saying, refused_at, refused}
use Rattle.rules.specs.declared.Question.{Question}
use Rattle.rules.specs.Question.{in_range}
use Rattle.rules.specs.Signer.{is_signer, in_response, in_entry, strange_in}
use Rattle.rules.specs.Order.{entries_for, lacks_mark, missed, tests, first_of}
use Rattle.rules.specs.Ruling.{said, answer_of}

module _ (q : Question) (name s : List ℕ) (range : in_range q name ≡ true) where
  pub row_2 : ltb 16384 (length s) ≡ true → answer_of q name s ≡ refused 2 0
  unfolding answer_of tests first_of refused
  row_2 h = rw (range, h)

  module _ (size : ltb 16384 (length s) ≡ false) where
    pub row_3 : (p : ℕ) → reading s ≡ unfit p → answer_of q name s ≡ refused_at 3 0 (Some p)
    unfolding answer_of tests first_of
    row_3 p r = rw (range, size, r)

    pub row_4 : (n : ℕ) → reading s ≡ reads (failed n) → answer_of q name s ≡ refused 4 n
    unfolding answer_of tests first_of refused
    row_4 n r = rw (range, size, r)

    pub row_5 : reading s ≡ other_type → answer_of q name s ≡ refused 5 0
    unfolding answer_of tests first_of refused
    row_5 r = rw (range, size, r)

    module _ (b : Basic) (r : reading s ≡ reads (basic b)) where
      pub row_6 : eqb q.verdict 1 ≡ false → answer_of q name s ≡ refused 6 0
      unfolding answer_of tests first_of refused
      row_6 h = rw (range, size, r, h)

      module _ (valid : eqb q.verdict 1 ≡ true) where
        pub row_7 : is_signer q.signer name b.signed.responder ≡ false → answer_of q name s ≡ refused 7 0
        unfolding answer_of tests first_of refused
        row_7 h = rw (range, size, r, valid, h)

        module _ (signer : is_signer q.signer name b.signed.responder ≡ true) where
          pub row_8 : eqb q.role 2 && lacks_mark q.marks ≡ true → answer_of q name s ≡ refused 8 0
          unfolding answer_of tests first_of refused
          row_8 h = rw (range, size, r, valid, signer, h)

          module _ (marks : eqb q.role 2 && lacks_mark q.marks ≡ false) where
            pub row_9 : strange_in in_response b.signed.extensions ≡ true → answer_of q name s ≡ refused 9 0
            unfolding answer_of tests first_of refused
            row_9 h = rw (range, size, r, valid, signer, marks, h)

            module _ (clear : strange_in in_response b.signed.extensions ≡ false) where
              pub row_10 : entries_for q.card b.signed.entries ≡ [] → answer_of q name s ≡ refused 10 0
              unfolding answer_of tests first_of refused
              row_10 h = rw (range, size, r, valid, signer, marks, clear, h)

              pub row_11 : (e e' : Entry) (l : List Entry) → entries_for q.card b.signed.entries ≡ e ∷ e' ∷ l → answer_of q name s ≡ refused 11 0
              unfolding answer_of tests first_of refused
              row_11 e e' l h = rw (range, size, r, valid, signer, marks, clear, h)

              module _ (e : Entry) (one : entries_for q.card b.signed.entries ≡ e ∷ []) where
                pub row_12 : strange_in in_entry e.extensions ≡ true → answer_of q name s ≡ refused 12 0
                unfolding answer_of tests first_of refused
                row_12 h = rw (range, size, r, valid, signer, marks, clear, one, h)

                module _ (known : strange_in in_entry e.extensions ≡ false) where
                  pub row_13 : missed q e ≡ 13 → answer_of q name s ≡ refused 13 0
                  unfolding answer_of tests first_of refused
                  row_13 h = rw (range, size, r, valid, signer, marks, clear, one, known, h)

                  pub row_14 : missed q e ≡ 14 → answer_of q name s ≡ refused 14 0
                  unfolding answer_of tests first_of refused
                  row_14 h = rw (range, size, r, valid, signer, marks, clear, one, known, h)

                  pub row_15 : missed q e ≡ 15 → answer_of q name s ≡ refused 15 0
                  unfolding answer_of tests first_of refused
                  row_15 h = rw (range, size, r, valid, signer, marks, clear, one, known, h)

                  pub row_16 : missed q e ≡ 16 → answer_of q name s ≡ refused 16 0
                  unfolding answer_of tests first_of refused
                  row_16 h = rw (range, size, r, valid, signer, marks, clear, one, known, h)

                  pub row_none : (end : ℕ) → e.next_update ≡ some end → missed q e ≡ 0
                      → answer_of q name s ≡ saying (said e.status e.this_update end) q.card
                  unfolding answer_of tests first_of
                  row_none end i h = rw (range, size, r, valid, signer, marks, clear, one, known, h, i)
