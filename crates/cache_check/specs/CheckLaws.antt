-- The check at another clock: for a response that was accepted, the tests that do not look at the clock pass as they
-- did, and the two that do decide.
-- answer_outside, answer_inside.
-- The check is in crate rules, `asked_at` in Later. Assumes nothing.
use Rattle.std.specs.Prelude.{ℕ, ◌+◌, ◌≤◌, ◌≡◌, refl, Bool, true, false, ◌&&◌, List, eqb, ltb, length}
use Rattle.std.proofs.Common.{sym, ◌∙◌, eq-eqb, le-ltb, ltb-true, ltb-false}
use Rattle.octets.specs.SameLaws.{impossible}
use Rattle.layout.specs.Reading.{Status, good, revoked, unknown, Entry, Basic}
use Rattle.answer.specs.declared.Answer.{Answer}
use Rattle.answer.specs.Verdict.{saying, refused}
use Rattle.rules.specs.declared.Question.{Question}
use Rattle.rules.specs.Question.{in_range}
use Rattle.rules.specs.Signer.{is_signer, in_response, in_entry, strange_in}
use Rattle.rules.specs.Order.{lacks_mark}
use Rattle.rules.specs.Ruling.{said, answer_of}
use Rattle.rules.specs.Accepted.{InRange, KnownInResponse, KnownInEntry, Accepted}
use Rattle.rules.proofs.AcceptedLaws.{range_exactly, signer_exactly, marks_exactly, strange_exactly, response_exactly, entry_exactly}
use Rattle.rules.proofs.TimesLaws.{missed_15, missed_16, times_exactly}
use Rattle.rules.proofs.RowLaws.{row_15, row_16, row_none}
use Rattle.rules.proofs.RefusalLaws.{out_of_range}
use Rattle.freshness.specs.declared.Clock.{Clock}
use Rattle.cache_rules.specs.Place.{this_of, next_of}
use Rattle.freshness.specs.Clock.{clock_ok}
use Rattle.cache_rules.specs.Cache.{said_at}
use Rattle.freshness.specs.ClockLaws.{clock_exactly}
use Rattle.cache_check.specs.Later.{asked_at}
use Rattle.cache_rules.proofs.AskLaws.{said_early, said_late, said_within}

said_this : (x : Status) (this next : ℕ) → this_of (said x this next) ≡ this
said_this good this next = refl
said_this unknown this next = refl
said_this (revoked at r) this next = refl

said_next : (x : Status) (this next : ℕ) → next_of (said x this next) ≡ next
said_next good this next = refl
said_next unknown this next = refl
said_next (revoked at r) this next = refl

module _ (clock : Clock) (q : Question) (name s : List ℕ) where
  abbrev later : Question
  later = asked_at clock q

  -- a question that was in range is in range at a clock that is
  range_at : InRange q name → clock_ok clock ≡ true → in_range later name ≡ true
  range_at r k =
      let c = (clock_exactly clock).0 k in
      (range_exactly later name).1
      (record {
        serial = r.serial;
        now = c.0;
        tolerance = c.1;
        verdict = r.verdict;
        role_least = r.role_least;
        role_most = r.role_most;
        marks = r.marks;
        name_size = r.name_size;
      })

  -- at one that is not, it is not, and gives 1
  pub answer_outside : clock_ok clock ≡ false → answer_of later name s ≡ refused 1 0
  answer_outside k = out_of_range later name s (go (in_range later name) refl)
    where
      go : (t : Bool) → in_range later name ≡ t → in_range later name ≡ false
      go false e = e
      go true e =
          let r = (range_exactly later name).0 e in
          impossible (sym k ∙ (clock_exactly clock).1 (r.now, r.tolerance))

  module _ (b : Basic) (e : Entry) (next : ℕ) (a : Accepted q name s b e next) (k : clock_ok clock ≡ true) where
    abbrev this : ℕ
    this = e.this_update

    abbrev answer : Answer
    answer = saying (said e.status this next) q.card

    -- the tests that do not look at the clock
    size : ltb 16384 (length s) ≡ false
    size = le-ltb 16384 (length s) a.size

    valid : eqb q.verdict 1 ≡ true
    valid = eq-eqb q.verdict 1 a.valid

    signer : is_signer q.signer name b.signed.responder ≡ true
    signer = (signer_exactly q.signer name b.signed.responder).1 a.signer

    marks : eqb q.role 2 && lacks_mark q.marks ≡ false
    marks = (marks_exactly q.role q.marks a.range.marks).1 a.marks

    clear : strange_in in_response b.signed.extensions ≡ false
    clear = (strange_exactly in_response KnownInResponse response_exactly b.signed.extensions).1 a.understood

    known : strange_in in_entry e.extensions ≡ false
    known = (strange_exactly in_entry KnownInEntry entry_exactly e.extensions).1 a.entry_understood

    range : in_range later name ≡ true
    range = range_at a.range k

    ordered : this_of answer.verdict ≤ next_of answer.verdict
    ordered = rw (said_this e.status this next, said_next e.status this next) a.ordered

    -- and those that do
    pub answer_inside : said_at clock answer ≡ answer_of later name s
    answer_inside = go (ltb clock.now this) (ltb (next + clock.tolerance) clock.now) refl refl
      where
        i : this_of answer.verdict ≡ this
        i = said_this e.status this next

        j : next_of answer.verdict ≡ next
        j = said_next e.status this next

        go : (t u : Bool) → ltb clock.now this ≡ t → ltb (next + clock.tolerance) clock.now ≡ u → said_at clock answer ≡ answer_of later name s
        go true u x y =
            let h = ltb-true clock.now this x in
            said_early clock answer ordered (rw i h)
            ∙ sym
            (row_15 later name s range size b a.reads_as valid signer marks clear e a.only known
            ((missed_15 later e next a.ends a.ordered).1 h))
        go false true x y =
            let g = ltb-false clock.now this x in
            let h = ltb-true (next + clock.tolerance) clock.now y in
            said_late clock answer ordered (rw i g) (rw j h)
            ∙ sym
            (row_16 later name s range size b a.reads_as valid signer marks clear e a.only known
            ((missed_16 later e next a.ends a.ordered g).1 h))
        go false false x y =
            let g = ltb-false clock.now this x in
            let h = ltb-false (next + clock.tolerance) clock.now y in
            said_within clock answer ordered (rw i g) (rw j h)
            ∙ sym
            (row_none later name s range size b a.reads_as valid signer marks clear e a.only known next a.ends
            ((times_exactly later e).1 (next, a.ends, a.ordered, g, h)))
