-- What the check answers (demand 2): good, revoked and unknown exactly when document 01's conditions hold, each refusal
-- exactly when its row is the first of the table that applies, and nothing that is old.
-- accepted_in_full, in_range_in_full; good_exactly, revoked_exactly, unknown_exactly, answered_exactly, never_old.
-- Refusals are in Refusals, that no answer is about another card is in OneCard.
-- `answer_of` is what rule_check::check answers for a question, the signer's Name and a response (rules: Ruling).
-- Assumes nothing.
use Rattle.std.specs.Prelude.{ℕ, ◌+◌, ◌≤◌, ◌↔◌, ◌≡◌, true, List, [], ◌∷◌, length, Option}
use Rattle.std.proofs.Math.Option as maybe
use Rattle.std.proofs.Math.Option.{some}
use Rattle.layout.specs.Reading.{good, revoked, unknown, Entry, Basic, basic}
use Rattle.layout.specs.Read.{reads}
use Rattle.layout.proofs.Read.{reading}
use Rattle.answer.specs.Card.{card_ok}
use Rattle.answer.specs.declared.Verdict.TheVariants.{Good, Revoked, Unknown}
use Rattle.rules.specs.declared.Question.{Question}
use Rattle.rules.specs.Order.{entries_for}
use Rattle.rules.specs.Ruling.{reason_in, answer_of}
use Rattle.rules.specs.Accepted.{InRange, Signs, KnownInResponse, KnownInEntry, Understood, Accepted, NoRefusal, HasTimes}
use Rattle.rules.proofs.RulingLaws as ruling

module _ (q : Question) (name s : List ℕ) where
  -- ── the conditions, in full ──

  -- a question is in range: the serial rule, now, tolerance, verdict, role from 1 to 3, marks, and the Name's size
  pub in_range_in_full : InRange q name
      ↔ (card_ok q.card ≡ true)
      × (q.now ≤ 253402300799)
      × (q.tolerance ≤ 3600)
      × (q.verdict ≤ 2)
      × (1 ≤ q.role)
      × (q.role ≤ 3)
      × (q.marks ≤ 7)
      × (length name ≤ 256)
  in_range_in_full = (
    λ r. (r.serial, r.now, r.tolerance, r.verdict, r.role_least, r.role_most, r.marks, r.name_size),
    λ (a, b, c, d, e, f, g, h). record { serial = a; now = b; tolerance = c; verdict = d; role_least = e; role_most = f; marks = g; name_size = h },
  )

  -- a response is accepted, from the entry e of its reading b, whose nextUpdate is next: the question is in range (1);
  -- at most 16,384 octets (2); it fits, and is a basic response (3, 4, 5); verdict 1 (6); the responder id is the signer's
  -- (7); a delegate has all marks (8); critical response extensions are understood (9); e is for the card, and no other
  -- entry is (10, 11); e's critical extensions are understood (12); e has a nextUpdate (13), which is not before
  -- thisUpdate (14); thisUpdate is not after now (15); now is not after nextUpdate plus tolerance (16)
  pub accepted_in_full : (b : Basic) (e : Entry) (next : ℕ)
      → Accepted q name s b e next
      ↔ InRange q name
      × (length s ≤ 16384)
      × (reading s ≡ reads (basic b))
      × (q.verdict ≡ 1)
      × Signs q.signer name b.signed.responder
      × (q.role ≡ 2 → q.marks ≡ 7)
      × Understood KnownInResponse b.signed.extensions
      × (entries_for q.card b.signed.entries ≡ e ∷ [])
      × Understood KnownInEntry e.extensions
      × (e.next_update ≡ some next)
      × (e.this_update ≤ next)
      × (e.this_update ≤ q.now)
      × (q.now ≤ next + q.tolerance)
  accepted_in_full b e next = (
    λ a. (a.range, a.size, a.reads_as, a.valid, a.signer, a.marks, a.understood, a.only, a.entry_understood, a.ends, a.ordered, a.begun, a.current),
    λ (a₁, a₂, a₃, a₄, a₅, a₆, a₇, a₈, a₉, b₁, b₂, b₃, b₄). record {
      range = a₁;
      size = a₂;
      reads_as = a₃;
      valid = a₄;
      signer = a₅;
      marks = a₆;
      understood = a₇;
      only = a₈;
      entry_understood = a₉;
      ends = b₁;
      ordered = b₂;
      begun = b₃;
      current = b₄;
    },
  )

  -- ── the answers ──

  -- the answer is no refusal exactly when the response is accepted
  pub answered_exactly : NoRefusal (answer_of q name s).verdict ↔ (b : Basic) × (e : Entry) × (next : ℕ) × Accepted q name s b e next
  answered_exactly = ruling.accepted_exactly q name s

  -- good exactly when it is accepted and the entry's status is good
  pub good_exactly : (this next : ℕ)
      → (answer_of q name s).verdict ≡ Good this next
      ↔ (b : Basic) × (e : Entry) × Accepted q name s b e next × (e.status ≡ good) × (e.this_update ≡ this)
  good_exactly = ruling.good_exactly q name s

  -- revoked, at a time and for a reason or none, exactly when it is accepted and the entry's status is that
  pub revoked_exactly : (this next at : ℕ) (reason : Option ℕ)
      → (answer_of q name s).verdict ≡ Revoked this next at reason
      ↔ (b : Basic) × (e : Entry) × (r : maybe.Option ℕ) × Accepted q name s b e next × (e.status ≡ revoked at r) × (reason_in r ≡ reason) × (e.this_update ≡ this)
  revoked_exactly = ruling.revoked_exactly q name s

  -- unknown exactly when it is accepted and the entry's status is unknown
  pub unknown_exactly : (this next : ℕ)
      → (answer_of q name s).verdict ≡ Unknown this next
      ↔ (b : Basic) × (e : Entry) × Accepted q name s b e next × (e.status ≡ unknown) × (e.this_update ≡ this)
  unknown_exactly = ruling.unknown_exactly q name s

  -- no answer is old: good, revoked and unknown carry a thisUpdate and a nextUpdate, and now lies from the one to the
  -- other plus the tolerance, which is at most an hour
  pub never_old : (this next : ℕ) → HasTimes (answer_of q name s).verdict this next
      → (this ≤ next) × (this ≤ q.now) × (q.now ≤ next + q.tolerance) × (q.tolerance ≤ 3600)
  never_old = ruling.never_old q name s
