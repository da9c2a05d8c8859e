-- The order of refusals as data: document 01's table from 1 to 16, row by row, and the first that
-- applies.
-- Case; tests, first_of. What is answered then is in Ruling.
-- Assumes nothing.
use Rattle.std.specs.Prelude.{ℕ, ◌%◌, Bool, true, false, cond, ◌&&◌, not, List, [], ◌∷◌, ltb, eqb, None, Some, Option}
use Rattle.std.proofs.Math.Option as maybe
use Rattle.std.proofs.Math.Option.{none, some}
use Rattle.layout.specs.Reading.{Entry, Basic, failed, basic}
use Rattle.layout.specs.Read.{Outcome, reads, other_type, unfit}
use Rattle.freshness.specs.Fresh.{fresh_of, fresh_refusal}
use Rattle.answer.specs.declared.Card.{Card}
use Rattle.rule_matching.specs.Match.{is_for}
use Rattle.rules.specs.declared.Question.{Question}
use Rattle.rules.specs.Question.{in_range}
use Rattle.rules.specs.Signer.{is_signer, in_response, in_entry, strange_in}

-- everything that the check is asked: the question, the signer's Name, the response's size and what
-- it reads as
pub record Case : Type 0 where
  pub question : Question
  pub name : List ℕ
  pub size : ℕ
  pub outcome : Outcome

-- ── what the tests look at ──
abbrev pub is_unfit : Outcome → Bool
is_unfit (unfit p) = true
is_unfit other_type = false
is_unfit (reads r) = false

abbrev pub is_other : Outcome → Bool
is_other (unfit p) = false
is_other other_type = true
is_other (reads r) = false

abbrev pub is_failed : Outcome → Bool
is_failed (unfit p) = false
is_failed other_type = false
is_failed (reads (failed n)) = true
is_failed (reads (basic b)) = false

-- the status of an error response, else 0
abbrev pub status_in : Outcome → ℕ
status_in (unfit p) = 0
status_in other_type = 0
status_in (reads (failed n)) = n
status_in (reads (basic b)) = 0

-- the place of a response that does not fit, else none
abbrev pub misfit_in : Outcome → Option ℕ
misfit_in (unfit p) = Some p
misfit_in other_type = None
misfit_in (reads r) = None

-- what is so of the basic response, where there is one
abbrev pub in_basic : Outcome → (Basic → Bool) → Bool
in_basic (unfit p) f = false
in_basic other_type f = false
in_basic (reads (failed n)) f = false
in_basic (reads (basic b)) f = f b

-- the entries for a card, in order
unfoldable pub entries_for : Card → List Entry → List Entry
entries_for card [] = []
entries_for card (e ∷ l) = cond (is_for card e.cert) (e ∷ entries_for card l) (entries_for card l)

-- what is so of the only one of some entries
abbrev pub of_only : List Entry → (Entry → Bool) → Bool
of_only [] f = false
of_only (e ∷ []) f = f e
of_only (e ∷ e' ∷ l) f = false

abbrev pub is_none : List Entry → Bool
is_none [] = true
is_none (e ∷ l) = false

abbrev pub are_more : List Entry → Bool
are_more [] = false
are_more (e ∷ []) = false
are_more (e ∷ e' ∷ l) = true

-- one of the three marks is missing
abbrev pub lacks_mark : ℕ → Bool
lacks_mark marks = not (eqb (marks % 8) 7)

-- an entry's nextUpdate, absent or present
abbrev pub next_in : maybe.Option ℕ → Option ℕ
next_in none = None
next_in (some n) = Some n

-- the number of the rule that an entry's times miss first, 13 to 16, or 0
abbrev pub missed : Question → Entry → ℕ
missed q e = fresh_refusal (fresh_of e.this_update (next_in e.next_update) q.now q.tolerance)

-- ── the table ──
module _ (c : Case) where
  -- a test of the basic response, and a test of the only entry for the card
  abbrev pub of_response : (Basic → Bool) → Bool
  of_response f = in_basic c.outcome f

  abbrev pub of_entry : (Entry → Bool) → Bool
  of_entry f = in_basic c.outcome (λ b. of_only (entries_for c.question.card b.signed.entries) f)

  unfoldable pub tests : List (ℕ × Bool)
  tests =
      -- question out of range
      (1, not (in_range c.question c.name))
      -- response longer than 16,384 octets
      ∷ (2, ltb 16384 c.size)
      -- octets don't fit the layout
      ∷ (3, is_unfit c.outcome)
      -- response status is 1, 2, 3, 5 or 6
      ∷ (4, is_failed c.outcome)
      -- response type is not the basic one
      ∷ (5, is_other c.outcome)
      -- verdict is not 1
      ∷ (6, not (eqb c.question.verdict 1))
      -- responder id is not the signer's
      ∷ (7, of_response (λ b. not (is_signer c.question.signer c.name b.signed.responder)))
      -- role is 2 and one of the three marks is missing
      ∷ (8, eqb c.question.role 2 && lacks_mark c.question.marks)
      -- a critical response extension is not understood
      ∷ (9, of_response (λ b. strange_in in_response b.signed.extensions))
      -- no entry is for this card
      ∷ (10, of_response (λ b. is_none (entries_for c.question.card b.signed.entries)))
      -- two or more entries are for this card
      ∷ (11, of_response (λ b. are_more (entries_for c.question.card b.signed.entries)))
      -- a critical extension of that entry is not understood
      ∷ (12, of_entry (λ e. strange_in in_entry e.extensions))
      -- that entry has no nextUpdate
      ∷ (13, of_entry (λ e. eqb (missed c.question e) 13))
      -- nextUpdate is before thisUpdate
      ∷ (14, of_entry (λ e. eqb (missed c.question e) 14))
      -- thisUpdate is after now
      ∷ (15, of_entry (λ e. eqb (missed c.question e) 15))
      -- now is after nextUpdate plus tolerance
      ∷ (16, of_entry (λ e. eqb (missed c.question e) 16))
      ∷ []

-- the number of the first test that applies, 0 where none does
unfoldable pub first_of : List (ℕ × Bool) → ℕ
first_of [] = 0
first_of (t ∷ l) = cond t.1 t.0 (first_of l)
