-- A question at another time and with another tolerance, and asking a cache as against the check (document 02, C-11).
-- asked_at; AsTheCheck, TakenStale.
-- `answer_of` is the check (rules: Ruling), `ask_of` asking a buffer (cache_rules: Cache). Assumes nothing.
use Rattle.std.specs.Prelude.{ℕ, ◌≡◌, true}
use mathlib.Core.List.{List, Memᴰ}
use Rattle.answer.specs.Verdict.{refused}
use Rattle.freshness.specs.Clock.{clock_ok}
use Rattle.freshness.specs.declared.Clock.{Clock}
use Rattle.rules.specs.declared.Question.{Question}
use Rattle.rules.specs.Ruling.{answer_of}
use Rattle.cache_rules.specs.Cache.{told, not_held, ask_of}

-- the same question, with that time and tolerance in place of its own
abbrev pub asked_at : Clock → Question → Question
asked_at clock q = record {
  card = q.card;
  now = clock.now;
  tolerance = clock.tolerance;
  verdict = q.verdict;
  role = q.role;
  marks = q.marks;
  signer = q.signer;
}

module _ (q : Question) (name r : List ℕ) where
  -- at every time and with every tolerance, asking the buffer s for the question's card gives what the check answers to
  -- the same question, Name and response with that time and tolerance
  abbrev pub AsTheCheck : List ℕ → Type 0
  AsTheCheck s = (clock : Clock) → ask_of clock q.card s ≡ told (answer_of (asked_at clock q) name r)

  -- at the time and tolerance of one of these filings the check itself gives 16, and the buffer s has the card no more
  abbrev pub TakenStale : List (Clock × List ℕ) → List ℕ → Type 0
  TakenStale l s =
      ((g : Clock × List ℕ) × Memᴰ g l × (answer_of (asked_at g.0 q) name r ≡ refused 16 0))
      × ((clock : Clock) → clock_ok clock ≡ true → ask_of clock q.card s ≡ not_held)
