-- The room's cache (document 02, C-11): where a check's answer was filed, asking gives what the check would give on
-- that response with the same facts at that time and tolerance.
-- asked_at_in_full; as_the_check, as_the_check_since; filed, filed_since; written_says, never_17; desk_says,
-- desk_filed, desk_filed_since; outside_both.
-- `answer_of q name r` is the check (rules: Ruling). `asked_at clock q` is the question q with another time and
-- tolerance, `AsTheCheck q name r s` that every ask of the buffer s, with every time and tolerance, gives what the
-- check gives then, a refusal's number too, and `TakenStale` that the card is not held any more, after the check
-- itself gives 16 at the time of one of the filings (cache_check: Later). `asked q r` is the desk's answer to the
-- octets of a question and a response (question: Asked). `Octets`, `AllOctets` and `Whole` hold of every buffer, slip
-- and card in code. Assumes nothing.
use Rattle.std.specs.Prelude.{ℕ, ◌≤◌, ◌<◌, ◌⊎◌, ◌≡◌, refl, true, false, List, Ok, Err}
use Rattle.octets.specs.Octets.{Octets}
use Rattle.answer.specs.Verdict.{refused}
use Rattle.slip.specs.Slip.{slip_of}
use Rattle.rules.specs.declared.Question.{Question}
use Rattle.rules.specs.Ruling.{answer_of}
use Rattle.rules.specs.Accepted.{NoRefusal}
use Rattle.desk_question.specs.Asked.{question_in, name_in, asked}
use Rattle.freshness.specs.Clock.{clock_ok}
use Rattle.freshness.specs.declared.Clock.{Clock}
use Rattle.cache_rules.specs.declared.Unfiled.TheVariants as unfiled
use Rattle.cache_rules.specs.Place.{says_at, this_of, says_of, WholeCard}
use Rattle.cache_rules.specs.Cache.{place_in, is_cache, filed_of, buffer_of, told, ask_of}
use Rattle.cache_rules.specs.Has.{Has}
use Rattle.cache_rules.specs.Numbers.{filed_number}
use Rattle.cache_rules.specs.Many.{after_all, AllOctets, ForOthers}
use Rattle.cache_check.specs.Later.{asked_at, AsTheCheck, TakenStale}
use Rattle.cache_check.specs.CheckTheorem as check
use Rattle.cache_check.specs.SinceTheorem as since
use Rattle.cache_check.specs.FiledTheorem as filing
use Rattle.cache_check.specs.DeskTheorem as desk

-- the question that the check is asked: the same facts, that time and that tolerance
pub asked_at_in_full : (clock : Clock) (q : Question) → asked_at clock q ≡ record {
  card = q.card;
  now = clock.now;
  tolerance = clock.tolerance;
  verdict = q.verdict;
  role = q.role;
  marks = q.marks;
  signer = q.signer;
}
asked_at_in_full clock q = refl

-- a time or a tolerance out of range gives 1 on both sides
pub outside_both : (clock : Clock) → clock_ok clock ≡ false → (q : Question) (name r s : List ℕ) → is_cache s ≡ true
    → (ask_of clock q.card s ≡ told (refused 1 0)) × (answer_of (asked_at clock q) name r ≡ refused 1 0)
outside_both = check.outside_both

-- ── an answer of the check that is no refusal ──
module _ (q : Question) (name r : List ℕ) (v : NoRefusal (answer_of q name r).verdict) where
  -- a cache in which place i says it: now, and after any filings for other cards
  module _ (s : List ℕ) (o : Octets s) (c : is_cache s ≡ true) (i : ℕ) (b : i < 64) (e : says_at (place_in s i) ≡ answer_of q name r) where
    pub as_the_check : AsTheCheck q name r s
    as_the_check = check.as_the_check q name r s o c v i b e

    pub as_the_check_since : (l : List (Clock × List ℕ)) → AllOctets l → ForOthers q.card l
        → AsTheCheck q name r (after_all s l) ⊎ TakenStale q name r l (after_all s l)
    as_the_check_since = since.as_the_check_since q name r s v i e o c b

  -- a slip t that says it is filed, with any time and tolerance, and accepted, and no later slip was held for the card:
  -- right after the filing, and after any further filings for other cards
  module _ (clock : Clock) (s t : List ℕ) (o : Octets s) (p : Octets t) (n : ℕ) (accepted : filed_of clock s t ≡ Ok n)
      (says : says_of t ≡ answer_of q name r)
      (newest : (i : ℕ) → Has s i q.card → this_of (says_at (place_in s i)).verdict ≤ this_of (answer_of q name r).verdict) where
    pub filed : AsTheCheck q name r (buffer_of clock s t)
    filed = filing.filed_as_the_check clock s t o p n accepted q name r v says newest

    pub filed_since : (l : List (Clock × List ℕ)) → AllOctets l → ForOthers q.card l
        → AsTheCheck q name r (after_all (buffer_of clock s t) l) ⊎ TakenStale q name r l (after_all (buffer_of clock s t) l)
    filed_since = filing.filed_since clock s t o p n accepted q name r v says newest

  -- the slip that slip_write::write_slip writes for the answer is such a slip: it says it, and filing it never gives 17
  module _ (o : Octets r) (w : WholeCard q.card) where
    pub written_says : says_of (slip_of (answer_of q name r)) ≡ answer_of q name r
    written_says = filing.check_slip q name r o v w

    pub never_17 : (clock : Clock) (s : List ℕ)
        → (filed_of clock s (slip_of (answer_of q name r)) ≡ Err unfiled.Slip → ⊥) × (filed_number (filed_of clock s (slip_of (answer_of q name r))) ≡ 17 → ⊥)
    never_17 = filing.never_17 q name r o v w

-- ── the slip that the desk itself wrote for the octets of a question and a response ──
module _ (q r : List ℕ) (o : Octets r) (v : NoRefusal (asked q r).verdict) where
  -- it says what the check answers to the question in those octets
  pub desk_says : says_of (slip_of (asked q r)) ≡ answer_of (question_in 20 q) (name_in 20 q) r
  desk_says = desk.desk_says q r o v

  -- so, once it is filed and accepted and no later slip was held for the card, asking gives what the check gives
  module _ (clock : Clock) (s : List ℕ) (p : Octets s) (t : Octets (slip_of (asked q r)))
      (n : ℕ) (accepted : filed_of clock s (slip_of (asked q r)) ≡ Ok n)
      (newest : (i : ℕ) → Has s i (question_in 20 q).card → this_of (says_at (place_in s i)).verdict ≤ this_of (asked q r).verdict) where
    pub desk_filed : AsTheCheck (question_in 20 q) (name_in 20 q) r (buffer_of clock s (slip_of (asked q r)))
    desk_filed =
        filed (question_in 20 q) (name_in 20 q) r (rw (desk.desk_asked q r v) at v) clock s (slip_of (asked q r)) p t n accepted desk_says
        (rw (desk.desk_asked q r v) at newest)

    pub desk_filed_since : (l : List (Clock × List ℕ)) → AllOctets l → ForOthers (question_in 20 q).card l
        → AsTheCheck (question_in 20 q) (name_in 20 q) r (after_all (buffer_of clock s (slip_of (asked q r))) l)
        ⊎ TakenStale (question_in 20 q) (name_in 20 q) r l (after_all (buffer_of clock s (slip_of (asked q r))) l)
    desk_filed_since =
        filed_since (question_in 20 q) (name_in 20 q) r (rw (desk.desk_asked q r v) at v) clock s (slip_of (asked q r)) p t n accepted desk_says
        (rw (desk.desk_asked q r v) at newest)
