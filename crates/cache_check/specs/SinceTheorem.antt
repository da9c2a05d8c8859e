-- Theorem of a check's answer after many filings (document 02, C-11), for crate promises to cite: it is told as the
-- check would tell it, until its place is taken at a time when the check itself gives 16.
-- as_the_check_since.
-- Many filings are in crate cache_rules (Many, ManyTheorem); one filing is in FiledTheorem. Assumes nothing.
use Rattle.std.specs.Prelude.{ℕ, ◌<◌, ◌⊎◌, ◌≡◌, true, List}
use Rattle.std.proofs.Common.{arith, inl, inr, ⊎_elim, sym, ◌∙◌}
use Rattle.std.proofs.Math.Path.{ap}
use Rattle.octets.specs.Octets.{Octets}
use Rattle.answer.specs.declared.Answer.{Answer}
use Rattle.answer.specs.Card.{card_ok}
use Rattle.answer.specs.Verdict.{refused}
use Rattle.rules.specs.declared.Question.{Question}
use Rattle.rules.specs.Ruling.{answer_of}
use Rattle.rules.specs.Accepted.{NoRefusal}
use Rattle.rules.proofs.RulingLaws.{accepted_exactly, accepted_answer}
use Rattle.rules.proofs.RefusalLaws.{refusal_placeless}
use Rattle.freshness.specs.declared.Clock.{Clock}
use Rattle.cache_rules.specs.Place.{places, slip_in, says_at, WholeCard}
use Rattle.cache_rules.proofs.PlaceLaws.{read_sized}
use Rattle.cache_rules.specs.Cache.{place_in, is_cache, told}
use Rattle.cache_rules.proofs.AskLaws.{told_verdict, told_same}
use Rattle.cache_rules.proofs.AskTheorem.{not_held_exactly}
use Rattle.cache_rules.specs.Many.{after_all, AllOctets, ForOthers}
use Rattle.cache_rules.proofs.ManyTheorem.{all_octets, all_kept, since}
use Rattle.cache_check.specs.Later.{asked_at, AsTheCheck, TakenStale}
use Rattle.cache_check.specs.CheckTheorem.{as_the_check}

module _ (q : Question) (name r s : List ℕ) (n : NoRefusal (answer_of q name r).verdict) (i : ℕ) (e : says_at (place_in s i) ≡ answer_of q name r) where
  -- the card of an accepted question is in range, and one that a slip says has twenty octets in each part
  question_card : (card_ok q.card ≡ true) × WholeCard q.card
  unfolding says_at
  question_card =
      let (basic, entry, next, a) = (accepted_exactly q name r).0 n in
      let w : (says_at (place_in s i)).card ≡ q.card = ap (λ (x : Answer). x.card) (e ∙ accepted_answer q name r basic entry next a) in
      (a.range.serial, rw w at (read_sized (slip_in (place_in s i))))

  -- an answer that is told as 16 is refusal 16
  told_stale : (later : Clock) → told (answer_of (asked_at later q) name r) ≡ told (refused 16 0) → answer_of (asked_at later q) name r ≡ refused 16 0
  unfolding refused
  told_stale later x =
      let a = answer_of (asked_at later q) name r in
      refusal_placeless (asked_at later q) name r 16 0 (told_verdict a (refused 16 0) x) (λ z. omega arith) ∙ told_same a (refused 16 0) x

  -- where a slip says what the check answered, asking after any filings for other cards gives what the check gives; or
  -- the card's place was taken stale
  pub as_the_check_since : Octets s → is_cache s ≡ true → i < places
      → (l : List (Clock × List ℕ)) → AllOctets l → ForOthers q.card l
      → AsTheCheck q name r (after_all s l) ⊎ TakenStale q name r l (after_all s l)
  as_the_check_since o c b l p h =
      let (f, z) = question_card in
      ⊎_elim
      (λ x. inl (λ later. x later ∙ as_the_check q name r s o c n i b e later))
      (λ ((g, m, x), y).
      inr (
        (g, m, told_stale g.0 (sym (as_the_check q name r s o c n i b e g.0) ∙ x)),
        λ later k. (not_held_exactly later q.card (after_all s l) (all_octets s l o p) (all_kept s l p c) k f).1 y,
      ))
      (since q.card z f s l o p h)
