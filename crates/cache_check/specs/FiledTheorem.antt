-- Theorems of filing a check's answer (document 02, C-11), for crate promises to cite: the slip of an answer that is
-- no refusal may be filed, it says that answer, and asking for its card then gives what the check gives.
-- filed_says, filed_as_the_check, filed_since; check_slip, never_17.
-- `slip_of` is what slip_write::write_slip writes. Assumes nothing.
use Rattle.std.specs.Prelude.{ℕ, ◌≤◌, ◌⊎◌, ◌≡◌, true, List, None, Ok, Err}
use Rattle.std.proofs.Common.{⊎_elim, sym, ap, ◌∙◌}
use Rattle.octets.specs.Octets.{Octets}
use Rattle.octets.specs.SameLaws.{impossible}
use Rattle.answer.specs.declared.Answer.{Answer}
use Rattle.slip.specs.Slip.{card_octets, slip_of}
use Rattle.slip.specs.SlipLaws.{read_written}
use Rattle.rules.specs.declared.Question.{Question}
use Rattle.rules.specs.Ruling.{answer_of}
use Rattle.rules.specs.Accepted.{NoRefusal}
use Rattle.rules.proofs.RulingLaws.{accepted_exactly, accepted_answer, accepted_placeless}
use Rattle.desk_question.proofs.FitsLaws.{answer_fits}
use Rattle.freshness.specs.declared.Clock.{Clock}
use Rattle.cache_rules.specs.declared.Unfiled.TheVariants as unfiled
use Rattle.cache_rules.specs.Place.{says_at, is_said, place_of, this_of, says_of, WholeCard}
use Rattle.cache_rules.specs.Cache.{place_in, takes, filing_refusal, filed_of, buffer_of}
use Rattle.cache_rules.specs.Has.{Has}
use Rattle.cache_rules.specs.Numbers.{filed_number}
use Rattle.cache_rules.proofs.RefusalLaws.{count_accepted}
use Rattle.cache_rules.proofs.FilingLaws.{was_cache, takes_one}
use Rattle.cache_rules.proofs.AfterLaws.{after_octets, place_new}
use Rattle.cache_rules.proofs.HeldLaws.{somewhere}
use Rattle.cache_rules.proofs.RefusalTheorem.{refused_17}
use Rattle.cache_rules.proofs.FileTheorem.{kept, filed_same, filed_later, new_says}
use Rattle.cache_rules.specs.Many.{after_all, AllOctets, ForOthers}
use Rattle.cache_check.specs.Later.{AsTheCheck, TakenStale}
use Rattle.cache_check.specs.CheckTheorem.{no_refusal_said, as_the_check}
use Rattle.cache_check.specs.SinceTheorem.{as_the_check_since}

-- a slip t that says the check's answer is filed into s at a time and accepted, and no place held a later slip for its
-- card
module _ (clock : Clock) (s t : List ℕ) (p : Octets s) (o : Octets t) (n : ℕ) (accepted : filed_of clock s t ≡ Ok n)
    (q : Question) (name r : List ℕ) (v : NoRefusal (answer_of q name r).verdict) (d : says_of t ≡ answer_of q name r)
    (w : (i : ℕ) → Has s i q.card → this_of (says_at (place_in s i)).verdict ≤ this_of (answer_of q name r).verdict) where
  e : filing_refusal clock s t ≡ None
  e = count_accepted clock s t n accepted

  card_same : (says_of t).card ≡ q.card
  card_same =
      let (basic, entry, next, a) = (accepted_exactly q name r).0 v in
      ap (λ (x : Answer). x.card) (d ∙ accepted_answer q name r basic entry next a)

  place : place_in (buffer_of clock s t) (takes clock s t) ≡ place_of t
  place =
      ⊎_elim
      (λ (i, b, h).
      ap (place_in (buffer_of clock s t)) (filed_same clock s t o n accepted i (b, h) p)
      ∙ filed_later clock s t o n accepted i (b, h) p (rw d (w i (b, h ∙ ap card_octets card_same))))
      (λ h. place_new clock s t e o h)
      (somewhere (says_of t).card s p (was_cache clock s t e))

  -- the place taken says the answer
  pub filed_says : says_at (place_in (buffer_of clock s t) (takes clock s t)) ≡ answer_of q name r
  filed_says = ap says_at place ∙ new_says clock s t o n accepted ∙ d

  -- asking then gives what the check gives
  pub filed_as_the_check : AsTheCheck q name r (buffer_of clock s t)
  filed_as_the_check =
      as_the_check q name r (buffer_of clock s t) (after_octets clock s t p o) (kept clock s t o n accepted) v
      (takes clock s t) (takes_one clock s t e) filed_says

  -- and so after any further filings for other cards, or else the card is not held
  pub filed_since : (l : List (Clock × List ℕ)) → AllOctets l → ForOthers q.card l
      → AsTheCheck q name r (after_all (buffer_of clock s t) l) ⊎ TakenStale q name r l (after_all (buffer_of clock s t) l)
  filed_since =
      as_the_check_since q name r (buffer_of clock s t) v (takes clock s t) filed_says
      (after_octets clock s t p o) (kept clock s t o n accepted) (takes_one clock s t e)

module _ (q : Question) (name r : List ℕ) (o : Octets r) (n : NoRefusal (answer_of q name r).verdict) (w : WholeCard q.card) where
  -- the slip that the desk writes for the answer says the answer
  pub check_slip : says_of (slip_of (answer_of q name r)) ≡ answer_of q name r
  check_slip =
      let (basic, entry, next, a) = (accepted_exactly q name r).0 n in
      let e = ap (λ (x : Answer). x.card) (accepted_answer q name r basic entry next a) in
      read_written (answer_of q name r) (answer_fits q name r o) 20 (λ c. rw e w) ∙ accepted_placeless q name r n

  -- filing it never gives 17
  pub never_17 : (clock : Clock) (s : List ℕ)
      → (filed_of clock s (slip_of (answer_of q name r)) ≡ Err unfiled.Slip → ⊥) × (filed_number (filed_of clock s (slip_of (answer_of q name r))) ≡ 17 → ⊥)
  never_17 clock s =
      let x = refused_17 clock s (slip_of (answer_of q name r)) in
      let said : is_said (says_of (slip_of (answer_of q name r))) ≡ true = ap is_said check_slip ∙ no_refusal_said (answer_of q name r) n in
      (λ e. impossible (sym (x.0.0 e).2 ∙ said), λ e. impossible (sym (x.1.0 e).2 ∙ said))
