-- Laws of the numbers: what a filing and an ask answer, told from its number.
-- unfiled_some, number_told, filed_number_lem; asked_number_lem.
-- The definitions are in Numbers. Assumes nothing.
use Rattle.std.specs.Prelude.{ℕ, ◌<◌, ◌↔◌, ◌≡◌, refl, true, List, Ok, Err}
use Rattle.std.proofs.Common.{arith, sym, ap, ◌∙◌}
use Rattle.octets.specs.Octets.{Octets}
use Rattle.answer.specs.declared.Card.{Card}
use Rattle.answer.specs.declared.Answer.{Answer}
use Rattle.answer.specs.declared.Verdict.{Verdict}
use Rattle.answer.specs.declared.Verdict.TheVariants as verdict
use Rattle.answer.specs.Verdict.{kind_of, number_of, refused}
use Rattle.answer.specs.VerdictLaws.{refused_number}
use Rattle.freshness.specs.declared.Clock.{Clock}
use Rattle.cache_rules.specs.declared.Unfiled.{Unfiled}
use Rattle.cache_rules.specs.declared.Unfiled.TheVariants as unfiled
use Rattle.cache_rules.specs.declared.Told.{Told}
use Rattle.cache_rules.specs.Place.{says_at, is_said}
use Rattle.cache_rules.proofs.PlaceLaws.{said_kind}
use Rattle.cache_rules.specs.Cache.{place_in, filed_of, told, not_held, ask_of}
use Rattle.cache_rules.proofs.AskLaws.{told_verdict, told_held}
use Rattle.cache_rules.proofs.OutcomeTheorem.{outcome}
use Rattle.cache_rules.specs.Numbers.{Filed, unfiled_number, filed_number, asked_number}

-- ---- filing

-- no refusal has the number 0
pub unfiled_some : (e : Unfiled) → 0 < unfiled_number e
unfiled_some unfiled.NoCache = omega arith
unfiled_some unfiled.Clock = omega arith
unfiled_some unfiled.Slip = omega arith
unfiled_some unfiled.Full = omega arith

-- no two refusals have one number
unfiled_told : (x e : Unfiled) → unfiled_number x ≡ unfiled_number e → x ≡ e
unfiled_told unfiled.NoCache unfiled.NoCache q = refl
unfiled_told unfiled.NoCache unfiled.Clock q = absurd (omega arith)
unfiled_told unfiled.NoCache unfiled.Slip q = absurd (omega arith)
unfiled_told unfiled.NoCache unfiled.Full q = absurd (omega arith)
unfiled_told unfiled.Clock unfiled.NoCache q = absurd (omega arith)
unfiled_told unfiled.Clock unfiled.Clock q = refl
unfiled_told unfiled.Clock unfiled.Slip q = absurd (omega arith)
unfiled_told unfiled.Clock unfiled.Full q = absurd (omega arith)
unfiled_told unfiled.Slip unfiled.NoCache q = absurd (omega arith)
unfiled_told unfiled.Slip unfiled.Clock q = absurd (omega arith)
unfiled_told unfiled.Slip unfiled.Slip q = refl
unfiled_told unfiled.Slip unfiled.Full q = absurd (omega arith)
unfiled_told unfiled.Full unfiled.NoCache q = absurd (omega arith)
unfiled_told unfiled.Full unfiled.Clock q = absurd (omega arith)
unfiled_told unfiled.Full unfiled.Slip q = absurd (omega arith)
unfiled_told unfiled.Full unfiled.Full q = refl

-- a filing has the number of a refusal exactly if it is refused for that reason
pub number_told : (f : Filed) (e : Unfiled) → filed_number f ≡ unfiled_number e ↔ f ≡ Err e
number_told (Ok n) e = (λ q. absurd (omega (arith, unfiled_some e)), λ h. absurd (cc h))
number_told (Err x) e = (λ q. ap Err (unfiled_told x e q), λ h. ap filed_number h)

-- 0 exactly if it is accepted, another number exactly if it is refused with that number
pub filed_number_lem : (clock : Clock) (s t : List ℕ)
    → (filed_number (filed_of clock s t) ≡ 0 ↔ (n : ℕ) × (filed_of clock s t ≡ Ok n))
    × ((n : ℕ) → 0 < n → filed_number (filed_of clock s t) ≡ n ↔ (e : Unfiled) × (unfiled_number e ≡ n) × (filed_of clock s t ≡ Err e))
filed_number_lem clock s t = go (filed_of clock s t)
  where
    go : (f : Filed) → (filed_number f ≡ 0 ↔ (n : ℕ) × (f ≡ Ok n))
        × ((n : ℕ) → 0 < n → filed_number f ≡ n ↔ (e : Unfiled) × (unfiled_number e ≡ n) × (f ≡ Err e))
    go (Ok k) = ((λ q. (k, refl), λ h. refl), λ n b. (λ q. absurd (omega arith), λ (e, q, h). absurd (cc h)))
    go (Err x) = (
      (λ q. absurd (omega (arith, unfiled_some x)), λ (n, h). absurd (cc h)),
      λ n b. (λ q. (x, q, refl), λ (e, q, h). ap filed_number h ∙ q),
    )

-- ---- asking

-- what a number says of what is told: 256 not held, 0 an answer of kind 01 to 03, another one the refusal that has it
abbrev Numbered : Told → Type 0
Numbered x =
    (asked_number x.asked ≡ 256 ↔ x ≡ not_held)
    × (asked_number x.asked ≡ 0 ↔ (a : Answer) × (kind_of a.verdict < 4) × (x ≡ told a))
    × ((n : ℕ) → 0 < n → n < 256 → asked_number x.asked ≡ n ↔ x ≡ told (refused n 0))

number_told_lem : (a : Answer) → asked_number (told a).asked ≡ number_of a.verdict
unfolding told
number_told_lem a = refl

number_none : asked_number not_held.asked ≡ 256
unfolding not_held
number_none = refl

-- a verdict of kind 01 to 03 has no number
said_number : (v : Verdict) → kind_of v < 4 → number_of v ≡ 0
said_number (verdict.Good this next) h = refl
said_number (verdict.Revoked this next at reason) h = refl
said_number (verdict.Unknown this next) h = refl
said_number (verdict.Refused number status) h = absurd (omega arith)

of_refusal : (m : ℕ) → 0 < m → m < 256 → Numbered (told (refused m 0))
of_refusal m l b =
    let e : asked_number (told (refused m 0)).asked ≡ m = number_told_lem (refused m 0) ∙ refused_number m 0 in (
      (λ q. absurd (omega arith), λ q. absurd (told_held (refused m 0) q)),
      (
        λ q. absurd (omega arith),
        λ (a, k, q). absurd (omega (arith, said_number a.verdict k, ap number_of (told_verdict (refused m 0) a q), refused_number m 0)),
      ),
      λ n g h. (λ q. ap (λ (x : ℕ). told (refused x 0)) (sym e ∙ q), λ q. ap (λ (x : Told). asked_number x.asked) q ∙ number_told_lem (refused n 0) ∙ refused_number n 0),
    )

of_none : Numbered not_held
of_none = (
  (λ q. refl, λ q. number_none),
  (λ q. absurd (omega (arith, number_none)), λ (a, k, q). absurd (told_held a (sym q))),
  λ n g h. (λ q. absurd (omega (arith, number_none)), λ q. absurd (told_held (refused n 0) (sym q))),
)

of_answer : (a : Answer) → is_said a ≡ true → Numbered (told a)
of_answer a d =
    let k = said_kind a d in
    let e : asked_number (told a).asked ≡ 0 = number_told_lem a ∙ said_number a.verdict k in (
      (λ q. absurd (omega arith), λ q. absurd (told_held a q)),
      (λ q. (a, k, refl), λ h. e),
      λ n g h. (
        λ q. absurd (omega arith),
        λ q. absurd (omega (arith, refused_number n 0, ap number_of (told_verdict a (refused n 0) q), said_number a.verdict k)),
      ),
    )

pub asked_number_lem : (clock : Clock) (card : Card) (s : List ℕ) → Octets s
    → (asked_number (ask_of clock card s).asked ≡ 256 ↔ ask_of clock card s ≡ not_held)
    × (asked_number (ask_of clock card s).asked ≡ 0 ↔ (a : Answer) × (kind_of a.verdict < 4) × (ask_of clock card s ≡ told a))
    × ((n : ℕ) → 0 < n → n < 256 → asked_number (ask_of clock card s).asked ≡ n ↔ ask_of clock card s ≡ told (refused n 0))
asked_number_lem clock card s o =
    outcome clock card s o (Numbered (ask_of clock card s))
    (λ c q. rw q (of_refusal 19 (omega arith) (omega arith)))
    (λ c h q. rw q (of_refusal 1 (omega arith) (omega arith)))
    (λ q. rw q of_none)
    (λ q. rw q (of_refusal 15 (omega arith) (omega arith)))
    (λ q. rw q (of_refusal 16 (omega arith) (omega arith)))
    (λ i h f d q. rw q (of_answer (says_at (place_in s i)) d))
