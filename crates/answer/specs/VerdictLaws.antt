-- Laws of verdicts: the kind, the number and the card of a refusal, and that an answer with a number is one.
-- refused_kind, refused_number, refused_card; number_refused.
-- The definitions are in Verdict. Assumes nothing.
use Rattle.std.specs.Prelude.{ℕ, ◌≡◌}
use Rattle.std.proofs.Math.Path.{refl}
use Rattle.answer.specs.declared.Verdict.{Verdict}
use Rattle.answer.specs.declared.Verdict.TheVariants.{Good, Revoked, Unknown, Refused}
use Rattle.answer.specs.Card.{empty_card}
use Rattle.answer.specs.Verdict.{kind_of, number_of, refused}

-- ---- a refusal

module _ (number status : ℕ) where
  -- it has kind 4, its number, and the empty card
  pub refused_kind : kind_of (refused number status).verdict ≡ 4
  unfolding refused
  refused_kind = refl

  pub refused_number : number_of (refused number status).verdict ≡ number
  unfolding refused
  refused_number = refl

  pub refused_card : (refused number status).card ≡ empty_card
  unfolding refused
  refused_card = refl

-- a number that is not 0 is a refusal's
pub number_refused : (v : Verdict) → (number_of v ≡ 0 → ⊥) → kind_of v ≡ 4
number_refused (Good this next) h = absurd (h refl)
number_refused (Revoked this next at reason) h = absurd (h refl)
number_refused (Unknown this next) h = absurd (h refl)
number_refused (Refused number status) h = refl
