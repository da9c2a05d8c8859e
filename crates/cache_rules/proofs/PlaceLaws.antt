-- Laws of a slip in a place: its kind, size, card and what it says, whatever follows it, and the place of a slip.
-- read_sized; carded, said_kind; slip_back, slip_kind, slip_size_lem, slip_most, slip_carded; kind_there, slip_there,
-- says_there, rest_there, card_there; said_times; place_length, place_says, place_card, place_fits; card_some.
-- The definitions are in Place. A place that fits is in FitLaws. Assumes nothing.
use Rattle.std.specs.Prelude.{ℕ, ◌-◌, ◌≤◌, ◌<◌, ◌≡◌, refl, Bool, eqb, leb, drop, replicate}
use Rattle.std.proofs.Common.{arith, ◌∙◌, drop_at, ltb-true, leb-true}
use Rattle.std.proofs.Math.Path.{sym, ap}
use Rattle.std.proofs.Math.Bool.{true, false, cond}
use mathlib.Core.List.{List, [], ◌∷◌, ◌++◌, append_assoc}
use Rattle.std.proofs.Math.ListN.{length, take, length-append, length-replicate}
use Rattle.std.proofs.Math.Seq.{take_at}
use Rattle.calendar.specs.Time.{last_second}
use Rattle.octets.specs.Octets.{Octets}
use Rattle.answer.specs.declared.Answer.{Answer}
use Rattle.answer.specs.declared.Verdict.{Verdict}
use Rattle.answer.specs.declared.Verdict.TheVariants.{Good, Revoked, Unknown, Refused}
use Rattle.answer.specs.Card.{empty_card, all_zero}
use Rattle.answer.specs.CardLaws.{zero_replicate}
use Rattle.answer.specs.Verdict.{kind_of, values_of, saying, refused}
use Rattle.answer.specs.VerdictLaws.{refused_kind}
use Rattle.fields.specs.Field.{card_in}
use Rattle.fields.specs.FieldLaws.{field_length}
use Rattle.slip.specs.Numbers.{total, numbers_form}
use Rattle.slip.specs.Rules.{times_ok, verdict_ok, reason_fits}
use Rattle.slip.specs.RulesLaws.{both}
use Rattle.slip.specs.Table.{Row, row_in, row_of, card_size, body_size, size_of}
use Rattle.slip.specs.Slip.{card_octets, body_of, slip_of, slip_ok, verdict_in, card_under, parsed_as, parsed, read_of, Sized}
use Rattle.slip.specs.CardOctetsLaws.{card_length}
use Rattle.slip.specs.SlipLaws.{slip_length, slip_parts, written_read}
use Rattle.cache_rules.specs.Place.{width, kind_at, slip_in, card_at, says_at, is_said, place_ok, place_of, this_of, next_of, says_of, slip_size}

-- ---- the card of any slip has twenty octets in each part

empty_sized : Sized 20 empty_card
unfolding empty_card
empty_sized = record { name = refl; key = refl; serial = refl }

under_sized : (r : Row) (s : List ℕ) → Sized 20 (card_under 20 r s)
unfolding card_under card_in
under_sized r s = go r.carded
  where
    go : (t : Bool) → Sized 20 (cond t (card_in 20 s) empty_card)
    go true = record { name = field_length 20 s 0; key = field_length 20 s 20; serial = field_length 20 s 41 }
    go false = empty_sized

parsed_sized : (t : List ℕ) → Sized 20 (parsed 20 t).card
unfolding parsed parsed_as refused
parsed_sized [] = empty_sized
parsed_sized (kind ∷ s) = go (eqb (length s) (body_size 20 (row_of kind)))
  where
    go : (b : Bool)
        → Sized 20 (cond b (saying (verdict_in 20 (row_of kind) s) (card_under 20 (row_of kind) s)) (refused 17 0)).card
    go true = under_sized (row_of kind) s
    go false = empty_sized

pub read_sized : (t : List ℕ) → Sized 20 (says_of t).card
unfolding read_of refused
read_sized t = go (slip_ok (parsed 20 t))
  where
    go : (b : Bool) → Sized 20 (cond b (parsed 20 t) (refused 17 0)).card
    go true = parsed_sized t
    go false = empty_sized

-- ---- a verdict of kind 01 to 03

pub carded : (v : Verdict) → kind_of v < 4 → (row_of (kind_of v)).carded ≡ true
unfolding row_of row_in
carded (Good this next) h = refl
carded (Revoked this next at reason) h = refl
carded (Unknown this next) h = refl
carded (Refused number status) h = absurd (omega arith)

most : (v : Verdict) → kind_of v < 4 → slip_size (kind_of v) ≤ width
unfolding size_of body_size row_of row_in total
most (Good this next) h = omega arith
most (Revoked this next at reason) h = omega arith
most (Unknown this next) h = omega arith
most (Refused number status) h = absurd (omega arith)

-- its thisUpdate is not after its nextUpdate
ordered : (v : Verdict) → verdict_ok v ≡ true → this_of v ≤ next_of v
unfolding verdict_ok times_ok
ordered (Good this next) e = leb-true this next (both (leb this next) (leb next last_second) e).0
ordered (Revoked this next at reason) e =
    leb-true this next (both (leb this next) (leb next last_second) (both (times_ok this next) (cond (leb at last_second) (reason_fits reason) false) e).0).0
ordered (Unknown this next) e = leb-true this next (both (leb this next) (leb next last_second) e).0
ordered (Refused number status) e = omega arith

-- ---- a slip of kind 01 to 03

pub said_kind : (a : Answer) → is_said a ≡ true → kind_of a.verdict < 4
unfolding is_said
said_kind a h = ltb-true (kind_of a.verdict) 4 h

module _ (t : List ℕ) (o : Octets t) (h : is_said (says_of t) ≡ true) where
  abbrev a : Answer
  a = says_of t

  said_not : a ≡ refused 17 0 → ⊥
  said_not e = let k = said_kind a h in omega (arith, refused_kind 17 0, ap (λ (x : Answer). kind_of x.verdict) e)

  -- what it says keeps the slip rules, and is written as the same octets
  pub slip_back : (slip_ok a ≡ true) × (slip_of a ≡ t)
  slip_back = written_read 20 t o said_not

  pub slip_kind : kind_at t ≡ kind_of a.verdict
  unfolding slip_of
  slip_kind = ap kind_at (sym slip_back.1)

  pub slip_size_lem : length t ≡ slip_size (kind_at t)
  slip_size_lem = ap length (sym slip_back.1) ∙ slip_length 20 a (λ c. read_sized t) ∙ ap slip_size (sym slip_kind)

  -- it fits a place
  pub slip_most : length t ≤ width
  slip_most = rw (slip_size_lem, slip_kind) (most a.verdict (said_kind a h))

  -- it has a card
  pub slip_carded : (row_of (kind_of a.verdict)).carded ≡ true
  slip_carded = carded a.verdict (said_kind a h)

  -- the card stands after the kind
  slip_form : (numbers : List ℕ) × (t ≡ kind_of a.verdict ∷ (card_octets a.card ++ numbers))
  unfolding slip_of body_of
  slip_form = (
    numbers_form (row_of (kind_of a.verdict)).widths (values_of a.verdict),
    sym slip_back.1 ∙ rw (carded a.verdict (said_kind a h)),
  )

  -- in front of anything it stands as a place's slip
  module _ (r : List ℕ) where
    pub kind_there : kind_at (t ++ r) ≡ kind_at t
    kind_there = let (n, e) = slip_form in rw e

    pub slip_there : slip_in (t ++ r) ≡ t
    unfolding slip_in
    slip_there = rw kind_there (take_at t r (slip_size (kind_at t)) slip_size_lem)

    pub says_there : says_at (t ++ r) ≡ a
    unfolding says_at
    says_there = ap says_of slip_there

    pub rest_there : drop (slip_size (kind_at (t ++ r))) (t ++ r) ≡ r
    rest_there = rw kind_there (drop_at t r (slip_size (kind_at t)) slip_size_lem)

    card_size_lem : card_size 20 (row_of (kind_at (t ++ r))) ≡ 61
    card_size_lem = rw (kind_there, slip_kind, carded a.verdict (said_kind a h))

    pub card_there : card_at (t ++ r) ≡ card_octets a.card
    unfolding card_at
    card_there =
        let (n, e) = slip_form in
        rw card_size_lem
        (ap (λ (x : List ℕ). take 61 (drop 1 (x ++ r))) e
        ∙ ap (take 61) (append_assoc (card_octets a.card) n r)
        ∙ take_at (card_octets a.card) (n ++ r) 61 (card_length a.card 20 (read_sized t)))

  -- its thisUpdate is not after its nextUpdate
  pub said_times : this_of a.verdict ≤ next_of a.verdict
  said_times = ordered a.verdict (slip_parts a slip_back.0).0

  -- ---- the place of a slip

  pub place_length : length (place_of t) ≡ width
  unfolding place_of
  place_length = length-append t (replicate (width - length t) 0) ∙ omega (arith, slip_most, length-replicate {A = ℕ} (width - length t) 0)

  pub place_says : says_at (place_of t) ≡ a
  unfolding place_of
  place_says = says_there (replicate (width - length t) 0)

  pub place_card : card_at (place_of t) ≡ card_octets a.card
  unfolding place_of
  place_card = card_there (replicate (width - length t) 0)

  pub place_fits : place_ok (place_of t) ≡ true
  unfolding place_ok place_of
  place_fits = go (all_zero (place_of t))
    where
      tail : cond (is_said (says_at (place_of t))) (all_zero (drop (slip_size (kind_at (place_of t))) (place_of t))) false ≡ true
      tail = rw (place_says, h, rest_there (replicate (width - length t) 0)) (zero_replicate (width - length t))

      go : (b : Bool) → cond b true (cond (is_said (says_at (place_of t))) (all_zero (drop (slip_size (kind_at (place_of t))) (place_of t))) false) ≡ true
      go true = refl
      go false = tail

-- the octets of a card are never none
pub card_some : (t : List ℕ) → card_octets (says_of t).card ≡ [] → ⊥
card_some t e = omega (arith, card_length (says_of t).card 20 (read_sized t), ap length e)
