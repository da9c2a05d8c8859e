-- The octets at the places of the times are the times that the slip says, whatever follows it.
-- slip_times, place_times, late_stale.
-- The definitions are in Times. Assumes nothing.
use Rattle.std.specs.Prelude.{ℕ, ◌≤◌, ◌<◌, ◌≡◌, refl, Bool, true, false, cond, leb, length, take, drop}
use Rattle.std.proofs.Common.{arith, sym, ◌∙◌, lit≤, length-append, take-append-drop, take_at, drop_at, drop-drop, leb-true}
use Rattle.std.proofs.Math.Path.{ap}
use mathlib.Core.List.{List, [], ◌∷◌, ◌++◌, append_assoc}
use Rattle.calendar.specs.Time.{last_second}
use Rattle.octets.specs.Octets.{Octets}
use Rattle.octets.specs.OctetsLaws.{octets_take}
use Rattle.octets.specs.Number.{value_of, octets_of}
use Rattle.octets.specs.NumberLaws.{octets_length, value_octets}
use Rattle.freshness.specs.declared.Clock.{Clock}
use Rattle.answer.specs.declared.Verdict.{Verdict}
use Rattle.answer.specs.declared.Verdict.TheVariants.{Good, Revoked, Unknown, Refused}
use Rattle.answer.specs.Verdict.{kind_of, values_of, reason_of}
use Rattle.fields.specs.Field.{value_at}
use Rattle.fields.specs.FieldLaws.{value_there}
use Rattle.slip.specs.Numbers.{numbers_form}
use Rattle.slip.specs.Rules.{times_ok, verdict_ok, reason_fits}
use Rattle.slip.specs.RulesLaws.{both}
use Rattle.slip.specs.Table.{row_in, row_of}
use Rattle.slip.specs.Slip.{card_octets, body_of, slip_of}
use Rattle.slip.specs.CardOctetsLaws.{card_length}
use Rattle.slip.specs.SlipLaws.{slip_parts}
use Rattle.cache_rules.specs.Place.{kind_at, slip_in, card_at, says_at, is_said, place_ok, this_of, next_of, stale_at, is_stale, says_of, slip_size}
use Rattle.cache_rules.proofs.PlaceLaws.{read_sized, carded, said_kind, slip_back}
use Rattle.cache_rules.proofs.FitLaws.{full_said}
use Rattle.cache_place.specs.Times.{this_at, next_at, late_at}

-- ---- two numbers after a kind and a card

module _ (kind this next : ℕ) (card rest : List ℕ) (l : length card ≡ 61) (a : this ≤ last_second) (b : next ≤ last_second) where
  abbrev numbers : List ℕ
  numbers = octets_of 8 this ++ (octets_of 8 next ++ rest)

  abbrev whole : List ℕ
  whole = kind ∷ (card ++ numbers)

  long : 77 ≤ length (card ++ numbers)
  long =
      omega (
        arith,
        length-append card numbers,
        length-append (octets_of 8 this) (octets_of 8 next ++ rest),
        length-append (octets_of 8 next) rest,
        octets_length 8 this,
        octets_length 8 next,
      )

  first : drop 61 (card ++ numbers) ≡ numbers
  first = drop_at card numbers 61 l

  second : drop 69 (card ++ numbers) ≡ octets_of 8 next ++ rest
  second = sym (drop-drop 8 61 (card ++ numbers)) ∙ ap (drop 8) first ∙ drop_at (octets_of 8 this) (octets_of 8 next ++ rest) 8 (octets_length 8 this)

  this_there : value_at whole 62 8 ≡ this
  this_there =
      value_there whole 62 8 (lit≤ tt) (omega (arith, long))
      ∙ ap (λ (x : List ℕ). value_of (take 8 x)) first
      ∙ ap value_of (take_at (octets_of 8 this) (octets_of 8 next ++ rest) 8 (octets_length 8 this))
      ∙ value_octets 8 this (omega arith)

  next_there : value_at whole 70 8 ≡ next
  next_there =
      value_there whole 70 8 (lit≤ tt) (omega (arith, long))
      ∙ ap (λ (x : List ℕ). value_of (take 8 x)) second
      ∙ ap value_of (take_at (octets_of 8 next) rest 8 (octets_length 8 next))
      ∙ value_octets 8 next (omega arith)

-- ---- the numbers of a verdict begin with its times

begins : (v : Verdict) → kind_of v < 4 → (rest : List ℕ) × (numbers_form (row_of (kind_of v)).widths (values_of v) ≡ octets_of 8 (this_of v) ++ (octets_of 8 (next_of v) ++ rest))
unfolding row_of row_in numbers_form
begins (Good this next) h = ([], refl)
begins (Revoked this next at reason) h = (octets_of 8 at ++ (octets_of 1 (reason_of reason) ++ []), refl)
begins (Unknown this next) h = ([], refl)
begins (Refused number status) h = absurd (omega arith)

in_time : (this next : ℕ) → times_ok this next ≡ true → (this ≤ last_second) × (next ≤ last_second)
unfolding times_ok
in_time this next e =
    let q = both (leb this next) (leb next last_second) e in
    let a = leb-true this next q.0 in
    let b = leb-true next last_second q.1 in
    (omega arith, b)

times_last : (v : Verdict) → verdict_ok v ≡ true → (this_of v ≤ last_second) × (next_of v ≤ last_second)
unfolding verdict_ok
times_last (Good this next) e = in_time this next e
times_last (Revoked this next at reason) e = in_time this next (both (times_ok this next) (cond (leb at last_second) (reason_fits reason) false) e).0
times_last (Unknown this next) e = in_time this next e
times_last (Refused number status) e = (omega arith, omega arith)

-- ---- a slip, and a place

module _ (t : List ℕ) (o : Octets t) (h : is_said (says_of t) ≡ true) (r : List ℕ) where
  abbrev v : Verdict
  v = (says_of t).verdict

  pub slip_times : (this_at (t ++ r) ≡ this_of (says_of t).verdict) × (next_at (t ++ r) ≡ next_of (says_of t).verdict)
  unfolding this_at next_at slip_of body_of
  slip_times =
      let k = said_kind (says_of t) h in
      let (rest, f) = begins v k in
      let (ok, back) = slip_back t o h in
      let (a, b) = times_last v (slip_parts (says_of t) ok).0 in
      let e : t ++ r ≡ kind_of v ∷ (card_octets (says_of t).card ++ (octets_of 8 (this_of v) ++ (octets_of 8 (next_of v) ++ (rest ++ r)))) =
      formed rest f back in
      rw e (
        this_there (kind_of v) (this_of v) (next_of v) (card_octets (says_of t).card) (rest ++ r) (card_length (says_of t).card 20 (read_sized t)) a b,
        next_there (kind_of v) (this_of v) (next_of v) (card_octets (says_of t).card) (rest ++ r) (card_length (says_of t).card 20 (read_sized t)) a b,
      )
    where
      formed : (rest : List ℕ) → numbers_form (row_of (kind_of v)).widths (values_of v) ≡ octets_of 8 (this_of v) ++ (octets_of 8 (next_of v) ++ rest)
          → slip_of (says_of t) ≡ t
          → t ++ r ≡ kind_of v ∷ (card_octets (says_of t).card ++ (octets_of 8 (this_of v) ++ (octets_of 8 (next_of v) ++ (rest ++ r))))
      formed rest f back =
          ap (λ (x : List ℕ). x ++ r) (sym back)
          ∙ ap (λ (c : Bool). kind_of v ∷ ((cond c (card_octets (says_of t).card) [] ++ numbers_form (row_of (kind_of v)).widths (values_of v)) ++ r)) (carded v (said_kind (says_of t) h))
          ∙ ap (λ (x : List ℕ). kind_of v ∷ ((card_octets (says_of t).card ++ x) ++ r)) f
          ∙ ap (λ (x : List ℕ). kind_of v ∷ x)
          (append_assoc (card_octets (says_of t).card) (octets_of 8 (this_of v) ++ (octets_of 8 (next_of v) ++ rest)) r
          ∙ ap (λ (x : List ℕ). card_octets (says_of t).card ++ x)
          (append_assoc (octets_of 8 (this_of v)) (octets_of 8 (next_of v) ++ rest) r
          ∙ ap (λ (x : List ℕ). octets_of 8 (this_of v) ++ x) (append_assoc (octets_of 8 (next_of v)) rest r)))

module _ (p : List ℕ) (o : Octets p) where
  pub place_times : is_said (says_at p) ≡ true → (this_at p ≡ this_of (says_at p).verdict) × (next_at p ≡ next_of (says_at p).verdict)
  unfolding says_at slip_in
  place_times h =
      rw (take-append-drop (slip_size (kind_at p)) p) at
      (slip_times (take (slip_size (kind_at p)) p) (octets_take (slip_size (kind_at p)) p o) h (drop (slip_size (kind_at p)) p))

  -- a place with a card is late exactly if it is stale
  pub late_stale : place_ok p ≡ true → (card_at p ≡ [] → ⊥) → (clock : Clock) → late_at clock p ≡ is_stale clock p
  unfolding late_at stale_at
  late_stale e n clock = rw (place_times (full_said p o e n)).1
