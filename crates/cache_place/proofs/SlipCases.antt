-- What the code knows at each return of a slip's judges, and what follows there.
-- end_late, end_absent, end_given; rule_room, rule_serial, rule_times, rule_short, rule_end; slip_none,
-- slip_other, slip_size_lem, slip_room, slip_rules. Places are in Cases.
-- Assumes nothing.
use Prim.Native.Nat.{ℕ, suc, ◌≤◌}
use Rattle.std.specs.Prelude.{Some}
use native.Mathlib.Omega.{arith}
use mathlib.Core.Path.{◌≡◌, refl, sym, ap, ◌∙◌}
use mathlib.Core.Bool.{Bool, true, false, not}
use mathlib.Core.List.{List, [], ◌∷◌}
use lib.Dec.{eqb, leb}
use lib.ListN.{length, get_or}
use borrow.Author.Tests.{le-leb, eq-eqb, ne_eqb, eqb-true, eqb-false, not-true, not-false}
use Rattle.calendar.specs.Time.{last_second}
use Rattle.octets.specs.SameLaws.{impossible}
use Rattle.fields.specs.Field.{value_at}
use Rattle.slip.specs.Numbers.{total}
use Rattle.slip.specs.Rules.{times_ok, reason_fits}
use Rattle.slip.specs.Table.{Row, reason_from, row_in, row_of, body_size, size_of, good_row, revoked_row, unknown_row}
use Rattle.slip.specs.TableLaws.{row_good, row_revoked, row_unknown, row_refusal, row_none}
use Rattle.cache_rules.specs.Place.{is_said, says_of}
use Rattle.cache_place.specs.Times.{this_at, next_at}
use Rattle.cache_place.specs.Said.{serial_fits, times_fit, end_fits, rules_fit, slip_said}
use Rattle.cache_place.specs.SaidLaws.{said_at}

-- a kind with a card: how long its slips are
room : (k : ℕ) → (row_of k).carded ≡ true → (78 ≤ size_of 20 k) × (k ≡ 2 → 87 ≤ size_of 20 k)
unfolding size_of body_size total
room k c = go (eqb k 1) (eqb k 2) (eqb k 3) (eqb k 4) refl refl refl refl
  where
    by : (r : Row) → row_of k ≡ r → (78 ≤ suc (body_size 20 r)) × (k ≡ 2 → 87 ≤ suc (body_size 20 r)) → (78 ≤ size_of 20 k) × (k ≡ 2 → 87 ≤ size_of 20 k)
    by r e h = rw e h

    go : (a b d e : Bool) → eqb k 1 ≡ a → eqb k 2 ≡ b → eqb k 3 ≡ d → eqb k 4 ≡ e → (78 ≤ size_of 20 k) × (k ≡ 2 → 87 ≤ size_of 20 k)
    go true b d e p q r s =
        let o = eqb-true k 1 p in
        by good_row (row_good k o) (omega arith, λ z. absurd (omega arith))
    go false true d e p q r s = by revoked_row (row_revoked k (eqb-true k 2 q)) (omega arith, λ z. omega arith)
    go false false true e p q r s =
        let o = eqb-true k 3 r in
        by unknown_row (row_unknown k o) (omega arith, λ z. absurd (omega arith))
    go false false false true p q r s = impossible (sym (ap (λ (x : Row). x.carded) (row_refusal k (eqb-true k 4 s))) ∙ c)
    go false false false false p q r s =
        impossible (sym (ap (λ (x : Row). x.carded) (row_none k (eqb-false k 1 p) (eqb-false k 2 q) (eqb-false k 3 r) (eqb-false k 4 s))) ∙ c)

module _ (t : List ℕ) where
  -- ---- what a revoked slip has more

  module _ (at : ℕ) (p : at ≡ value_at t 78 8) (b : Bool) (q : b ≡ times_ok 0 at) where
    in_time : b ≡ leb (value_at t 78 8) last_second
    unfolding times_ok
    in_time = q ∙ rw (le-leb 0 at (omega arith), p)

    pub end_late : not b ≡ true → false ≡ end_fits t
    unfolding end_fits
    end_late h = sym (rw (← in_time, not-true b h))

    module _ (h : not b ≡ false) where
      pub end_absent : get_or t 86 0 ≡ 255 → true ≡ end_fits t
      unfolding end_fits reason_from reason_fits
      end_absent e = sym (rw (← in_time, not-false b h, eq-eqb (get_or t 86 0) 255 e))

      pub end_given : (get_or t 86 0 ≡ 255 → ⊥) → (r : Bool) → r ≡ reason_fits (Some (get_or t 86 0)) → r ≡ end_fits t
      unfolding end_fits reason_from
      end_given e r g = g ∙ sym (rw (← in_time, not-false b h, ne_eqb (get_or t 86 0) 255 e))

  -- ---- the slip rules

  pub rule_room : (78 ≤ length t) × (get_or t 0 0 ≡ 2 → 87 ≤ length t) → get_or t 0 0 ≡ 2 → 87 ≤ length t
  rule_room h k = h.1 k

  module _ (a : Bool) (p : a ≡ serial_fits t) where
    pub rule_serial : not a ≡ true → false ≡ rules_fit t
    unfolding rules_fit
    rule_serial h = sym (rw (← p, not-true a h))

    module _ (h : not a ≡ false) (this next : ℕ) (e : this ≡ this_at t) (f : next ≡ next_at t) (b : Bool) (q : b ≡ times_ok this next) where
      in_order : b ≡ times_fit t
      in_order = q ∙ rw (e, f)

      pub rule_times : not b ≡ true → false ≡ rules_fit t
      unfolding rules_fit
      rule_times g = sym (rw (← p, not-false a h, ← in_order, not-true b g))

      module _ (g : not b ≡ false) where
        pub rule_short : (get_or t 0 0 ≡ 2 → ⊥) → true ≡ rules_fit t
        unfolding rules_fit
        rule_short k = sym (rw (← p, not-false a h, ← in_order, not-false b g, ne_eqb (get_or t 0 0) 2 k))

        pub rule_end : get_or t 0 0 ≡ 2 → (r : Bool) → r ≡ end_fits t → r ≡ rules_fit t
        unfolding rules_fit
        rule_end k r j = j ∙ sym (rw (← p, not-false a h, ← in_order, not-false b g, eq-eqb (get_or t 0 0) 2 k))

  -- ---- a slip that may be filed

  pub slip_none : length t ≡ 0 → false ≡ is_said (says_of t)
  unfolding slip_said row_of row_in
  slip_none h = go t h
    where
      go : (t : List ℕ) → length t ≡ 0 → false ≡ is_said (says_of t)
      go [] h = sym (said_at [])
      go (x ∷ t) h = absurd (omega arith)

  module _ (b : Bool) (p : b ≡ (row_of (get_or t 0 0)).carded) where
    pub slip_other : not b ≡ true → false ≡ is_said (says_of t)
    unfolding slip_said
    slip_other h = sym (said_at t ∙ rw (← p, not-true b h))

    module _ (h : not b ≡ false) (size : ℕ) (q : size ≡ size_of 20 (get_or t 0 0)) where
      pub slip_size_lem : (length t ≡ size → ⊥) → false ≡ is_said (says_of t)
      unfolding slip_said
      slip_size_lem n = sym (said_at t ∙ rw (← p, not-false b h, ← q, ne_eqb (length t) size n))

      module _ (e : length t ≡ size) where
        pub slip_rules : (r : Bool) → r ≡ rules_fit t → r ≡ is_said (says_of t)
        unfolding slip_said
        slip_rules r g = g ∙ sym (said_at t ∙ rw (← p, not-false b h, ← q, eq-eqb (length t) size e))

        pub slip_room : (78 ≤ length t) × (get_or t 0 0 ≡ 2 → 87 ≤ length t)
        slip_room =
            let r = room (get_or t 0 0) (sym p ∙ not-false b h) in
            (rw (e, q) r.0, λ k. rw (e, q) (r.1 k))

-- ---- what each function needs

pub ruleset end_cases = (end_late, end_absent, end_given)

pub ruleset rule_cases = (rule_room, rule_serial, rule_times, rule_short, rule_end)

pub ruleset said_cases = (slip_none, slip_other, slip_size_lem, slip_room, slip_rules)
