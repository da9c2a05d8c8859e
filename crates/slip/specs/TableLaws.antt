-- Laws of the table: the row of each kind, and that a row says a verdict of its kind with the numbers that it was given.
-- row_good, row_revoked, row_unknown, row_refusal, row_none; Faithful, reason_octet, row_faithful; verdict_count.
-- The definitions are in Table. Assumes nothing.
use Rattle.std.specs.Prelude.{ℕ, ◌⊎◌, ◌≡◌, refl, Bool, true, false, cond, List, [], ◌∷◌, eqb, length, get_or, None, Some}
use Rattle.std.proofs.Common.{arith, inl, inr, sym, ◌∙◌}
use Rattle.std.proofs.Math.Path.{ap}
use borrow.Author.Tests.{eqb-true, eqb-false, ne_eqb}
use Rattle.answer.specs.declared.Verdict.{Verdict}
use Rattle.answer.specs.declared.Verdict.TheVariants.{Good, Revoked, Unknown, Refused}
use Rattle.answer.specs.Verdict.{kind_of, reason_of, values_of}
use Rattle.slip.specs.Table.{Row, reason_from, good_row, revoked_row, unknown_row, refusal_row, no_row, row_in, row_of}

-- ---- the row of a kind

module _ (kind : ℕ) where
  pub row_good : kind ≡ 1 → row_of kind ≡ good_row
  unfolding row_of row_in
  row_good e = ap row_of e

  pub row_revoked : kind ≡ 2 → row_of kind ≡ revoked_row
  unfolding row_of row_in
  row_revoked e = ap row_of e

  pub row_unknown : kind ≡ 3 → row_of kind ≡ unknown_row
  unfolding row_of row_in
  row_unknown e = ap row_of e

  pub row_refusal : kind ≡ 4 → row_of kind ≡ refusal_row
  unfolding row_of row_in
  row_refusal e = ap row_of e

  pub row_none : (kind ≡ 1 → ⊥) → (kind ≡ 2 → ⊥) → (kind ≡ 3 → ⊥) → (kind ≡ 4 → ⊥) → row_of kind ≡ no_row kind
  unfolding row_of row_in
  row_none a b c d = rw (ne_eqb kind 1 a, ne_eqb kind 2 b, ne_eqb kind 3 c, ne_eqb kind 4 d)

-- ---- each row says a verdict of its kind, with the numbers that it was given

abbrev pub Faithful : Row → Type 0
Faithful r = (v : List ℕ) → length v ≡ length r.widths → (kind_of (r.says v) ≡ r.kind) × (values_of (r.says v) ≡ v)

-- the reason's octet
pub reason_octet : (n : ℕ) → reason_of (reason_from n) ≡ n
unfolding reason_from
reason_octet n = go (eqb n 255) refl
  where
    go : (t : Bool) → eqb n 255 ≡ t → reason_of (cond t None (Some n)) ≡ n
    go true e = sym (eqb-true n 255 e)
    go false e = refl

-- two numbers, and four
two : (v : List ℕ) → length v ≡ 2 → get_or v 0 0 ∷ get_or v 1 0 ∷ [] ≡ v
two [] e = absurd (omega arith)
two (a ∷ []) e = absurd (omega arith)
two (a ∷ b ∷ []) e = refl
two (a ∷ b ∷ c ∷ v) e = absurd (omega arith)

four : (v : List ℕ) → length v ≡ 4 → get_or v 0 0 ∷ get_or v 1 0 ∷ get_or v 2 0 ∷ get_or v 3 0 ∷ [] ≡ v
four [] e = absurd (omega arith)
four (a ∷ []) e = absurd (omega arith)
four (a ∷ b ∷ []) e = absurd (omega arith)
four (a ∷ b ∷ c ∷ []) e = absurd (omega arith)
four (a ∷ b ∷ c ∷ d ∷ []) e = refl
four (a ∷ b ∷ c ∷ d ∷ f ∷ v) e = absurd (omega arith)

good_faithful : Faithful good_row
good_faithful v e = (refl, two v e)

revoked_faithful : Faithful revoked_row
revoked_faithful v e = (refl, ap (λ (x : ℕ). get_or v 0 0 ∷ get_or v 1 0 ∷ get_or v 2 0 ∷ x ∷ []) (reason_octet (get_or v 3 0)) ∙ four v e)

unknown_faithful : Faithful unknown_row
unknown_faithful v e = (refl, two v e)

refusal_faithful : Faithful refusal_row
refusal_faithful v e = (refl, two v e)

-- the row of a kind is one of the table, or there is none
pub row_faithful : (kind : ℕ) → (Faithful (row_of kind) × ((row_of kind).kind ≡ kind)) ⊎ (row_of kind ≡ no_row kind)
row_faithful kind = go (eqb kind 1) (eqb kind 2) (eqb kind 3) (eqb kind 4) refl refl refl refl
  where
    found : (r : Row) → row_of kind ≡ r → Faithful r → kind ≡ r.kind → Faithful (row_of kind) × ((row_of kind).kind ≡ kind)
    found r e f k = (rw e f, rw e (sym k))

    go : (a b c d : Bool) → eqb kind 1 ≡ a → eqb kind 2 ≡ b → eqb kind 3 ≡ c → eqb kind 4 ≡ d
        → (Faithful (row_of kind) × ((row_of kind).kind ≡ kind)) ⊎ (row_of kind ≡ no_row kind)
    go true b c d p q r s = let k = eqb-true kind 1 p in inl (found good_row (row_good kind k) good_faithful k)
    go false true c d p q r s = let k = eqb-true kind 2 q in inl (found revoked_row (row_revoked kind k) revoked_faithful k)
    go false false true d p q r s = let k = eqb-true kind 3 r in inl (found unknown_row (row_unknown kind k) unknown_faithful k)
    go false false false true p q r s = let k = eqb-true kind 4 s in inl (found refusal_row (row_refusal kind k) refusal_faithful k)
    go false false false false p q r s = inr (row_none kind (eqb-false kind 1 p) (eqb-false kind 2 q) (eqb-false kind 3 r) (eqb-false kind 4 s))

-- a verdict has as many values as its row has numbers
pub verdict_count : (v : Verdict) → length (values_of v) ≡ length (row_of (kind_of v)).widths
unfolding row_of row_in
verdict_count (Good this next) = refl
verdict_count (Revoked this next at reason) = refl
verdict_count (Unknown this next) = refl
verdict_count (Refused number status) = refl
