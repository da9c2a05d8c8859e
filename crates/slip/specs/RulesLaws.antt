-- Laws of the slip rules: the numbers of a verdict that keeps them fit the widths of its row, and the row says the verdict again.
-- both; verdict_fits, verdict_back; refused_broken.
-- The definitions are in Rules and Table. Assumes nothing.
use Rattle.std.specs.Prelude.{ℕ, ◌^◌, ◌≤◌, ◌<◌, ◌≡◌, refl, Bool, true, false, cond, eqb, leb, None, Some, Option}
use native.Mathlib.Omega.{arith}
use Rattle.std.proofs.Common.{ap, lit<}
use borrow.Author.Tests.{eqb-true, leb-true, ne_eqb}
use Rattle.calendar.specs.Time.{last_second}
use Rattle.octets.specs.SameLaws.{impossible}
use Rattle.answer.specs.declared.Verdict.{Verdict}
use Rattle.answer.specs.declared.Verdict.TheVariants.{Good, Revoked, Unknown, Refused}
use Rattle.answer.specs.Verdict.{kind_of, reason_of, values_of}
use Rattle.slip.specs.NumbersLaws.{Fitting}
use Rattle.slip.specs.Rules.{times_ok, reason_fits, error_ok, status_fits, number_ok, verdict_ok}
use Rattle.slip.specs.Table.{reason_from, row_in, row_of}

-- two tests that both hold
pub both : (t u : Bool) → cond t u false ≡ true → (t ≡ true) × (u ≡ true)
both true u e = (refl, e)
both false u e = impossible e

module _ (this next : ℕ) (e : times_ok this next ≡ true) where
  times_fit_lem : (this < 256 ^ 8) × (next < 256 ^ 8)
  unfolding times_ok
  times_fit_lem =
      let p = both (leb this next) (leb next last_second) e in
      let a : this ≤ next = leb-true this next p.0 in
      let b : next ≤ last_second = leb-true next last_second p.1 in
      (omega arith, omega arith)

reason_fits_lem : (r : Option ℕ) → reason_fits r ≡ true → reason_of r < 256
unfolding reason_fits
reason_fits_lem (Some n) e = go (eqb n 7) e
  where
    go : (t : Bool) → cond t false (leb n 10) ≡ true → n < 256
    go true e = impossible e
    go false e = omega (arith, leb-true n 10 e)
reason_fits_lem None e = lit< tt

reason_back : (r : Option ℕ) → reason_fits r ≡ true → reason_from (reason_of r) ≡ r
unfolding reason_fits reason_from
reason_back (Some n) e = go (eqb n 7) e
  where
    go : (t : Bool) → cond t false (leb n 10) ≡ true → cond (eqb n 255) None (Some n) ≡ Some n
    go true e = impossible e
    go false e =
        let l : n ≤ 10 = leb-true n 10 e in
        rw (ne_eqb n 255 (λ (z : n ≡ 255). omega arith))
reason_back None e = refl

status_fits_lem : (number status : ℕ) → status_fits number status ≡ true → status < 256
unfolding status_fits error_ok
status_fits_lem number status e = go (eqb number 4) (eqb status 4) e
  where
    go : (t u : Bool) → cond t (cond u false (cond (leb 1 status) (leb status 6) false)) (eqb status 0) ≡ true → status < 256
    go true true e = impossible e
    go true false e = omega (arith, leb-true status 6 (both (leb 1 status) (leb status 6) e).1)
    go false u e = omega (arith, eqb-true status 0 e)

number_fits : (number : ℕ) → number_ok number ≡ true → number < 256
unfolding number_ok
number_fits number e = omega (arith, leb-true number 16 (both (leb 1 number) (leb number 16) e).1)

-- its numbers fit their widths
pub verdict_fits : (v : Verdict) → verdict_ok v ≡ true → Fitting (row_of (kind_of v)).widths (values_of v)
unfolding verdict_ok row_of row_in
verdict_fits (Good this next) e =
    let t = times_fit_lem this next e in
    (t.0, (t.1, tt))
verdict_fits (Revoked this next at reason) e =
    let p = both (times_ok this next) (cond (leb at last_second) (reason_fits reason) false) e in
    let q = both (leb at last_second) (reason_fits reason) p.1 in
    let t = times_fit_lem this next p.0 in
    let l : at ≤ last_second = leb-true at last_second q.0 in
    (t.0, (t.1, (omega arith, (reason_fits_lem reason q.1, tt))))
verdict_fits (Unknown this next) e =
    let t = times_fit_lem this next e in
    (t.0, (t.1, tt))
verdict_fits (Refused number status) e =
    let p = both (number_ok number) (status_fits number status) e in
    (number_fits number p.0, (status_fits_lem number status p.1, tt))

-- its row says it again
pub verdict_back : (v : Verdict) → verdict_ok v ≡ true → (row_of (kind_of v)).says (values_of v) ≡ v
unfolding verdict_ok row_of row_in
verdict_back (Good this next) e = refl
verdict_back (Revoked this next at reason) e =
    let p = both (times_ok this next) (cond (leb at last_second) (reason_fits reason) false) e in
    ap (λ (r : Option ℕ). Revoked this next at r) (reason_back reason (both (leb at last_second) (reason_fits reason) p.1).1)
verdict_back (Unknown this next) e = refl
verdict_back (Refused number status) e = refl

-- 17 is no refusal of a slip
pub refused_broken : (status : ℕ) → verdict_ok (Refused 17 status) ≡ false
unfolding verdict_ok number_ok
refused_broken status = refl
