-- The slip rules (document 01, "Request and slip"), over what an answer says.
-- times_ok, reason_fits, error_ok, status_fits, number_ok, verdict_ok. The card's rule is `card_ok` of crate answer.
-- Assumes nothing.
use Rattle.std.specs.Prelude.{ℕ, Bool, true, false, cond, eqb, leb, None, Some, Option}
use Rattle.calendar.specs.Time.{last_second}
use Rattle.answer.specs.declared.Verdict.{Verdict}
use Rattle.answer.specs.declared.Verdict.TheVariants.{Good, Revoked, Unknown, Refused}

-- thisUpdate is not after nextUpdate, and nextUpdate is a time
unfoldable pub times_ok : ℕ → ℕ → Bool
times_ok this next = cond (leb this next) (leb next last_second) false

-- a reason is 0 to 10 but not 7, or absent
unfoldable pub reason_fits : Option ℕ → Bool
reason_fits (Some n) = cond (eqb n 7) false (leb n 10)
reason_fits None = true

-- the status of an error: 1, 2, 3, 5 or 6
unfoldable pub error_ok : ℕ → Bool
error_ok status = cond (eqb status 4) false (cond (leb 1 status) (leb status 6) false)

-- the status of an error with number 4, else 0
unfoldable pub status_fits : ℕ → ℕ → Bool
status_fits number status = cond (eqb number 4) (error_ok status) (eqb status 0)

-- a refusal's number is 1 to 16
unfoldable pub number_ok : ℕ → Bool
number_ok number = cond (leb 1 number) (leb number 16) false

-- what each verdict has to keep
unfoldable pub verdict_ok : Verdict → Bool
verdict_ok (Good this next) = times_ok this next
verdict_ok (Revoked this next at reason) = cond (times_ok this next) (cond (leb at last_second) (reason_fits reason) false) false
verdict_ok (Unknown this next) = times_ok this next
verdict_ok (Refused number status) = cond (number_ok number) (status_fits number status) false
