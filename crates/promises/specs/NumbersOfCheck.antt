-- Document 01's number and values for each case of what judging a response and the check's parts answer with.
-- judged_told, entry_told, freshness_told, strange_told, found_told, opened_told, opened_place; judged_told_lem, freshness_told_lem.
-- Those of writers and readers of parts are in Numbers, those of a verdict in answer: Verdict (kind_of, values_of, number_of,
-- status_of), those of filing and asking in cache_rules: Numbers.
-- Assumes nothing.
use Rattle.std.specs.Prelude.{ℕ, ◌≡◌, refl, List, [], ◌∷◌, ◌++◌, Option, Some, None, Result, Ok, Err}
use Rattle.element.specs.declared.Span.{Span}
use Rattle.read_response.specs.Judged.{Judged}
use Rattle.read_response.specs.Refusals as response
use Rattle.read_response.specs.declared.Unread.TheVariants as unread
use Rattle.show.specs.declared.Entry.{Entry}
use Rattle.show.specs.declared.Entry.TheVariants as entry
use Rattle.freshness.specs.Fresh as freshness
use Rattle.freshness.specs.declared.Missed.{Missed}
use Rattle.freshness.specs.declared.Missed.TheVariants as missed
use Rattle.rule_search.specs.declared.Found.{Found}
use Rattle.rule_search.specs.declared.Found.TheVariants as found
use Rattle.rule_response.specs.Opened.{Opened}
use Rattle.promises.specs.Numbers.{Told, given, number_alone, wrong}

-- ── the response and its entries ──

abbrev pub span_values : Span → List ℕ
span_values s = s.start ∷ s.len ∷ []

-- where the parts of a basic response are; 2; 3; 4 with the status; 5
abbrev pub judged_told : Judged → Told
judged_told (Ok p) =
    given (
    span_values p.signed ++ span_values p.responder ++ span_values p.entries ++ (p.count ∷ []) ++ span_values p.extensions
    ++ span_values p.algorithm ++ span_values p.signature ++ span_values p.certificates
    )
judged_told (Err unread.TooLong) = number_alone 2
judged_told (Err (unread.Unfit p)) = wrong
judged_told (Err (unread.Failed n)) = record { number = 4; status = n; values = [] }
judged_told (Err unread.OtherType) = number_alone 5

-- it is the refusal that read_response::refuse gives
pub judged_told_lem : (j : Judged) → ((judged_told j).number ≡ (response.refusal_of j).number) × ((judged_told j).status ≡ (response.refusal_of j).status)
unfolding response.refusal_of
judged_told_lem (Ok p) = (refl, refl)
judged_told_lem (Err unread.TooLong) = (refl, refl)
judged_told_lem (Err (unread.Unfit p)) = (refl, refl)
judged_told_lem (Err (unread.Failed n)) = (refl, refl)
judged_told_lem (Err unread.OtherType) = (refl, refl)

-- where an entry is; nothing, at the end; the refusal
abbrev pub entry_told : Entry → Told
entry_told (entry.At start len) = given (start ∷ len ∷ [])
entry_told entry.End = given []
entry_told (entry.Refused number status place) = record { number = number; status = status; values = [] }

-- ── the check ──

-- that an answer counts, or 13, 14, 15, 16
abbrev pub freshness_told : Result Unit Missed → Told
freshness_told (Ok u) = given []
freshness_told (Err missed.Endless) = number_alone 13
freshness_told (Err (missed.Reversed n)) = number_alone 14
freshness_told (Err (missed.Early n)) = number_alone 15
freshness_told (Err (missed.Late n)) = number_alone 16

-- it is the number that the table of refusals has
pub freshness_told_lem : (f : Result Unit Missed) → (freshness_told f).number ≡ freshness.fresh_refusal f
freshness_told_lem (Ok u) = refl
freshness_told_lem (Err missed.Endless) = refl
freshness_told_lem (Err (missed.Reversed n)) = refl
freshness_told_lem (Err (missed.Early n)) = refl
freshness_told_lem (Err (missed.Late n)) = refl

-- a critical extension that is not understood: 9 in the response and 12 in an entry, as the row says
abbrev pub strange_told : ℕ → Option ℕ → Told
strange_told row None = given []
strange_told row (Some p) = number_alone row

-- the only entry for a card: its ordinal, and where it is; 10 where there is none, 11 where there are two
abbrev pub found_told : Found → Told
found_told (found.None n) = number_alone 10
found_told (found.One ordinal start len) = given (ordinal ∷ start ∷ len ∷ [])
found_told (found.Two first second) = number_alone 11

-- where the entries of a response that is not refused are; the refusal
abbrev pub opened_told : Opened → Told
opened_told (Err r) = record { number = r.number; status = r.status; values = [] }
opened_told (Ok v) = given (span_values v)

-- the place that goes with a refusal
abbrev pub opened_place : Opened → Option ℕ
opened_place (Err r) = r.place
opened_place (Ok v) = None
