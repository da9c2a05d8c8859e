-- The answer for the only entry for the card, as the code finds it: its extensions, then its times,
-- then its status.
-- verdict_for, fresh_ruled, until_ruled, view_ruled, seen_ruled; entry_ruled. That this is what
-- the table says from refusal 12 on is in EntryRuledLaws.
-- Assumes nothing.
use Rattle.std.specs.Prelude.{ℕ, cond, List, take, drop, Option, Some, None, Ok, Err}
use Rattle.layout.specs.Reading.{Entry}
use Rattle.read_critical.specs.Strange.{strange_of}
use Rattle.read_entry_values.specs.Looks.{standing_of, until_of, seen_in}
use Rattle.read_entry_values.specs.declared.Standing.{Standing}
use Rattle.read_entry_values.specs.declared.Standing.TheVariants as standing
use Rattle.read_entry_values.specs.declared.View.{View}
use Rattle.freshness.specs.Fresh.{Freshness, fresh_of}
use Rattle.freshness.specs.declared.Missed.TheVariants.{Endless, Reversed, Early, Late}
use Rattle.answer.specs.Verdict.{saying, refused}
use Rattle.answer.specs.declared.Card.{Card}
use Rattle.answer.specs.declared.Verdict.{Verdict}
use Rattle.answer.specs.declared.Verdict.TheVariants.{Good, Revoked, Unknown}
use Rattle.answer.specs.declared.Answer.{Answer}
use Rattle.rules.specs.declared.Question.{Question}
use Rattle.rules.specs.Signer.{in_entry, strange_in}
use Rattle.rule_tests.specs.StrangePlace.{is_place, entry_known}

-- what a status says, with thisUpdate and nextUpdate
unfoldable pub verdict_for : Standing → ℕ → ℕ → Verdict
verdict_for standing.Good this next = Good this next
verdict_for standing.Unknown this next = Unknown this next
verdict_for (standing.Revoked t r) this next = Revoked this next t r

-- by whether it counts: accepted for the card, or the first rule that its times miss
unfoldable pub fresh_ruled : Card → Standing → ℕ → ℕ → Freshness → Answer
fresh_ruled card st this next (Ok x) = saying (verdict_for st this next) card
fresh_ruled card st this next (Err Endless) = refused 13 0
fresh_ruled card st this next (Err (Reversed n)) = refused 14 0
fresh_ruled card st this next (Err (Early n)) = refused 15 0
fresh_ruled card st this next (Err (Late n)) = refused 16 0

-- by its nextUpdate
unfoldable pub until_ruled : Question → Standing → ℕ → Option ℕ → Answer
until_ruled q st this None = refused 13 0
until_ruled q st this (Some end) =
    fresh_ruled q.card st this end (fresh_of this (Some end) q.now q.tolerance)

-- by its values, and the octets where its extensions are
unfoldable pub view_ruled : Question → List ℕ → View → Answer
view_ruled q s v =
    cond (is_place (strange_of entry_known (take v.len (drop v.from s)))) (refused 12 0)
    (until_ruled q v.standing v.this v.until)

-- by its octets: what they say where they are an entry
unfoldable pub seen_ruled : Question → List ℕ → Answer
seen_ruled q s = view_ruled q s (seen_in s)

-- by its reading
unfoldable pub entry_ruled : Question → Entry → Answer
entry_ruled q e =
    cond (strange_in in_entry e.extensions) (refused 12 0)
    (until_ruled q (standing_of e.status) e.this_update (until_of e.next_update))
