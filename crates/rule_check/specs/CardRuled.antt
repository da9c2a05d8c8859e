-- The answer for one card, by the octets of the entries of a response that is not refused as a whole.
-- found_ruled, card_ruled; opened_ruled. That this is what the table says from refusal 10 on is in CheckLaws.
-- Assumes nothing.
use Rattle.std.specs.Prelude.{ℕ, List, take, drop, Ok, Err}
use Rattle.answer.specs.Verdict.{refused_at, refused}
use Rattle.answer.specs.declared.Answer.{Answer}
use Rattle.rule_search.specs.Search.{search_of}
use Rattle.rule_search.specs.declared.Found.{Found}
use Rattle.rule_search.specs.declared.Found.TheVariants.{None, One, Two}
use Rattle.rules.specs.declared.Question.{Question}
use Rattle.rule_response.specs.Opened.{Opened}
use Rattle.rule_check.specs.EntryRuled.{seen_ruled}

-- no entry is for the card, one is, or two are
unfoldable pub found_ruled : Question → List ℕ → Found → Answer
found_ruled q s (None k) = refused 10 0
found_ruled q s (Two i j) = refused 11 0
found_ruled q s (One i b n) = seen_ruled q (take n (drop b s))

unfoldable pub card_ruled : Question → List ℕ → Answer
card_ruled q s = found_ruled q s (search_of q.card s)

-- a response that is judged, for the card
unfoldable pub opened_ruled : Question → List ℕ → Opened → Answer
opened_ruled q s (Err r) = refused_at r.number r.status r.place
opened_ruled q s (Ok v) = card_ruled q (take v.len (drop v.start s))
