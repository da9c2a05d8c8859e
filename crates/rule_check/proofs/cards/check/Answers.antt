-- `rule_check::cards::check` meets its contract: the ranges, then an error response, then the response as a whole.
-- Assumes nothing.
use Rattle.rule_check.specs.CheckLaws.{CardKnown, card_known}
use Rattle.rule_check.proofs.CheckCases.{check_range, check_error, check_ruled}
use borrow.Author.Rules.{rules, length_unmapped}
use Rattle.rule_check.proofs.cards.check.Goals as goal

pub returns-then-not-question_fits : goal.returns-then-not-question_fits
returns-then-not-question_fits c = search check_range

pub returns-then-status-ne0 : goal.returns-then-status-ne0
returns-then-status-ne0 c = let g = c.well_formed.0 in
    let card = c.args.q.card in
    let known : CardKnown card = card_known card (search (length_unmapped, g)) (λ i. search (rules, g)) (search (length_unmapped, g)) (λ i. search (rules, g)) (λ i. search (rules, g)) in
    search (check_error, known, c.type_inv.s)

pub returns : goal.returns
returns c = let g = c.well_formed.0 in
    let card = c.args.q.card in
    let known : CardKnown card = card_known card (search (length_unmapped, g)) (λ i. search (rules, g)) (search (length_unmapped, g)) (λ i. search (rules, g)) (λ i. search (rules, g)) in
    search (check_ruled, known, c.type_inv.s)
