-- Settled contracts of the check.
-- One theorem for each public function, CRATE_FUNCTION_settled, crate by crate:
-- answer, rule_matching, rule_search, rule_tests, rule_response, rule_check.
-- Of a function that writes, CRATE_FUNCTION_buffer says the same of the buffer. Of a returned part, its octets are said.
-- What it is to be settled is in Settled. Assumes nothing.
use Rattle.contracts.specs.Settled.{Settled, settled}
use Rattle.answer.proofs.empty_card.Reads as answer_empty_card
use Rattle.answer.proofs.all_zero.Reads as answer_all_zero
use Rattle.answer.proofs.card_fits.Reads as answer_card_fits
use Rattle.answer.proofs.field_fits.Reads as answer_field_fits
use Rattle.answer.proofs.same_card.Reads as answer_same_card
use Rattle.answer.proofs.refuse.Reads as answer_refuse
use Rattle.answer.proofs.refuse_at.Reads as answer_refuse_at
use Rattle.rule_matching.proofs.is_for.Reads as rule_matching_is_for
use Rattle.rule_matching.proofs.serial_size.Reads as rule_matching_serial_size
use Rattle.rule_search.proofs.search.Reads as rule_search_search
use Rattle.rule_tests.proofs.question_fits.Reads as rule_tests_question_fits
use Rattle.rule_tests.proofs.strange_in_response.Reads as rule_tests_strange_in_response
use Rattle.rule_tests.proofs.strange_in_entry.Reads as rule_tests_strange_in_entry
use Rattle.rule_response.proofs.open.Reads as rule_response_open
use Rattle.rule_check.proofs.check.Reads as rule_check_check

-- ── crate answer ──
pub answer_empty_card_settled : Settled answer_empty_card.Asked answer_empty_card.Learnt
answer_empty_card_settled = settled _ _ _ (λ k a. tt) (λ k a z e p. p)

pub answer_all_zero_settled : Settled answer_all_zero.Asked answer_all_zero.Learnt
answer_all_zero_settled = settled _ _ _ (λ k a. tt) (λ k a z e p. p)

pub answer_card_fits_settled : Settled answer_card_fits.Asked answer_card_fits.Learnt
answer_card_fits_settled = settled _ _ _ (λ k a. tt) (λ k a z e p. p)

pub answer_field_fits_settled : Settled answer_field_fits.Asked answer_field_fits.Learnt
answer_field_fits_settled = settled _ _ _ (λ k a. tt) (λ k a z e p. p)

pub answer_same_card_settled : Settled answer_same_card.Asked answer_same_card.Learnt
answer_same_card_settled = settled _ _ _ (λ k a. tt) (λ k a z e p. p)

pub answer_refuse_settled : Settled answer_refuse.Asked answer_refuse.Learnt
answer_refuse_settled = settled _ _ _ (λ k a. tt) (λ k a z e p. p)

pub answer_refuse_at_settled : Settled answer_refuse_at.Asked answer_refuse_at.Learnt
answer_refuse_at_settled = settled _ _ _ (λ k a. tt) (λ k a z e p. p)

-- ── crate rule_matching ──
pub rule_matching_is_for_settled : Settled rule_matching_is_for.Asked rule_matching_is_for.Learnt
rule_matching_is_for_settled = settled _ _ _ (λ k a. tt) (λ k a z e p. p)

pub rule_matching_serial_size_settled : Settled rule_matching_serial_size.Asked rule_matching_serial_size.Learnt
rule_matching_serial_size_settled = settled _ _ _ (λ k a. tt) (λ k a z e p. p)

-- ── crate rule_search ──
pub rule_search_search_settled : Settled rule_search_search.Asked rule_search_search.Learnt
rule_search_search_settled = settled _ _ _ (λ k a. tt) (λ k a z e p. p)

-- ── crate rule_tests ──
pub rule_tests_question_fits_settled : Settled rule_tests_question_fits.Asked rule_tests_question_fits.Learnt
rule_tests_question_fits_settled = settled _ _ _ (λ k a. tt) (λ k a z e p. p)

pub rule_tests_strange_in_response_settled : Settled rule_tests_strange_in_response.Asked rule_tests_strange_in_response.Learnt
rule_tests_strange_in_response_settled = settled _ _ _ (λ k a. tt) (λ k a z e p. p)

pub rule_tests_strange_in_entry_settled : Settled rule_tests_strange_in_entry.Asked rule_tests_strange_in_entry.Learnt
rule_tests_strange_in_entry_settled = settled _ _ _ (λ k a. tt) (λ k a z e p. p)

-- ── crate rule_response ──
pub rule_response_open_settled : Settled rule_response_open.Asked rule_response_open.Learnt
rule_response_open_settled = settled _ _ _ (λ k a. tt) (λ k a z e p. p)

-- ── crate rule_check ──
pub rule_check_check_settled : Settled rule_check_check.Asked rule_check_check.Learnt
rule_check_check_settled = settled _ _ _ (λ k a. tt) (λ k a z e p. p)
