-- Settled contracts of free elements, and the elements that the layout is made of.
-- One theorem for each public function, CRATE_FUNCTION_settled, crate by crate:
-- tree, read_content, read_numbers, read_codes.
-- Of a function that writes, CRATE_FUNCTION_buffer says the same of the buffer. Of a returned part, its octets are said.
-- What it is to be settled is in Settled. Assumes nothing.
use Rattle.contracts.specs.Settled.{Settled, settled}
use Rattle.tree.proofs.read_tree.Reads as tree_read_tree
use Rattle.tree.proofs.read_run.Reads as tree_read_run
use Rattle.tree.proofs.read_tree_tagged.Reads as tree_read_tree_tagged
use Rattle.read_content.proofs.expect.Reads as read_content_expect
use Rattle.read_content.proofs.read_string.Reads as read_content_read_string
use Rattle.read_content.proofs.read_any_string.Reads as read_content_read_any_string
use Rattle.read_content.proofs.read_oid.Reads as read_content_read_oid
use Rattle.read_content.proofs.read_bits.Reads as read_content_read_bits
use Rattle.read_numbers.proofs.read_serial.Reads as read_numbers_read_serial
use Rattle.read_numbers.proofs.judge_time.Reads as read_numbers_judge_time
use Rattle.read_codes.proofs.read_code.Reads as read_codes_read_code
use Rattle.read_codes.proofs.read_reason_code.Reads as read_codes_read_reason_code
use Rattle.read_codes.proofs.read_true.Reads as read_codes_read_true
use Rattle.read_codes.proofs.read_good.Reads as read_codes_read_good
use Rattle.read_codes.proofs.read_unknown.Reads as read_codes_read_unknown
use Rattle.read_codes.proofs.read_v1.Reads as read_codes_read_v1

-- ── crate tree ──
pub tree_read_tree_settled : Settled tree_read_tree.Asked tree_read_tree.Learnt
tree_read_tree_settled = settled _ _ _ (λ k a. tt) (λ k a z e p. p)

pub tree_read_run_settled : Settled tree_read_run.Asked tree_read_run.Learnt
tree_read_run_settled = settled _ _ _ (λ k a. tt) (λ k a z e p. p)

pub tree_read_tree_tagged_settled : Settled tree_read_tree_tagged.Asked tree_read_tree_tagged.Learnt
tree_read_tree_tagged_settled = settled _ _ _ (λ k a. tt) (λ k a z e p. p)

-- ── crate read_content ──
pub read_content_expect_settled : Settled read_content_expect.Asked read_content_expect.Learnt
read_content_expect_settled = settled _ _ _ (λ k a. tt) (λ k a z e p. p)

pub read_content_read_string_settled : Settled read_content_read_string.Asked read_content_read_string.Learnt
read_content_read_string_settled = settled _ _ _ (λ k a. tt) (λ k a z e p. p)

pub read_content_read_any_string_settled : Settled read_content_read_any_string.Asked read_content_read_any_string.Learnt
read_content_read_any_string_settled = settled _ _ _ (λ k a. tt) (λ k a z e p. p)

pub read_content_read_oid_settled : Settled read_content_read_oid.Asked read_content_read_oid.Learnt
read_content_read_oid_settled = settled _ _ _ (λ k a. tt) (λ k a z e p. p)

pub read_content_read_bits_settled : Settled read_content_read_bits.Asked read_content_read_bits.Learnt
read_content_read_bits_settled = settled _ _ _ (λ k a. tt) (λ k a z e p. p)

-- ── crate read_numbers ──
pub read_numbers_read_serial_settled : Settled read_numbers_read_serial.Asked read_numbers_read_serial.Learnt
read_numbers_read_serial_settled = settled _ _ _ (λ k a. tt) (λ k a z e p. p)

pub read_numbers_judge_time_settled : Settled read_numbers_judge_time.Asked read_numbers_judge_time.Learnt
read_numbers_judge_time_settled = settled _ _ _ (λ k a. tt) (λ k a z e p. p)

-- ── crate read_codes ──
pub read_codes_read_code_settled : Settled read_codes_read_code.Asked read_codes_read_code.Learnt
read_codes_read_code_settled = settled _ _ _ (λ k a. tt) (λ k a z e p. p)

pub read_codes_read_reason_code_settled : Settled read_codes_read_reason_code.Asked read_codes_read_reason_code.Learnt
read_codes_read_reason_code_settled = settled _ _ _ (λ k a. tt) (λ k a z e p. p)

pub read_codes_read_true_settled : Settled read_codes_read_true.Asked read_codes_read_true.Learnt
read_codes_read_true_settled = settled _ _ _ (λ k a. tt) (λ k a z e p. p)

pub read_codes_read_good_settled : Settled read_codes_read_good.Asked read_codes_read_good.Learnt
read_codes_read_good_settled = settled _ _ _ (λ k a. tt) (λ k a z e p. p)

pub read_codes_read_unknown_settled : Settled read_codes_read_unknown.Asked read_codes_read_unknown.Learnt
read_codes_read_unknown_settled = settled _ _ _ (λ k a. tt) (λ k a z e p. p)

pub read_codes_read_v1_settled : Settled read_codes_read_v1.Asked read_codes_read_v1.Learnt
read_codes_read_v1_settled = settled _ _ _ (λ k a. tt) (λ k a z e p. p)
