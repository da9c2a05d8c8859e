-- Settled contracts of octets, elements, contents and times.
-- One theorem for each public function, CRATE_FUNCTION_settled, crate by crate:
-- octets, element, content, calendar, freshness.
-- Of a function that writes, CRATE_FUNCTION_buffer says the same of the buffer. Of a returned part, its octets are said.
-- What it is to be settled is in Settled. Assumes nothing.
use Rattle.contracts.specs.Settled.{Settled, settled, Settles, settles}
use Rattle.octets.proofs.same.Reads as octets_same
use Rattle.octets.proofs.same20.Reads as octets_same20
use Rattle.octets.proofs.number_at.Reads as octets_number_at
use Rattle.octets.proofs.put_number.Reads as octets_put_number
use Rattle.octets.proofs.put.Reads as octets_put
use Rattle.element.proofs.tag_of.Reads as element_tag_of
use Rattle.element.proofs.tag_fits.Reads as element_tag_fits
use Rattle.element.proofs.length_count.Reads as element_length_count
use Rattle.element.proofs.read_header.Reads as element_read_header
use Rattle.element.proofs.is_short.Reads as element_is_short
use Rattle.element.proofs.put_header.Reads as element_put_header
use Rattle.content.proofs.oid_fits.Reads as content_oid_fits
use Rattle.content.proofs.serial_fits.Reads as content_serial_fits
use Rattle.calendar.proofs.read_time.Reads as calendar_read_time
use Rattle.calendar.proofs.seconds_of.Reads as calendar_seconds_of
use Rattle.calendar.proofs.time_fits.Reads as calendar_time_fits
use Rattle.freshness.proofs.judge_times.Reads as freshness_judge_times
use Rattle.freshness.proofs.clock_fits.Reads as freshness_clock_fits

-- ── crate octets ──
pub octets_same_settled : Settled octets_same.Asked octets_same.Learnt
octets_same_settled = settled _ _ _ (λ k a. tt) (λ k a z e p. p)

pub octets_same20_settled : Settled octets_same20.Asked octets_same20.Learnt
octets_same20_settled = settled _ _ _ (λ k a. tt) (λ k a z e p. p)

pub octets_number_at_settled : Settled octets_number_at.Asked octets_number_at.Learnt
octets_number_at_settled = settled _ _ _ (λ k a. tt) (λ k a z e p. p)

pub octets_put_number_settled : Settled octets_put_number.Asked octets_put_number.Learnt
octets_put_number_settled = settled _ _ _ (λ k a. tt) (λ k a z e p. p.0)

pub octets_put_number_buffer : Settles octets_put_number.Asked octets_put_number.Learnt (λ k z e. e.0.now)
octets_put_number_buffer = settles _ _ (λ k z e. e.0.now) _ (λ k a. tt) (λ k a z e p. p.1)

pub octets_put_settled : Settled octets_put.Asked octets_put.Learnt
octets_put_settled = settled _ _ _ (λ k a. tt) (λ k a z e p. p.0)

pub octets_put_buffer : Settles octets_put.Asked octets_put.Learnt (λ k z e. e.0.now)
octets_put_buffer = settles _ _ (λ k z e. e.0.now) _ (λ k a. tt) (λ k a z e p. p.1)

-- ── crate element ──
pub element_tag_of_settled : Settled element_tag_of.Asked element_tag_of.Learnt
element_tag_of_settled = settled _ _ _ (λ k a. tt) (λ k a z e p. p)

pub element_tag_fits_settled : Settled element_tag_fits.Asked element_tag_fits.Learnt
element_tag_fits_settled = settled _ _ _ (λ k a. tt) (λ k a z e p. p)

pub element_length_count_settled : Settled element_length_count.Asked element_length_count.Learnt
element_length_count_settled = settled _ _ _ (λ k a. tt) (λ k a z e p. p)

pub element_read_header_settled : Settled element_read_header.Asked element_read_header.Learnt
element_read_header_settled = settled _ _ _ (λ k a. tt) (λ k a z e p. p)

pub element_is_short_settled : Settled element_is_short.Asked element_is_short.Learnt
element_is_short_settled = settled _ _ _ (λ k a. tt) (λ k a z e p. p)

pub element_put_header_settled : Settled element_put_header.Asked element_put_header.Learnt
element_put_header_settled = settled _ _ _ (λ k a. tt) (λ k a z e p. p.0)

pub element_put_header_buffer : Settles element_put_header.Asked element_put_header.Learnt (λ k z e. e.0.now)
element_put_header_buffer = settles _ _ (λ k z e. e.0.now) _ (λ k a. tt) (λ k a z e p. p.1)

-- ── crate content ──
pub content_oid_fits_settled : Settled content_oid_fits.Asked content_oid_fits.Learnt
content_oid_fits_settled = settled _ _ _ (λ k a. tt) (λ k a z e p. p)

pub content_serial_fits_settled : Settled content_serial_fits.Asked content_serial_fits.Learnt
content_serial_fits_settled = settled _ _ _ (λ k a. tt) (λ k a z e p. p)

-- ── crate calendar ──
pub calendar_read_time_settled : Settled calendar_read_time.Asked calendar_read_time.Learnt
calendar_read_time_settled = settled _ _ _ (λ k a. tt) (λ k a z e p. p)

pub calendar_seconds_of_settled : Settled calendar_seconds_of.Asked calendar_seconds_of.Learnt
calendar_seconds_of_settled = settled _ _ _ (λ k a. tt) (λ k a z e p. p)

pub calendar_time_fits_settled : Settled calendar_time_fits.Asked calendar_time_fits.Learnt
calendar_time_fits_settled = settled _ _ _ (λ k a. tt) (λ k a z e p. p)

-- ── crate freshness ──
pub freshness_judge_times_settled : Settled freshness_judge_times.Asked freshness_judge_times.Learnt
freshness_judge_times_settled = settled _ _ _ (λ k a. tt) (λ k a z e p. p)

pub freshness_clock_fits_settled : Settled freshness_clock_fits.Asked freshness_clock_fits.Learnt
freshness_clock_fits_settled = settled _ _ _ (λ k a. tt) (λ k a z e p. p)
