-- Settled contracts of the room's cache.
-- One theorem for each public function, CRATE_FUNCTION_settled, crate by crate:
-- cache_place, cache_places, cache_file, cache_ask, cache_line (_buffer of the line, _cache of the cache).
-- Of a function that writes, CRATE_FUNCTION_buffer says the same of the buffer. Of a returned part, its octets are said.
-- What it is to be settled is in Settled; the functions for C are in SettledC. Assumes nothing.
use Rattle.contracts.specs.Settled.{Settled, settled, Settles, settles}
use Rattle.cache_place.proofs.place_fits.Reads as cache_place_place_fits
use Rattle.cache_place.proofs.slip_fits.Reads as cache_place_slip_fits
use Rattle.cache_place.proofs.slip_at.Reads as cache_place_slip_at
use Rattle.cache_place.proofs.card_at.Reads as cache_place_card_at
use Rattle.cache_place.proofs.this_at.Reads as cache_place_this_at
use Rattle.cache_place.proofs.next_at.Reads as cache_place_next_at
use Rattle.cache_place.proofs.is_late.Reads as cache_place_is_late
use Rattle.cache_places.proofs.room_fits.Reads as cache_places_room_fits
use Rattle.cache_places.proofs.place_at.Reads as cache_places_place_at
use Rattle.cache_places.proofs.held_at.Reads as cache_places_held_at
use Rattle.cache_places.proofs.free_at.Reads as cache_places_free_at
use Rattle.cache_places.proofs.count.Reads as cache_places_count
use Rattle.cache_file.proofs.file.Reads as cache_file_file
use Rattle.cache_file.proofs.number_of.Reads as cache_file_number_of
use Rattle.cache_ask.proofs.find.Reads as cache_ask_find
use Rattle.cache_ask.proofs.ask.Reads as cache_ask_ask
use Rattle.cache_line.proofs.answer_for.Reads as cache_line_answer_for

-- ── crate cache_place ──
pub cache_place_place_fits_settled : Settled cache_place_place_fits.Asked cache_place_place_fits.Learnt
cache_place_place_fits_settled = settled _ _ _ (λ k a. tt) (λ k a z e p. p)

pub cache_place_slip_fits_settled : Settled cache_place_slip_fits.Asked cache_place_slip_fits.Learnt
cache_place_slip_fits_settled = settled _ _ _ (λ k a. tt) (λ k a z e p. p)

pub cache_place_slip_at_settled : Settles cache_place_slip_at.Asked cache_place_slip_at.Learnt (λ k z e. z.now)
cache_place_slip_at_settled = settles _ _ (λ k z e. z.now) _ (λ k a. tt) (λ k a z e p. p)

pub cache_place_card_at_settled : Settles cache_place_card_at.Asked cache_place_card_at.Learnt (λ k z e. z.now)
cache_place_card_at_settled = settles _ _ (λ k z e. z.now) _ (λ k a. tt) (λ k a z e p. p)

pub cache_place_this_at_settled : Settled cache_place_this_at.Asked cache_place_this_at.Learnt
cache_place_this_at_settled = settled _ _ _ (λ k a. tt) (λ k a z e p. p)

pub cache_place_next_at_settled : Settled cache_place_next_at.Asked cache_place_next_at.Learnt
cache_place_next_at_settled = settled _ _ _ (λ k a. tt) (λ k a z e p. p)

pub cache_place_is_late_settled : Settled cache_place_is_late.Asked cache_place_is_late.Learnt
cache_place_is_late_settled = settled _ _ _ (λ k a. tt) (λ k a z e p. p)

-- ── crate cache_places ──
pub cache_places_room_fits_settled : Settled cache_places_room_fits.Asked cache_places_room_fits.Learnt
cache_places_room_fits_settled = settled _ _ _ (λ k a. tt) (λ k a z e p. p)

pub cache_places_place_at_settled : Settles cache_places_place_at.Asked cache_places_place_at.Learnt (λ k z e. z.now)
cache_places_place_at_settled = settles _ _ (λ k z e. z.now) _ (λ k a. tt) (λ k a z e p. p)

pub cache_places_held_at_settled : Settled cache_places_held_at.Asked cache_places_held_at.Learnt
cache_places_held_at_settled = settled _ _ _ (λ k a. tt) (λ k a z e p. p)

pub cache_places_free_at_settled : Settled cache_places_free_at.Asked cache_places_free_at.Learnt
cache_places_free_at_settled = settled _ _ _ (λ k a. tt) (λ k a z e p. p)

pub cache_places_count_settled : Settled cache_places_count.Asked cache_places_count.Learnt
cache_places_count_settled = settled _ _ _ (λ k a. tt) (λ k a z e p. p)

-- ── crate cache_file ──
pub cache_file_file_settled : Settled cache_file_file.Asked cache_file_file.Learnt
cache_file_file_settled = settled _ _ _ (λ k a. tt) (λ k a z e p. p.0)

pub cache_file_file_buffer : Settles cache_file_file.Asked cache_file_file.Learnt (λ k z e. e.0.now)
cache_file_file_buffer = settles _ _ (λ k z e. e.0.now) _ (λ k a. tt) (λ k a z e p. p.1)

pub cache_file_number_of_settled : Settled cache_file_number_of.Asked cache_file_number_of.Learnt
cache_file_number_of_settled = settled _ _ _ (λ k a. tt) (λ k a z e p. p)

-- ── crate cache_ask ──
pub cache_ask_find_settled : Settled cache_ask_find.Asked cache_ask_find.Learnt
cache_ask_find_settled = settled _ _ _ (λ k a. tt) (λ k a z e p. p)

pub cache_ask_ask_settled : Settled cache_ask_ask.Asked cache_ask_ask.Learnt
cache_ask_ask_settled = settled _ _ _ (λ k a. tt) (λ k a z e p. p)

-- ── crate cache_line ──
pub cache_line_answer_for_settled : Settled cache_line_answer_for.Asked cache_line_answer_for.Learnt
cache_line_answer_for_settled = settled _ _ _ (λ k a. tt) (λ k a z e p. p.0)

pub cache_line_answer_for_buffer : Settles cache_line_answer_for.Asked cache_line_answer_for.Learnt (λ k z e. e.1.0.now)
cache_line_answer_for_buffer = settles _ _ (λ k z e. e.1.0.now) _ (λ k a. tt) (λ k a z e p. p.1.0)

pub cache_line_answer_for_cache : Settles cache_line_answer_for.Asked cache_line_answer_for.Learnt (λ k z e. e.1.1.0.now)
cache_line_answer_for_cache = settles _ _ (λ k z e. e.1.1.0.now) _ (λ k a. tt) (λ k a z e p. p.1.1)
