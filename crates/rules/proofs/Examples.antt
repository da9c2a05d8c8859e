-- The check by computing, from the octets: the case of document 01's program, M11, and what must be refused.
-- checked; card, question_at; failure, desk_case; unfit_status, unfit_placed; response, answered, m11_passes, m11_late, m11_tolerated; other_issuer, too_tolerant.
-- The laws stand here, and what is made of them; the definitions in specs/Examples.
-- Assumes nothing.
use Rattle.std.specs.Prelude.{ℕ, ◌≡◌, refl, List, [], replicate, Some}
use Rattle.layout.specs.Reading.{failed, basic}
use Rattle.layout.specs.Read.{reads, unfit}
use Rattle.layout.proofs.Read.{reading}
use Rattle.layout.proofs.Opened.{opened}
use Rattle.answer.specs.Verdict.{saying, refused_at, refused}
use Rattle.answer.specs.declared.Verdict.TheVariants.{Good}
use Rattle.rules.specs.Ruling.{answer_of}
use Rattle.rules.proofs.RefusalLaws.{out_of_range}
use Rattle.rules.specs.Examples.{answered, card, checked, failure, question_at, response, unfit_status}

pub failure_read : reading failure ≡ reads (failed 6)
unfolding opened
failure_read = refl

-- the case: now 1,114,909,200, tolerance 0, Name empty
pub desk_case : answer_of (question_at 1114909200 0) [] failure ≡ refused 4 6
unfolding checked
desk_case = rw failure_read

pub unfit_read : reading unfit_status ≡ unfit 2
unfolding opened
unfit_read = refl

pub unfit_placed : answer_of (question_at 1114909200 0) [] unfit_status ≡ refused_at 3 0 (Some 2)
unfolding checked
unfit_placed = rw unfit_read

-- ---- M11: one good entry for the card, thisUpdate 20050501010000Z and nextUpdate 20050503010000Z, signed by the key 33..

pub response_read : reading response ≡ reads (basic answered)
unfolding opened
response_read = refl

-- with tolerance 0 now 1,115,082,000 passes
pub m11_passes : answer_of (question_at 1115082000 0) [] response ≡ saying (Good 1114909200 1115082000) card
unfolding checked
m11_passes = rw response_read

-- one more gives 16
pub m11_late : answer_of (question_at 1115082001 0) [] response ≡ refused 16 0
unfolding checked
m11_late = rw response_read

-- with tolerance 1 it passes
pub m11_tolerated : answer_of (question_at 1115082001 1) [] response ≡ saying (Good 1114909200 1115082000) card
unfolding checked
m11_tolerated = rw response_read

-- ---- other refusals

-- the same serial of another issuer: no entry is for that card
pub other_issuer : answer_of (record {
  card = record { name = replicate 20 0x44; key = card.key; serial = card.serial; size = 1 };
  now = 1115082000;
  tolerance = 0;
  verdict = 1;
  role = 1;
  marks = 0;
  signer = replicate 20 0x33;
}) [] response ≡ refused 10 0
unfolding checked
other_issuer = rw response_read

-- a tolerance of 3,601 gives 1, whatever the response is
pub too_tolerant : (s : List ℕ) → answer_of (question_at 1115082000 3601) [] s ≡ refused 1 0
unfolding checked
too_tolerant s = out_of_range (question_at 1115082000 3601) [] s refl
