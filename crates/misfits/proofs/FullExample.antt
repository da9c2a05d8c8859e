-- A basic response of 127 octets with its version written, an entry and two extensions: it has no misfit; with three octets changed
-- it has three, and the first of them is not the only one.
-- computed; response, fits, three.
-- Assumes nothing.
use Rattle.std.specs.Prelude.{ℕ, ◌≡◌, refl, List, [], ◌∷◌, ◌++◌}
use Rattle.content.specs.Oid.{oid_from, oid_ok}
use Rattle.content.specs.Serial.{lead_ok, serial_ok}
use Rattle.calendar.specs.Split.{before, find}
use Rattle.calendar.specs.Date.{leap_of, year_len, month_len}
use Rattle.calendar.specs.Time.{is_real, seconds_of, pair_of, clock_of, time_of, moment_of, is_time}
use Rattle.calendar.specs.Examples.{text}
use Rattle.layout.specs.Words.{between, status_ok}
use Rattle.layout.specs.Examples.{type_element, first, hashes, signature}
use Rattle.layout.specs.Sha1.{sha1}
use Rattle.faults.specs.Opened.{opened}
use Rattle.misfits.specs.Tests.{bits_ok, single_ok}
use Rattle.misfits.specs.Described.{algorithm_item, cert_id_item, status_item, after_oid_line, extensions_item, single_item, responder_item, version_item, fields_line, data_item, basic_line, bytes_item, envelope_line}
use Rattle.misfits.specs.Misfits.{inner_misfits, misfits}

-- what misfits compute with: a proof that says `unfolding computed` opens it
unfoldable computed : Unit {0}
unfolding opened misfits inner_misfits envelope_line bytes_item basic_line data_item version_item fields_line responder_item single_item cert_id_item status_item algorithm_item extensions_item after_oid_line single_ok bits_ok status_ok between oid_ok oid_from serial_ok lead_ok before find leap_of year_len month_len is_real seconds_of pair_of clock_of time_of moment_of is_time
computed = tt

-- an unknown card, in 41 octets
abbrev entry : List ℕ
entry = (0x30 ∷ 0x27 ∷ 0x30 ∷ 0x12 ∷ 0x30 ∷ 0x07 ∷ 0x06 ∷ 0x05 ∷ sha1) ++ hashes ++ (0x02 ∷ 0x01 ∷ 0x05 ∷ 0x82 ∷ 0x00 ∷ first)

-- with this version, at 30; this tag of producedAt, at 37; and this OID of the second extension, at 112
abbrev response : ℕ → ℕ → ℕ → List ℕ
response version tag oid =
    (0x30 ∷ 0x7d ∷ 0x0a ∷ 0x01 ∷ 0x00 ∷ 0xa0 ∷ 0x78 ∷ 0x30 ∷ 0x76 ∷ type_element) ++ (0x04 ∷ 0x69 ∷ 0x30 ∷ 0x67 ∷ 0x30 ∷ 0x59 ∷ [])
    ++ (0xa0 ∷ 0x03 ∷ 0x02 ∷ 0x01 ∷ version ∷ 0xa1 ∷ 0x04 ∷ 0x30 ∷ 0x02 ∷ 0x31 ∷ 0x00 ∷ tag ∷ 0x0f ∷ text 20050501010000)
    ++ (0x30 ∷ 0x29 ∷ entry)
    ++ (0xa1 ∷ 0x10 ∷ 0x30 ∷ 0x0e ∷ 0x30 ∷ 0x05 ∷ 0x06 ∷ 0x01 ∷ 0x2a ∷ 0x04 ∷ 0x00 ∷ 0x30 ∷ 0x05 ∷ 0x06 ∷ 0x01 ∷ oid ∷ 0x04 ∷ 0x00 ∷ [])
    ++ signature

fits : misfits (response 0x00 0x18 0x2b) ≡ []
unfolding computed
fits = refl

-- another version, at its INTEGER; a UTCTime; an OID a second time
three : misfits (response 0x01 0x17 0x2a) ≡ 28 ∷ 37 ∷ 110 ∷ []
unfolding computed
three = refl
