-- The check by computing, from the octets: the case of document 01's program, M11, and what must be refused.
-- checked; card, question_at; failure, desk_case; unfit_status, unfit_placed; response, answered, m11_passes, m11_late, m11_tolerated; other_issuer, too_tolerant.
-- The definitions stand here; the laws, and what is made of them, in proofs/Examples.
-- Assumes nothing.
use Rattle.std.specs.Prelude.{ℕ, false, List, [], ◌∷◌, ◌++◌, replicate}
use Rattle.std.proofs.Math.Option.{none, some}
use Rattle.octets.specs.Number.{value_of}
use Rattle.octets.specs.Same.{same_of}
use Rattle.content.specs.Serial.{lead_ok, serial_ok}
use Rattle.calendar.specs.Examples.{text}
use Rattle.codec.specs.Tree.{prim}
use Rattle.layout.specs.Reading.{good, by_key, Basic}
use Rattle.layout.specs.Read.{basic_type}
use Rattle.layout.specs.Sha1.{sha1}
use Rattle.freshness.specs.Fresh.{fresh_of}
use Rattle.answer.specs.Card.{all_zero, field_ok}
use Rattle.answer.specs.Verdict.{refused}
use Rattle.answer.specs.declared.Card.{Card}
use Rattle.rule_matching.specs.Match.{matches}
use Rattle.rules.specs.declared.Question.{Question}
use Rattle.rules.specs.Question.{in_range}
use Rattle.rules.specs.Signer.{is_signer, strange}
use Rattle.rules.specs.Order.{entries_for, tests, first_of}
use Rattle.rules.specs.Ruling.{answer_of}

-- what the check computes with once a response is read: a proof that says `unfolding checked` opens it
unfoldable pub checked : Unit {0}
unfolding answer_of tests first_of in_range field_ok serial_ok lead_ok all_zero is_signer strange entries_for matches same_of value_of fresh_of refused
checked = tt

-- hashes all 11 and all 22, serial 05
abbrev pub card : Card
card = record { name = replicate 20 0x11; key = replicate 20 0x22; serial = 5 ∷ replicate 19 0; size = 1 }

-- verdict 1, role 1, marks 0, key hash all 33, at a time and with a tolerance
abbrev pub question_at : ℕ → ℕ → Question
question_at now tolerance = record { card = card; now = now; tolerance = tolerance; verdict = 1; role = 1; marks = 0; signer = replicate 20 0x33 }

-- response 30 03 0A 01 06
abbrev pub failure : List ℕ
failure = 0x30 ∷ 0x03 ∷ 0x0a ∷ 0x01 ∷ 0x06 ∷ []

-- status 4 does not fit: the place is that of the status
abbrev pub unfit_status : List ℕ
unfit_status = 0x30 ∷ 0x03 ∷ 0x0a ∷ 0x01 ∷ 0x04 ∷ []

abbrev pub response : List ℕ
response =
    (0x30 ∷ 0x81 ∷ 0xbf ∷ 0x0a ∷ 1 ∷ 0 ∷ 0xa0 ∷ 0x81 ∷ 0xb9 ∷ 0x30 ∷ 0x81 ∷ 0xb6 ∷ [])
    ++ (0x06 ∷ 9 ∷ basic_type)
    ++ (0x04 ∷ 0x81 ∷ 0xa8 ∷ 0x30 ∷ 0x81 ∷ 0xa5 ∷ 0x30 ∷ 0x81 ∷ 0x8f ∷ [])
    ++ (0xa2 ∷ 0x16 ∷ 0x04 ∷ 20 ∷ replicate 20 0x33)
    ++ (0x18 ∷ 15 ∷ text 20050501010000)
    ++ (0x30 ∷ 0x64 ∷ 0x30 ∷ 0x62 ∷ 0x30 ∷ 0x3a ∷ 0x30 ∷ 9 ∷ 0x06 ∷ 5 ∷ sha1)
    ++ (0x05 ∷ 0 ∷ 0x04 ∷ 20 ∷ replicate 20 0x11)
    ++ (0x04 ∷ 20 ∷ replicate 20 0x22)
    ++ (0x02 ∷ 1 ∷ 5 ∷ 0x80 ∷ 0 ∷ [])
    ++ (0x18 ∷ 15 ∷ text 20050501010000)
    ++ (0xa0 ∷ 0x11 ∷ 0x18 ∷ 15 ∷ text 20050503010000)
    ++ (0x30 ∷ 0x0d ∷ 0x06 ∷ 9 ∷ 0x2a ∷ 0x86 ∷ 0x48 ∷ 0x86 ∷ 0xf7 ∷ 0x0d ∷ 1 ∷ 1 ∷ 5 ∷ 0x05 ∷ 0 ∷ 0x03 ∷ 2 ∷ 0 ∷ 0xaa ∷ [])

abbrev pub answered : Basic
answered = record {
  signed = record {
    versioned = false;
    responder = by_key (replicate 20 0x33);
    produced_at = 1114909200;
    entries =
        record {
          cert = record {
            algorithm = record { oid = sha1; parameters = some (prim 5 []) };
            name_hash = replicate 20 0x11;
            key_hash = replicate 20 0x22;
            serial = 5;
          };
          status = good;
          this_update = 1114909200;
          next_update = some 1115082000;
          extensions = none;
        }
        ∷ [];
    extensions = none;
  };
  algorithm = record { oid = 0x2a ∷ 0x86 ∷ 0x48 ∷ 0x86 ∷ 0xf7 ∷ 0x0d ∷ 1 ∷ 1 ∷ 5 ∷ []; parameters = some (prim 5 []) };
  signature = 0xaa ∷ [];
  certificates = none;
}
