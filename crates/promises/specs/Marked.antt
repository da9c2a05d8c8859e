-- The marked examples of document 01, M1 to M12, as a list of claims, and the one theorem that each of them holds.
-- sample_card; examples; marked. What a claim is, and what it is for one to hold, is in Claims.
-- Assumes nothing.
use Rattle.std.specs.Prelude.{ℕ, ◌≡◌, refl, Bool, true, false, ◌&&◌, List, [], ◌∷◌, replicate}
use Rattle.octets.specs.SameLaws.{impossible}
use Rattle.codec.specs.Many.{All}
use Rattle.layout.proofs.Opened.{opened}
use Rattle.answer.specs.Verdict.{refused}
use Rattle.answer.specs.declared.Card.{Card}
use Rattle.rule_matching.specs.CertForm.{card_form}
use Rattle.rules.specs.Examples.{checked}
use Rattle.request.specs.Request.{request_form}
use Rattle.promises.specs.Claims.{Claim, is_time, no_time, is_length, no_length, is_serial, no_serial, gives, counts, request, holds}

-- A.1 of source document 000: the hash of the issuer's name, the hash of its key, and a serial of 16 octets
abbrev pub sample_card : Card
sample_card = record {
  name =
      0xc0 ∷ 0xfe ∷ 0x02 ∷ 0x78 ∷ 0xfc ∷ 0x99 ∷ 0x18 ∷ 0x88 ∷ 0x91 ∷ 0xb3 ∷ 0xf2 ∷ 0x12 ∷ 0xe9 ∷ 0xc7 ∷ 0xe1 ∷ 0xb2
      ∷ 0x1a ∷ 0xb7 ∷ 0xbf ∷ 0xc0 ∷ [];
  key =
      0x0d ∷ 0xfc ∷ 0x1d ∷ 0xf0 ∷ 0xa9 ∷ 0xe0 ∷ 0xf0 ∷ 0x1c ∷ 0xe7 ∷ 0xf2 ∷ 0xb2 ∷ 0x13 ∷ 0x17 ∷ 0x7e ∷ 0x6f ∷ 0x8d
      ∷ 0x15 ∷ 0x7c ∷ 0xd4 ∷ 0xf6 ∷ [];
  serial =
      0x09 ∷ 0x34 ∷ 0x23 ∷ 0x72 ∷ 0xe2 ∷ 0x3a ∷ 0xef ∷ 0x46 ∷ 0x7c ∷ 0x83 ∷ 0x2d ∷ 0x07 ∷ 0xf8 ∷ 0xdc ∷ 0x22 ∷ 0xba ∷ replicate 4 0;
  size = 16;
}

-- M1 to M12, each with its number
abbrev pub examples : List (ℕ × Claim)
examples =
    (1, is_time 20050501010000 1114909200)
    ∷ (2, is_time 20051107235244 1131407564)
    ∷ (3, is_time 20000229000000 951782400)
    ∷ (4, no_time 21000229000000)
    ∷ (5, is_time 99991231235959 253402300799)
    ∷ (6, no_time 20050501010060)
    ∷ (7, is_length 127 (0x7f ∷ []))
    ∷ (7, is_length 128 (0x81 ∷ 0x80 ∷ []))
    ∷ (7, is_length 256 (0x82 ∷ 0x01 ∷ 0x00 ∷ []))
    ∷ (8, no_length (0x81 ∷ 0x05 ∷ []) 5)
    ∷ (9, is_serial (0x00 ∷ 0x80 ∷ []) 128)
    ∷ (9, no_serial (0x00 ∷ 0x7f ∷ []))
    ∷ (10, gives (0x30 ∷ 0x03 ∷ 0x0a ∷ 0x01 ∷ 0x04 ∷ []) 3)
    ∷ (11, counts 1114909200 1115082000 0 1115082000 0)
    ∷ (11, counts 1114909200 1115082000 0 1115082001 16)
    ∷ (11, counts 1114909200 1115082000 1 1115082001 0)
    ∷ (12, request sample_card 83 (0x30 ∷ 0x51 ∷ 0x30 ∷ 0x4f ∷ 0x30 ∷ 0x4d ∷ 0x30 ∷ 0x4b ∷ 0x30 ∷ 0x49 ∷ []))
    ∷ []

-- whether each of some claims holds, by computing
each_of : List (ℕ × Claim) → Bool
each_of [] = true
each_of (x ∷ l) = holds x.1 && each_of l

-- then each of them holds
each_all : (l : List (ℕ × Claim)) → each_of l ≡ true → All (λ (x : ℕ × Claim). holds x.1 ≡ true) l
unfolding each_of
each_all [] e = tt
each_all (x ∷ l) e = let p = both (holds x.1) (each_of l) e in (p.0, each_all l p.1)
  where
    both : (t u : Bool) → (t && u) ≡ true → (t ≡ true) × (u ≡ true)
    both true u e = (refl, e)
    both false u e = impossible e

-- M1 to M12 hold
pub marked : All (λ (x : ℕ × Claim). holds x.1 ≡ true) examples
unfolding each_of holds opened checked refused request_form card_form
marked = each_all examples refl
