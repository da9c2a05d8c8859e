-- A response with two entries, walked by computing: from its start, past its end, and at the last place that
-- a number can have; and an error response.
-- two_handed, two_after, last_place; failed_said.
-- Assumes nothing.
use Rattle.std.specs.Prelude.{ℕ, ◌≡◌, List, [], ◌∷◌, ◌++◌, replicate, None}
use Rattle.std.proofs.Math.Path.{refl}
use Rattle.std.specs.Borrow.{Bor}
use Rattle.layout.proofs.Opened.{opened}
use Rattle.layout.specs.Examples.{type_element, first, hashes, signature}
use Rattle.layout.specs.Sha1.{sha1}
use Rattle.read_response.specs.Parts.{parts_from, judged_as, judged_of}
use Rattle.read_response.specs.Refusals.{refusal_of}
use Rattle.show.specs.Shown.{entry_in, entry_as, entry_of}
use Rattle.show.specs.declared.Entry.TheVariants as entry
use Rattle.walk_rules.specs.Step.{part_in, part_of, place_after, place_next}
use Rattle.walk_rules.specs.Walked.{start_of, say_of, hand_of, moved_of}
use Rattle.walk_rules.specs.Handed.{at, handed, after_steps}

-- ── a response of 168 octets, with two entries of 41 ──
abbrev unknown_entry : List ℕ
unknown_entry = (0x30 ∷ 0x27 ∷ 0x30 ∷ 0x12 ∷ 0x30 ∷ 0x07 ∷ 0x06 ∷ 0x05 ∷ sha1) ++ hashes ++ (0x02 ∷ 0x01 ∷ 0x05 ∷ 0x82 ∷ 0x00 ∷ first)

abbrev good_entry : List ℕ
good_entry = (0x30 ∷ 0x27 ∷ 0x30 ∷ 0x12 ∷ 0x30 ∷ 0x07 ∷ 0x06 ∷ 0x05 ∷ sha1) ++ hashes ++ (0x02 ∷ 0x01 ∷ 0x06 ∷ 0x80 ∷ 0x00 ∷ first)

abbrev two : List ℕ
two =
    (0x30 ∷ 0x81 ∷ 0xa5 ∷ 0x0a ∷ 0x01 ∷ 0x00 ∷ 0xa0 ∷ 0x81 ∷ 0x9f ∷ 0x30 ∷ 0x81 ∷ 0x9c ∷ type_element)
    ++ (0x04 ∷ 0x81 ∷ 0x8e ∷ 0x30 ∷ 0x81 ∷ 0x8b ∷ 0x30 ∷ 0x7d ∷ 0xa2 ∷ 0x16 ∷ 0x04 ∷ 0x14 ∷ replicate 20 0x33) ++ first
    ++ (0x30 ∷ 0x52 ∷ unknown_entry) ++ good_entry ++ signature

-- wherever it is lent from
module _ (x : Bor (List ℕ)) where
  abbrev lent_two : Bor (List ℕ)
  lent_two = record x { now = two }

  -- four steps hand out two parts
  two_handed : handed 4 (start_of lent_two) ≡ unknown_entry ∷ good_entry ∷ []
  unfolding opened judged_as parts_from entry_of entry_as entry_in part_in part_of place_after place_next handed
  two_handed = refl

  -- and leave the walk at place 2
  two_after : after_steps 4 (start_of lent_two) ≡ at lent_two 2
  unfolding opened judged_as parts_from entry_of entry_as entry_in place_after place_next after_steps
  two_after = refl

  -- the last place that a number can have is the end, and stays
  last_place : (say_of (at lent_two 0xffffffffffffffff) ≡ entry.End) × (moved_of (at lent_two 0xffffffffffffffff) ≡ at lent_two 0xffffffffffffffff)
  unfolding opened judged_as parts_from entry_of entry_as entry_in place_after place_next
  last_place = (refl, refl)

  -- ── an error response ──
  abbrev lent_failed : Bor (List ℕ)
  lent_failed = record x { now = 0x30 ∷ 0x03 ∷ 0x0a ∷ 0x01 ∷ 0x06 ∷ [] }

  -- 4, and its status, at any place, which stays
  failed_said : (k : ℕ) → (say_of (at lent_failed k) ≡ entry.Refused 4 6 None) × (hand_of (at lent_failed k) ≡ []) × (moved_of (at lent_failed k) ≡ at lent_failed k)
  unfolding opened judged_of judged_as refusal_of entry_of entry_as part_in part_of place_after place_next
  failed_said k = (refl, refl, refl)
