-- The walk over the entries of a response, as document 01 has it.
-- each_once, place_counts, end_said, end_for_ever, whole_list; refusal_number, refusal_said, refusal_for_ever.
-- A walk keeps the lent response and its place, the number of entries handed out (walked: Walk). walk::start makes
-- `start_of`; of a step by walk::next `say_of` is what it says, `hand_of` what it hands out, and `moved_of` the walk after it
-- (walked: Walked); `handed n w` is what n steps from w hand out, in order, and `after n w` the walk then (walked: Handed).
-- Assumes nothing.
use Rattle.std.specs.Prelude.{ℕ, ◌≤◌, ◌≡◌, List, [], map, length, take, Ok}
use Rattle.std.specs.Borrow.{Bor}
use Rattle.octets.specs.Octets.{Octets}
use Rattle.codec.specs.Many.{forms}
use Rattle.layout.specs.Reading.{Basic, basic}
use Rattle.layout.proofs.Format.{single_response}
use Rattle.layout.specs.Read.{reads}
use Rattle.layout.proofs.Read.{reading}
use Rattle.read_response.specs.Parts.{judged_of, parts_in}
use Rattle.read_response.specs.Refusals.{refusal_of}
use Rattle.show.specs.Shown.{octets_in, refused_entry}
use Rattle.read_response.specs.declared.Parts.{Parts}
use Rattle.read_response.specs.Judged.{Judged}
use Rattle.show.specs.declared.Entry.TheVariants as entry
use Rattle.walk_rules.specs.Walked.{start_of, say_of, hand_of, moved_of}
use Rattle.walk_rules.specs.Handed.{at, handed, after_steps}
use Rattle.walk_rules.proofs.Theorem as walk

-- ── a lent response r that reads as a basic one ──
module _ (r : Bor (List ℕ)) (b : Basic) (o : Octets r.now) (le : length r.now ≤ 16384) (e : reading r.now ≡ reads (basic b)) where
  -- from the start, n steps hand out the octets of the first n entries, header included, each once and in order
  pub each_once : (n : ℕ) → handed n (start_of r) ≡ map single_response.enc (take n b.signed.entries)
  each_once = walk.once_in_order r b o le e

  -- and the place counts them
  pub place_counts : (n : ℕ) → n ≤ length b.signed.entries → after_steps n (start_of r) ≡ at r n
  place_counts = walk.place_counts r b o le e

  -- a place at or past the number of entries is the end: a step there says so and hands out nothing, and the place stays
  pub end_said : (k : ℕ) → length b.signed.entries ≤ k
      → (say_of (at r k) ≡ entry.End) × (hand_of (at r k) ≡ []) × (moved_of (at r k) ≡ at r k)
  end_said k h = let s = walk.end_stays r b o le e k h in (s.says, s.empty, s.stays)

  -- so after as many steps as there are entries, or more, the place is their number, and the next step says the end
  pub end_for_ever : (n : ℕ) → length b.signed.entries ≤ n
      → (after_steps n (start_of r) ≡ at r (length b.signed.entries)) × (say_of (after_steps n (start_of r)) ≡ entry.End)
  end_for_ever = walk.end_for_ever r b o le e

  -- what was handed out then is, one after the other, the response's own octets where its entries are
  pub whole_list : (n : ℕ) → length b.signed.entries ≤ n
      → forms (λ (x : List ℕ). x) (handed n (start_of r)) ≡ octets_in r.now (parts_in r.now b).entries
  whole_list = walk.parts_there r b o le e

-- ── a lent response r with a refusal from 2 to 5 ──
module _ (r : Bor (List ℕ)) (j : Judged) (e : judged_of r.now ≡ j) (other : (t : Parts) → j ≡ Ok t → ⊥) where
  -- its number is from 2 to 5
  pub refusal_number : (2 ≤ (refusal_of j).number) × ((refusal_of j).number ≤ 5)
  refusal_number = walk.refusal_number r j e other

  -- every step, from any place, says that refusal and hands out nothing, and the place stays
  pub refusal_said : (k : ℕ) → (say_of (at r k) ≡ refused_entry j) × (hand_of (at r k) ≡ []) × (moved_of (at r k) ≡ at r k)
  refusal_said k = let s = walk.refusal_stays r j e other k in (s.says, s.empty, s.stays)

  -- so that however many steps hand out nothing
  pub refusal_for_ever : (n k : ℕ) → (after_steps n (at r k) ≡ at r k) × (handed n (at r k) ≡ [])
  refusal_for_ever n k = (walk.refusal_for_ever r j e other n k, walk.refusal_hands_none r j e other n k)
