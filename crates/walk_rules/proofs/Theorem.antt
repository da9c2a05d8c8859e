-- The walk over entries, as document 01 has it: from its start each entry's octets are handed out once, in
-- order, header included, and then each step says the end; a refusal stands at every step; in both the
-- place stays.
-- once_in_order, place_counts, end_stays, end_for_ever, parts_whole, parts_there; refusal_number,
-- refusal_stays, refusal_for_ever, refusal_hands_none.
-- The definitions are in Walked (one step) and Handed (many). Assumes nothing.
use Rattle.std.specs.Prelude.{ℕ, ◌+◌, ◌≤◌, ◌≡◌, refl, List, [], map, length, take, Ok, Err}
use native.Mathlib.Omega.{arith}
use Rattle.std.proofs.Common.{sym, ap, ◌∙◌, take_all}
use Rattle.std.specs.Borrow.{Bor}
use Rattle.octets.specs.Octets.{Octets}
use Rattle.codec.specs.Many.{forms}
use Rattle.layout.specs.Reading.{Basic, basic}
use Rattle.layout.proofs.Format.{single_response}
use Rattle.layout.specs.Read.{reads}
use Rattle.layout.proofs.Read.{reading}
use Rattle.read_response.specs.Parts.{judged_of, parts_in}
use Rattle.read_response.proofs.PartsLaws.{entries_stand}
use Rattle.read_response.specs.Refusals.{refusal_of}
use Rattle.show.specs.Shown.{octets_in, refused_entry}
use Rattle.read_response.specs.declared.Parts.{Parts}
use Rattle.read_response.specs.declared.Unread.TheVariants as unread
use Rattle.read_response.specs.Judged.{Judged}
use Rattle.show.specs.declared.Entry.TheVariants as entry
use Rattle.walk_rules.specs.Walked.{start_of, say_of}
use Rattle.walk_rules.specs.Handed.{at, handed, after_steps, Stays}
use Rattle.walk_rules.proofs.HandedLaws.{refused_step, handed_none, after_stays, end_step, handed_from, after_on, after_end, parts_joined}

-- ── a response that reads as a basic one ──
module _ (r : Bor (List ℕ)) (b : Basic) (o : Octets r.now) (le : length r.now ≤ 16384) (e : reading r.now ≡ reads (basic b)) where
  -- n steps hand out the first n entries' octets, each once, in order
  pub once_in_order : (n : ℕ) → handed n (start_of r) ≡ map single_response.enc (take n b.signed.entries)
  once_in_order n = handed_from r b o le e n 0

  -- after n of them the place is n
  pub place_counts : (n : ℕ) → n ≤ length b.signed.entries → after_steps n (start_of r) ≡ at r n
  place_counts n h = let z : 0 + n ≡ n = omega arith in after_on r b o le e n 0 (omega arith) ∙ ap (at r) z

  -- a place at or past the number of entries is the end: a step there says so, hands out nothing, and stays
  pub end_stays : (k : ℕ) → length b.signed.entries ≤ k → Stays r k entry.End
  end_stays k h = end_step r b o le e k h

  -- after as many steps as there are entries, or more, the place is their number, and the next step says the end
  pub end_for_ever : (n : ℕ) → length b.signed.entries ≤ n → (after_steps n (start_of r) ≡ at r (length b.signed.entries)) × (say_of (after_steps n (start_of r)) ≡ entry.End)
  end_for_ever n h = let p = after_end r b o le e n h in (p, ap say_of p ∙ (end_stays (length b.signed.entries) (omega arith)).says)

  -- the parts, one after the other, are the content of the entries' sequence
  pub parts_whole : (n : ℕ) → length b.signed.entries ≤ n → forms (λ (x : List ℕ). x) (handed n (start_of r)) ≡ forms single_response.enc b.signed.entries
  parts_whole n h =
      ap (forms (λ (x : List ℕ). x)) (once_in_order n ∙ ap (map single_response.enc) (take_all n b.signed.entries h))
      ∙ parts_joined single_response.enc b.signed.entries

  -- which are the response's own octets there
  pub parts_there : (n : ℕ) → length b.signed.entries ≤ n → forms (λ (x : List ℕ). x) (handed n (start_of r)) ≡ octets_in r.now (parts_in r.now b).entries
  parts_there n h = parts_whole n h ∙ sym (entries_stand r.now b o e).octets

-- ── a response with a refusal ──
module _ (r : Bor (List ℕ)) (j : Judged) (e : judged_of r.now ≡ j) (other : (t : Parts) → j ≡ Ok t → ⊥) where
  -- its number is from 2 to 5
  pub refusal_number : (2 ≤ (refusal_of j).number) × ((refusal_of j).number ≤ 5)
  unfolding refusal_of
  refusal_number = go j other
    where
      go : (j : Judged) → ((t : Parts) → j ≡ Ok t → ⊥) → (2 ≤ (refusal_of j).number) × ((refusal_of j).number ≤ 5)
      go (Ok t) not = absurd (not t refl)
      go (Err unread.TooLong) not = (omega arith, omega arith)
      go (Err (unread.Unfit m)) not = (omega arith, omega arith)
      go (Err (unread.Failed n)) not = (omega arith, omega arith)
      go (Err unread.OtherType) not = (omega arith, omega arith)

  -- every step, from any place, says it, hands out nothing, and stays
  pub refusal_stays : (k : ℕ) → Stays r k (refused_entry j)
  refusal_stays k = refused_step r k j e other

  pub refusal_for_ever : (n k : ℕ) → after_steps n (at r k) ≡ at r k
  refusal_for_ever n k = after_stays r k (refused_entry j) (refusal_stays k) n

  pub refusal_hands_none : (n k : ℕ) → handed n (at r k) ≡ []
  refusal_hands_none n k = handed_none r k (refused_entry j) (refusal_stays k) n
