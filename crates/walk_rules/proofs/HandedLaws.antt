-- Laws of many steps: from place k, n steps hand out the next n entries' octets in order; at or past the
-- number of entries each step says the end, and a refusal stands at each step, and in both the walk stays.
-- parts_joined; after_sum; handed_none, after_stays; refused_step; entry_step, end_step; handed_from, after_on,
-- after_end.
-- The definitions are in Step, Walked and Handed. Assumes nothing.
-- The laws stand here, and what is made of them; the definitions in specs/HandedLaws.
use Prim.Native.Nat.{ℕ, zero, suc, ◌+◌, ◌-◌, ◌≤◌, ◌<◌}
use native.Mathlib.Omega.{arith}
use Rattle.std.specs.Prelude.{◌≡◌, Bool, take, drop, Option, Ok}
use Rattle.std.proofs.Math.Path.{refl, ap}
use Rattle.std.proofs.Common.{sym, ◌∙◌, drop_of_length-le}
use Rattle.std.proofs.Math.Bool.{true, false}
use mathlib.Core.List.{List, [], ◌∷◌, ◌++◌, map, append-nil}
use Rattle.std.proofs.Math.Dec.{ltb}
use Rattle.std.proofs.Math.ListN.{length}
use borrow.Author.Tests.{ltb-true, ltb-false}
use Rattle.std.specs.Borrow.{Bor}
use Rattle.octets.specs.Octets.{Octets}
use Rattle.codec.specs.Many.{forms}
use Rattle.layout.specs.Reading as reading
use Rattle.layout.proofs.Format.{single_response}
use Rattle.layout.specs.Read.{reads}
use Rattle.layout.proofs.Read.{reading}
use Rattle.read_response.specs.Parts.{judged_of}
use Rattle.show.specs.Shown.{refused_entry, entry_of}
use Rattle.show.proofs.EntryLaws.{entry_refused, entry_shown, entry_past, entry_stands}
use Rattle.read_response.specs.declared.Parts.{Parts}
use Rattle.read_response.specs.Judged.{Judged}
use Rattle.show.specs.declared.Entry.{Entry}
use Rattle.show.specs.declared.Entry.TheVariants as entry
use Rattle.walk_rules.specs.Step.{part_in, part_of, place_after, place_next}
use Rattle.walk_rules.specs.Walked.{moved_of}
use Rattle.walk_rules.specs.Handed.{at, handed, after_steps, Stays}
use Rattle.walk_rules.specs.declared.Walk.{Walk}
use Rattle.walk_rules.specs.HandedLaws.{Hands}

-- ── lists ──
-- the element with an ordinal stands before those after it
next_of : {A : Type 0} (l : List A) (k : ℕ) → k < length l → (x : A) × (drop k l ≡ x ∷ drop (suc k) l)
next_of [] k lt = absurd (omega arith)
next_of (a ∷ l) zero lt = (a, refl)
next_of (a ∷ l) (suc k) lt = next_of l k (omega arith)

-- parts put one after the other are the forms that they are
pub parts_joined : {A : Type 0} (f : A → List ℕ) (l : List A) → forms (λ (x : List ℕ). x) (map f l) ≡ forms f l
parts_joined f [] = refl
parts_joined f (a ∷ l) = ap (λ (x : List ℕ). f a ++ x) (parts_joined f l)

module _ (r : Bor (List ℕ)) (k : ℕ) where
  abbrev s : List ℕ
  s = r.now

  at_hands : (start n : ℕ) (x : List ℕ) → entry_of s k ≡ entry.At start n → take n (drop start s) ≡ x → Hands r k x
  unfolding part_of part_in place_next place_after
  at_hands start n x e q =
      let one : k + 1 ≡ suc k = omega arith in
      record { gives = rw (e, q); moves = rw (e, one) }

  end_stays : entry_of s k ≡ entry.End → Stays r k entry.End
  unfolding part_of part_in place_next place_after
  end_stays e = record { says = e; empty = rw e; none = rw e; stays = rw e }

  refused_stays : (n c : ℕ) (p : Option ℕ) → entry_of s k ≡ entry.Refused n c p → Stays r k (entry.Refused n c p)
  unfolding part_of part_in place_next place_after
  refused_stays n c p e = record { says = e; empty = rw e; none = rw e; stays = rw e }

-- ── many steps, and then many more ──
pub after_sum : (m n : ℕ) (w : Walk) → after_steps (m + n) w ≡ after_steps n (after_steps m w)
unfolding after_steps
after_sum zero n w = let z : 0 + n ≡ n = omega arith in rw z
after_sum (suc m) n w = let z : suc m + n ≡ suc (m + n) = omega arith in rw z (after_sum m n (moved_of w))

-- ── a walk that stays ──
module _ (r : Bor (List ℕ)) (k : ℕ) (x : Entry) (h : Stays r k x) where
  pub handed_none : (n : ℕ) → handed n (at r k) ≡ []
  unfolding handed
  handed_none zero = refl
  handed_none (suc n) = rw (h.none, h.stays) (handed_none n)

  pub after_stays : (n : ℕ) → after_steps n (at r k) ≡ at r k
  unfolding after_steps
  after_stays zero = refl
  after_stays (suc n) = rw h.stays (after_stays n)

-- a refusal stands at every place
pub refused_step : (r : Bor (List ℕ)) (k : ℕ) (j : Judged) → judged_of r.now ≡ j → ((t : Parts) → j ≡ Ok t → ⊥) → Stays r k (refused_entry j)
refused_step r k j e other = refused_stays r k _ _ _ (entry_refused r.now k j e other)

-- ── a response that reads as a basic one ──
module _ (r : Bor (List ℕ)) (b : reading.Basic) (o : Octets r.now) (le : length r.now ≤ 16384) (e : reading r.now ≡ reads (reading.basic b)) where
  abbrev list : List reading.Entry
  list = b.signed.entries

  abbrev form : reading.Entry → List ℕ
  form = single_response.enc

  -- an entry's step hands out its form
  pub entry_step : (k : ℕ) (a : reading.Entry) → k < length list → drop k list ≡ a ∷ drop (suc k) list → Hands r k (form a)
  entry_step k a lt q =
      at_hands r k _ _ (form a) (entry_shown r.now b le e k lt)
      ((entry_stands r.now b le e k o).octets ∙ ap (λ (l : List reading.Entry). forms form (take 1 l)) q ∙ append-nil (form a))

  -- at or past the number of entries is the end
  pub end_step : (k : ℕ) → length list ≤ k → Stays r k entry.End
  end_step k over = end_stays r k (entry_past r.now b le e k over)

  more : (n k : ℕ) (a : reading.Entry) → Hands r k (form a) → drop k list ≡ a ∷ drop (suc k) list → handed n (at r (suc k)) ≡ map form (take n (drop (suc k) list))
      → handed (suc n) (at r k) ≡ map form (take (suc n) (drop k list))
  unfolding handed
  more n k a h q i = rw (h.gives, h.moves, q) (ap (λ (l : List (List ℕ)). form a ∷ l) i)

  -- the next n entries' octets, in order
  pub handed_from : (n k : ℕ) → handed n (at r k) ≡ map form (take n (drop k list))
  unfolding handed
  handed_from zero k = refl
  handed_from (suc n) k = go (handed_from n (suc k)) (ltb k (length list)) refl
    where
      go : handed n (at r (suc k)) ≡ map form (take n (drop (suc k) list)) → (t : Bool) → ltb k (length list) ≡ t
          → handed (suc n) (at r k) ≡ map form (take (suc n) (drop k list))
      go ih true i =
          let lt = ltb-true k (length list) i in
          let (a, q) = next_of list k lt in
          more n k a (entry_step k a lt q) q ih
      go ih false i =
          let over = ltb-false k (length list) i in
          handed_none r k entry.End (end_step k over) (suc n) ∙ rw (drop_of_length-le list over)

  -- as many steps as there are entries left move the place as far
  pub after_on : (n k : ℕ) → k + n ≤ length list → after_steps n (at r k) ≡ at r (k + n)
  unfolding after_steps
  after_on zero k h = let z : k + 0 ≡ k = omega arith in rw z
  after_on (suc n) k h =
      let lt : k < length list = omega arith in
      let (a, q) = next_of list k lt in
      let z : suc k + n ≡ k + suc n = omega arith in
      rw (entry_step k a lt q).moves (after_on n (suc k) (omega arith) ∙ ap (at r) z)

  -- and steps after the last entry no farther
  pub after_end : (n : ℕ) → length list ≤ n → after_steps n (at r 0) ≡ at r (length list)
  after_end n h =
      let d : length list + (n - length list) ≡ n = omega arith in
      let z : 0 + length list ≡ length list = omega arith in
      ap (λ (m : ℕ). after_steps m (at r 0)) (sym d)
      ∙ after_sum (length list) (n - length list) (at r 0)
      ∙ ap (after_steps (n - length list)) (after_on (length list) 0 (omega arith) ∙ ap (at r) z)
      ∙ after_stays r (length list) entry.End (end_step (length list) (omega arith)) (n - length list)
