-- How the search goes on: its loop is at a place up to which the entries are looked at.
-- Going, turn_start, turn_end, turn_count, turn_refused, turn_sum, turn_less, turn_two, turn_next; turn_cases, of the three that
-- need no answer.
-- What is seen at a place is in HereCases. The definitions are in specs/Search.
-- Assumes nothing.
use Rattle.std.specs.Prelude.{Option, Some, None, Ok, Err}
use Prim.Native.Nat.{ℕ, zero, suc, ◌+◌, ◌-◌, ◌^◌, ◌≤◌, ◌<◌}
use native.Mathlib.Omega.{arith}
use mathlib.Core.Path.{◌≡◌, refl, sym, ap, ◌∙◌}
use mathlib.Core.Bool.{Bool, true, false, cond}
use mathlib.Core.List.{List, []}
use lib.ListN.{length, take, drop, length-drop, drop_of_length-le}
use lib.Seq.{take_all, drop-drop}
use mir.Syntax.{w64}
use mir.Val.{Fits}
use Rattle.element.specs.Header.{header_of}
use Rattle.element.specs.HeaderLaws.{header_inside}
use Rattle.element.specs.Places.{HeaderRead, misfit, header}
use Rattle.read_content.specs.ExpectLaws.{never}
use Rattle.answer.specs.declared.Card.{Card}
use Rattle.rule_search.specs.Search.{is_here, noted, is_two, on_header, search_from, search_of, seen, seen_of}
use Rattle.rule_search.proofs.SearchLaws.{none_left}
use Rattle.rule_search.specs.declared.Found.{Found}
use Rattle.rule_search.specs.declared.Found.TheVariants as found
use Rattle.rule_search.specs.declared.Seen.{Seen}

-- at a place, with an ordinal and what was found so far, what is left of the search gives its result
pub record Going (card : Card) (s : List ℕ) (at i : ℕ) (so : Found) : Type 0 where
  pub inside : at ≤ length s
  pub few : i ≤ at
  pub fuel : ℕ
  pub enough : length s - at ≤ fuel
  pub same : search_of card s ≡ search_from card fuel (drop at s) at i so

pub turn_start : (card : Card) (s : List ℕ) → Going card s 0 0 (found.None 0)
unfolding search_of
turn_start card s = record { inside = omega arith; few = omega arith; fuel = length s; enough = omega arith; same = refl }

stops : (card : Card) (d : ℕ) (t : List ℕ) (at i : ℕ) (so : Found) (p : ℕ) → header_of t ≡ Err (misfit p) → search_from card d t at i so ≡ so
unfolding search_from on_header
stops card zero t at i so p e = refl
stops card (suc d) t at i so p e = rw e

-- what is seen tells of the header
seen_end : (b : Bool) (h : HeaderRead) → seen_of b h ≡ None → (p : ℕ) × (h ≡ Err (misfit p))
unfolding seen_of
seen_end b (Err p) e = (p.place, refl)
seen_end b (Ok h) e = never (cc)

seen_header : (b : Bool) (x : HeaderRead) (n : ℕ) (y : Bool) → seen_of b x ≡ Some (seen n y)
    → (t h m : ℕ) × (x ≡ Ok (header t h m)) × (h + m ≡ n) × (b ≡ y)
unfolding seen_of
seen_header b (Err p) n y e = never (cc)
seen_header b (Ok h) n y e =
    let k : seen (h.start + h.len) b ≡ seen n y = cc in
    (h.tag, h.start, h.len, refl, ap (λ (v : Seen). v.size) k, ap (λ (v : Seen). v.here) k)

module _ (b : Bool) (x : HeaderRead) (n : ℕ) (y : Bool) (e : seen_of b x ≡ Some (seen n y)) where
  seen_here : b ≡ y
  seen_here = let (t, h, m, q, i, j) = seen_header b x n y e in j

  seen_on : (so : Found) (f : ℕ → Found) → on_header so x f ≡ f n
  unfolding on_header
  seen_on so f = let (t, h, m, q, i, j) = seen_header b x n y e in rw q (ap f i)

seen_inside : (s : List ℕ) (b : Bool) (n : ℕ) (y : Bool) → seen_of b (header_of s) ≡ Some (seen n y) → (2 ≤ n) × (n ≤ length s)
seen_inside s b n y e =
    let (t, h, m, q, i, j) = seen_header b (header_of s) n y e in
    let v = header_inside s t h m q in
    (omega (arith, v.0, i), omega (arith, v.1, i))

module _ (card : Card) (s : List ℕ) (at i : ℕ) (so : Found) (g : Going card s at i so) where
  pub turn_end : length s ≤ at → so ≡ search_of card s
  turn_end le =
      let e : drop at s ≡ [] = drop_of_length-le s le in
      sym (g.same ∙ rw e (none_left card g.fuel at i so))

  pub turn_count : length s < 2 ^ 64 → at < length s → i + 1 < 2 ^ 64
  turn_count z lt = omega (arith, g.few)

  -- what is seen at the head of what is left, as code lends it
  module _ (x : Option Seen) (q : x ≡ seen_of (is_here card (take (length s - at) (drop at s))) (header_of (take (length s - at) (drop at s)))) where
    here : seen_of (is_here card (drop at s)) (header_of (drop at s)) ≡ x
    here = let k = take_all (length s - at) (drop at s) (simp length-drop (omega arith)) in rw k at (sym q)

    pub turn_refused : x ≡ None → so ≡ search_of card s
    turn_refused f = let (p, e) = seen_end _ _ (here ∙ f) in sym (g.same ∙ stops card g.fuel (drop at s) at i so p e)

    module _ (k : Seen) (f : x ≡ Some k) where
      abbrev n : ℕ
      n = k.size

      abbrev y : Bool
      y = k.here

      room : (2 ≤ n) × (at + n ≤ length s)
      room = let v = seen_inside (drop at s) _ n y (here ∙ f) in omega (arith, v.0, v.1, g.inside, length-drop at s)

      pub turn_sum : length s < 2 ^ 64 → Fits w64 (at + n)
      turn_sum z = record { fits = omega (arith, room.1) }

      pub turn_less : length s - (at + n) < length s - at
      turn_less = omega (arith, room.0, room.1)

      -- what is found after it
      module _ (z : Found) (w : z ≡ noted y i at n so) where
        after : noted (is_here card (drop at s)) i at n so ≡ z
        after = rw (seen_here _ _ n y (here ∙ f)) (sym w)

        steps : (d : ℕ) → length s - at ≤ d
            → (j : ℕ) × (length s - (at + n) ≤ j)
            × (search_from card d (drop at s) at i so ≡ cond (is_two z) z (search_from card j (drop (at + n) s) (at + n) (i + 1) z))
        unfolding search_from
        steps zero le = absurd (omega (arith, room.0, room.1))
        steps (suc d) le =
            (d, omega (arith, room.0, room.1), seen_on _ _ n y (here ∙ f) so _ ∙ rw (after, drop-drop n at s))

        module _ (r : Bool) (v : r ≡ is_two z) where
          pub turn_two : r ≡ true → z ≡ search_of card s
          turn_two b =
              let (j, _, e) = steps g.fuel g.enough in
              sym (g.same ∙ e ∙ rw (sym v ∙ b))

          pub turn_next : r ≡ false → Going card s (at + n) (i + 1) z
          turn_next b =
              let (j, le, e) = steps g.fuel g.enough in
              record {
                inside = room.1;
                few = omega (arith, g.few, room.0);
                fuel = j;
                enough = le;
                same = g.same ∙ e ∙ rw (sym v ∙ b);
              }

pub ruleset turn_cases = (turn_start, turn_count, turn_next)
