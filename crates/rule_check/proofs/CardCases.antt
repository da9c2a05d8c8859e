-- The cases of one card: what the search finds lies inside the octets of the entries.
-- card_none, card_two, card_end, card_sum, card_one, in card_cases.
-- Assumes nothing.
use Rattle.std.specs.Prelude.{Ok, Err}
use Prim.Native.Nat.{ℕ, zero, suc, ◌+◌, ◌-◌, ◌^◌, ◌≤◌, ◌<◌}
use native.Mathlib.Omega.{arith}
use mathlib.Core.Path.{◌≡◌, refl, sym, ◌∙◌}
use mathlib.Core.Bool.{Bool, true, false, cond}
use mathlib.Core.List.{List}
use lib.ListN.{length, take, drop, length-drop}
use mir.Syntax.{w64}
use mir.Val.{Fits}
use Rattle.element.specs.Header.{header_of}
use Rattle.element.specs.HeaderLaws.{header_inside}
use Rattle.element.specs.Places.{HeaderRead}
use Rattle.answer.specs.Verdict.{refused}
use Rattle.answer.specs.declared.Card.{Card}
use Rattle.answer.specs.declared.Answer.{Answer}
use Rattle.rule_search.specs.Search.{is_here, noted, is_two, on_header, search_from, search_of}
use Rattle.rule_search.specs.declared.Found.{Found}
use Rattle.rule_search.specs.declared.Found.TheVariants.{None, One, Two}
use Rattle.rules.specs.declared.Question.{Question}
use Rattle.rule_check.specs.EntryRuled.{seen_ruled}
use Rattle.rule_check.specs.CardRuled.{found_ruled, card_ruled}

-- what is found lies inside
abbrev In : ℕ → Found → Type 0
In m (None k) = Unit {0}
In m (One i b n) = b + n ≤ m
In m (Two i j) = Unit {0}

noted_in : (m : ℕ) (h : Bool) (i at n : ℕ) (so : Found) → at + n ≤ m → In m so → In m (noted h i at n so)
unfolding noted
noted_in m true i at n (None k) le v = le
noted_in m true i at n (One j b l) le v = tt
noted_in m true i at n (Two j k) le v = tt
noted_in m false i at n (None k) le v = tt
noted_in m false i at n (One j b l) le v = v
noted_in m false i at n (Two j k) le v = tt

cond_in : (m : ℕ) (t : Bool) (x y : Found) → In m x → In m y → In m (cond t x y)
cond_in m true x y a b = a
cond_in m false x y a b = b

module _ (card : Card) (m d : ℕ) (t : List ℕ) (at i : ℕ) (so : Found) (le : at + length t ≤ m) (v : In m so) where
  abbrev next : ℕ → Found
  next n = noted (is_here card t) i at n so

  on_header_lem : (x : HeaderRead) → header_of t ≡ x
      → ((n : ℕ) → at + n + length (drop n t) ≤ m → In m (next n) → In m (search_from card d (drop n t) (at + n) (i + 1) (next n)))
      → In m (on_header so x (λ n. cond (is_two (next n)) (next n) (search_from card d (drop n t) (at + n) (i + 1) (next n))))
  unfolding on_header
  on_header_lem (Err p) e on = v
  on_header_lem (Ok h) e on =
      let k = (header_inside t h.tag h.start h.len e).1 in
      let w = noted_in m (is_here card t) i at (h.start + h.len) so (omega arith) v in
      cond_in m (is_two (next (h.start + h.len))) (next (h.start + h.len)) _ w (on (h.start + h.len) (omega (arith, length-drop (h.start + h.len) t)) w)

search_in : (card : Card) (m d : ℕ) (t : List ℕ) (at i : ℕ) (so : Found) → at + length t ≤ m → In m so → In m (search_from card d t at i so)
unfolding search_from
search_in card m zero t at i so le v = v
search_in card m (suc d) t at i so le v =
    on_header_lem card m d t at i so le v (header_of t) refl
    (λ n le' w. search_in card m d (drop n t) (at + n) (i + 1) (noted (is_here card t) i at n so) le' w)

search_inside : (card : Card) (s : List ℕ) → In (length s) (search_of card s)
unfolding search_of
search_inside card s = search_in card (length s) (length s) s 0 0 (None 0) (omega arith) tt

module _ (q : Question) (s : List ℕ) (w : Found) (x : w ≡ search_of q.card s) where
  pub card_none : (k : ℕ) → w ≡ None k → (a : Answer) → a ≡ refused 10 0 → a ≡ card_ruled q s
  unfolding card_ruled found_ruled
  card_none k e a h = rw (sym x ∙ e) h

  pub card_two : (i j : ℕ) → w ≡ Two i j → (a : Answer) → a ≡ refused 11 0 → a ≡ card_ruled q s
  unfolding card_ruled found_ruled
  card_two i j e a h = rw (sym x ∙ e) h

  module _ (i b n : ℕ) (e : w ≡ One i b n) where
    pub card_end : b + n ≤ length s
    card_end = rw (sym x ∙ e) at (search_inside q.card s)

    pub card_sum : length s < 2 ^ 64 → Fits w64 (b + n)
    card_sum z = record { fits = omega (arith, card_end) }

    pub card_one : (a : Answer) → a ≡ seen_ruled q (take (b + n - b) (drop b s)) → a ≡ card_ruled q s
    unfolding card_ruled found_ruled
    card_one a h = let k : b + n - b ≡ n = omega arith in rw (sym x ∙ e) (rw k at h)

pub ruleset card_cases = (card_none, card_two, card_end, card_sum, card_one)
