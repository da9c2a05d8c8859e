-- The search with the card's fields lent is the search for the card.
-- field_inside, field_taken, field_short, card_search; twenty_short; lent_cases.
-- The definitions are in specs/Search. Assumes nothing.
use Rattle.std.specs.Prelude.{Err, Ok}
use Prim.Native.Nat.{ℕ, zero, suc, ◌+◌, ◌≤◌, min}
use native.Mathlib.Nat.{min-le_right}
use native.Mathlib.Omega.{arith}
use mathlib.Core.Path.{◌≡◌, refl, sym, ap, ◌∙◌}
use mathlib.Core.Bool.{cond}
use mathlib.Core.List.{List}
use lib.ListN.{length, take, drop}
use lib.Seq.{length-take-le, take-length}
use Rattle.element.specs.Header.{header_of}
use Rattle.element.specs.Places.{HeaderRead, Spot}
use Rattle.read_entry.specs.Ids.{cert_spot}
use Rattle.answer.specs.declared.Card.{Card}
use Rattle.answer.specs.Card.{serial_in}
use Rattle.rule_matching.specs.CertForm.{sha1_heads, is_card_octets}
use Rattle.rule_matching.proofs.FieldsLaws.{serial_taken}
use Rattle.rule_search.specs.Search.{is_at, is_here, noted, is_two, on_header, search_from, search_of, card_with}
use Rattle.rule_search.specs.declared.Found.{Found}
use Rattle.rule_search.specs.declared.Found.TheVariants.{None}

-- by what follows a header
on_same : (so : Found) (y : HeaderRead) (f g : ℕ → Found) → ((n : ℕ) → f n ≡ g n) → on_header so y f ≡ on_header so y g
unfolding on_header
on_same so (Err p) f g e = refl
on_same so (Ok h) f g e = e (h.start + h.len)

module _ (card : Card) (x : List ℕ) (e : x ≡ serial_in card) where
  abbrev lent : Card
  lent = card_with card.name card.key x

  same_here : (t : List ℕ) → is_here lent t ≡ is_here card t
  unfolding is_here is_at
  same_here t = go (cert_spot t)
    where
      go : (y : Spot) → is_at lent t y ≡ is_at card t y
      go (Ok v) = ap (λ (z : List ℕ). is_card_octets sha1_heads card.name card.key z (take v.len (drop v.start t))) (take-length x ∙ e)
      go (Err p) = refl

  same_from : (d : ℕ) (t : List ℕ) (at i : ℕ) (so : Found) → search_from lent d t at i so ≡ search_from card d t at i so
  unfolding search_from
  same_from zero t at i so = refl
  same_from (suc d) t at i so =
      on_same so (header_of t) _ _
      (λ n.
      rw (same_here t)
      (ap (λ (r : Found). cond (is_two (noted (is_here card t) i at n so)) (noted (is_here card t) i at n so) r)
      (same_from d (drop n t) (at + n) (i + 1) (noted (is_here card t) i at n so))))

-- the serial as code lends it
module _ (card : Card) (n : ℕ) (l : length card.serial ≡ 20) (q : n ≡ min card.size 20) where
  pub field_inside : n ≤ length card.serial
  field_inside = omega (arith, min-le_right card.size 20)

  pub field_taken : n ≡ length (take n card.serial)
  field_taken = sym (length-take-le n card.serial field_inside)

  pub field_short : length (take n card.serial) ≤ 127
  field_short = omega (arith, field_taken, min-le_right card.size 20)

  pub card_search : (s : List ℕ) (r : Found) → r ≡ search_of (card_with card.name card.key (take n card.serial)) s → r ≡ search_of card s
  unfolding search_of
  card_search s r g = g ∙ same_from card (take n card.serial) (serial_taken card.serial card.size n l q) (length s) s 0 0 (None 0)

pub twenty_short : (h : List ℕ) → length h ≡ 20 → length h ≤ 127
twenty_short h e = omega arith

pub ruleset lent_cases = (twenty_short, field_inside, field_taken, field_short, card_search)
