-- Laws of a card's octets: writing and reading give back each other.
-- card_octets_lem, card_length, card_read, card_written.
-- The definitions are in Slip, and in Field of crate fields. A hash has n octets. Assumes nothing.
use Rattle.std.specs.Prelude.{ℕ, ◌+◌, ◌≤◌, ◌<◌, ◌≡◌, length, drop}
use native.Mathlib.Omega.{arith}
use Rattle.std.proofs.Math.Path.{sym, ap}
use Rattle.std.proofs.Common.{◌∙◌, length-append, length-drop, take_at, drop_at, drop-drop, length-take-le}
use mathlib.Core.List.{List, [], ◌++◌, append_assoc, append-nil, flatten}
use Rattle.std.proofs.Math.ListN.{take}
use Rattle.std.proofs.Math.Seq.{take-add}
use Rattle.octets.specs.Octets.{Octets}
use Rattle.octets.specs.OctetsLaws.{octets_take, octets_drop}
use Rattle.octets.specs.Number.{value_of, octets_of}
use Rattle.octets.specs.NumberLaws.{octets_length, octets_value, value_octets}
use Rattle.answer.specs.declared.Card.{Card}
use Rattle.fields.specs.Field.{card_in}
use Rattle.fields.specs.FieldLaws.{card_there}
use Rattle.slip.specs.Slip.{card_octets, Sized}

module _ (card : Card) (t : List ℕ) where
  -- the fields one after the other, and what follows
  pub card_octets_lem : card_octets card ++ t ≡ card.name ++ (card.key ++ (octets_of 1 card.size ++ (card.serial ++ t)))
  unfolding card_octets flatten
  card_octets_lem = simp (append_assoc, append-nil)

  module _ (n : ℕ) (h : Sized n card) where
    abbrev size : List ℕ
    size = octets_of 1 card.size

    abbrev tail2 : List ℕ
    tail2 = size ++ (card.serial ++ t)

    abbrev tail1 : List ℕ
    tail1 = card.key ++ tail2

    abbrev whole : List ℕ
    whole = card.name ++ tail1

    size_length : length size ≡ 1
    size_length = octets_length 1 card.size

    drop1 : drop n whole ≡ tail1
    drop1 = drop_at card.name tail1 n h.name

    drop2 : drop (n + n) whole ≡ tail2
    drop2 = sym (drop-drop n n whole) ∙ ap (drop n) drop1 ∙ drop_at card.key tail2 n h.key

    drop3 : drop (n + n + 1) whole ≡ card.serial ++ t
    drop3 = sym (drop-drop 1 (n + n) whole) ∙ ap (drop 1) drop2 ∙ drop_at size (card.serial ++ t) 1 size_length

    whole_length : length whole ≡ n + n + 21 + length t
    whole_length =
        omega (
          arith,
          h.name,
          h.key,
          h.serial,
          size_length,
          length-append card.name tail1,
          length-append card.key tail2,
          length-append size (card.serial ++ t),
          length-append card.serial t,
        )

    -- a card that was written is read, whatever follows it
    pub card_read : card.size < 256 → card_in n (card_octets card ++ t) ≡ card
    card_read l =
        ap (card_in n) card_octets_lem
        ∙ card_there n whole (omega (arith, whole_length))
        ∙ same
        (take_at card.name tail1 n h.name)
        (ap (take n) drop1 ∙ take_at card.key tail2 n h.key)
        (ap (take 20) drop3 ∙ take_at card.serial t 20 h.serial)
        (ap (λ (s : List ℕ). value_of (take 1 s)) drop2
        ∙ ap value_of (take_at size (card.serial ++ t) 1 size_length)
        ∙ value_octets 1 card.size l)
      where
        same : {a b c : List ℕ} {d : ℕ} → a ≡ card.name → b ≡ card.key → c ≡ card.serial → d ≡ card.size
            → ◌≡◌ {A = Card} (record { name = a; key = b; serial = c; size = d }) card
        same p q r z = λ i. record { name = p i; key = q i; serial = r i; size = z i }

-- a card of n + n + 21 octets
pub card_length : (card : Card) (n : ℕ) → Sized n card → length (card_octets card) ≡ n + n + 21
card_length card n h = ap length (sym (append-nil (card_octets card)) ∙ card_octets_lem card []) ∙ whole_length card [] n h ∙ omega arith

-- a card that was read is written as it stood
module _ (n : ℕ) (s : List ℕ) (p : Octets s) (l : n + n + 21 ≤ length s) where
  size_same : octets_of 1 (value_of (take 1 (drop (n + n) s))) ≡ take 1 (drop (n + n) s)
  size_same =
      let e : length (take 1 (drop (n + n) s)) ≡ 1 = length-take-le 1 (drop (n + n) s) (omega (arith, length-drop (n + n) s)) in
      ap (λ (k : ℕ). octets_of k (value_of (take 1 (drop (n + n) s)))) (sym e)
      ∙ octets_value (take 1 (drop (n + n) s)) (octets_take 1 (drop (n + n) s) (octets_drop (n + n) s p))

  pub card_written : card_octets (card_in n s) ≡ take (n + n + 21) s
  unfolding card_octets flatten
  card_written =
      let e : n + n + 21 ≡ n + n + 1 + 20 = omega arith in
      ap card_octets (card_there n s l)
      ∙ ap (λ (x : List ℕ). take n s ++ (take n (drop n s) ++ (x ++ (take 20 (drop (n + n + 1) s) ++ [])))) size_same
      ∙ sym (rw (e, take-add (n + n + 1) 20 s, take-add (n + n) 1 s, take-add n n s) (simp (append_assoc, append-nil)))
