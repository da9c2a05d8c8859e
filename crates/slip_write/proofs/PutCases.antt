-- Octets put one after the other are one run: the writer's calls, in order.
-- put_hashes, put_card, put_times, put_revoked, put_head, put_refusal.
-- Assumes nothing.
use Prim.Native.Nat.{ℕ, ◌+◌, ◌≤◌}
use native.Mathlib.Omega.{arith}
use mathlib.Core.Path.{◌≡◌, refl, ap, ap₂, ◌∙◌}
use mathlib.Core.List.{List, [], ◌∷◌, ◌++◌, append_assoc, append-nil, flatten}
use lib.ListN.{length, length-append}
use Rattle.octets.specs.Buffer.{splice, put_in}
use Rattle.octets.specs.BufferLaws.{splice_length, splice_splice, put_in_room}
use Rattle.octets.specs.Number.{octets_of}
use Rattle.octets.specs.NumberLaws.{octets_length}
use Rattle.answer.specs.declared.Card.{Card}
use Rattle.slip.specs.Numbers.{total, numbers_form}
use Rattle.slip.specs.NumbersLaws.{numbers_length}
use Rattle.slip.specs.Slip.{card_octets, Sized}
use Rattle.slip.specs.CardOctetsLaws.{card_length}

module _ (out : List ℕ) where
  -- new octets right after those that were put
  next : (at : ℕ) (old new p q : List ℕ) (place : ℕ) → p ≡ splice out at old → place ≡ at + length old → place + length new ≤ length out
      → q ≡ put_in p place new → q ≡ splice out at (old ++ new)
  next at old new p q place e k l f =
      let n : length p ≡ length out = ap length e ∙ splice_length out at old (omega arith) in
      f
      ∙ put_in_room p place new (omega arith)
      ∙ ap₂ (λ (x : List ℕ) (i : ℕ). splice x i new) e k
      ∙ splice_splice out at old new (omega arith)

  module _ (card : Card) (a : length card.name ≡ 20) (b : length card.key ≡ 20) (c : length card.serial ≡ 20) where
    sized : Sized 20 card
    sized = record { name = a; key = b; serial = c }

    -- both hashes
    pub put_hashes : 41 ≤ length out → (o1 o2 : List ℕ) → o1 ≡ put_in out 1 card.name → o2 ≡ put_in o1 21 card.key
        → o2 ≡ splice out 1 (card.name ++ card.key)
    put_hashes h o1 o2 e1 e2 =
        next 1 card.name card.key o1 o2 21 (e1 ∙ put_in_room out 1 card.name (omega arith)) (omega arith) (omega arith) e2

    -- the serial's length and the serial after them
    pub put_card : 62 ≤ length out → (o1 o2 o3 : List ℕ) → o1 ≡ splice out 1 (card.name ++ card.key) → o2 ≡ put_in o1 41 (octets_of 1 card.size)
        → o3 ≡ put_in o2 42 card.serial → o3 ≡ splice out 1 (card_octets card)
    unfolding card_octets flatten
    put_card h o1 o2 o3 e1 e2 e3 =
        let t = octets_of 1 card.size in
        let n1 = card.name ++ card.key in
        let k : length t ≡ 1 = octets_length 1 card.size in
        let l1 : length n1 ≡ 40 = length-append card.name card.key ∙ omega arith in
        let l2 : length (n1 ++ t) ≡ 41 = length-append n1 t ∙ omega arith in
        let f2 : o2 ≡ splice out 1 (n1 ++ t) = next 1 n1 t o1 o2 41 e1 (omega arith) (omega arith) e2 in
        let f3 : o3 ≡ splice out 1 (n1 ++ t ++ card.serial) = next 1 (n1 ++ t) card.serial o2 o3 42 f2 (omega arith) (omega arith) e3 in
        let j : n1 ++ t ++ card.serial ≡ flatten (card.name ∷ card.key ∷ t ∷ card.serial ∷ []) = simp (append_assoc, append-nil) in
        f3 ∙ ap (splice out 1) j

    card_size_lem : length (card_octets card) ≡ 61
    card_size_lem = card_length card 20 sized

    -- the kind, the card and two times
    pub put_times : (kind this next-update : ℕ) → 78 ≤ length out → (o1 o2 o3 : List ℕ) → o1 ≡ splice out 0 (octets_of 1 kind ++ card_octets card)
        → o2 ≡ put_in o1 62 (octets_of 8 this) → o3 ≡ put_in o2 70 (octets_of 8 next-update)
        → o3 ≡ splice out 0 (octets_of 1 kind ++ (card_octets card ++ numbers_form (8 ∷ 8 ∷ []) (this ∷ next-update ∷ [])))
    unfolding numbers_form
    put_times kind this later h o1 o2 o3 e1 e2 e3 =
        let t = octets_of 8 this in
        let u = octets_of 8 later in
        let n1 = octets_of 1 kind ++ card_octets card in
        let l1 : length n1 ≡ 62 = length-append (octets_of 1 kind) (card_octets card) ∙ omega (arith, octets_length 1 kind, card_size_lem) in
        let l2 : length (n1 ++ t) ≡ 70 = length-append n1 t ∙ omega (arith, octets_length 8 this) in
        let f2 : o2 ≡ splice out 0 (n1 ++ t) = next 0 n1 t o1 o2 62 e1 (omega arith) (omega (arith, octets_length 8 this)) e2 in
        let f3 : o3 ≡ splice out 0 (n1 ++ t ++ u) = next 0 (n1 ++ t) u o2 o3 70 f2 (omega arith) (omega (arith, octets_length 8 later)) e3 in
        let j : n1 ++ t ++ u ≡ octets_of 1 kind ++ (card_octets card ++ (t ++ (u ++ []))) = simp (append_assoc, append-nil) in
        f3 ∙ ap (splice out 0) j

    -- the revocationTime and the reason after them
    pub put_revoked : (this next-update at reason : ℕ) → 87 ≤ length out → (o1 o2 o3 : List ℕ)
        → o1 ≡ splice out 0 (octets_of 1 2 ++ (card_octets card ++ numbers_form (8 ∷ 8 ∷ []) (this ∷ next-update ∷ [])))
        → o2 ≡ put_in o1 78 (octets_of 8 at) → o3 ≡ put_in o2 86 (octets_of 1 reason)
        → o3 ≡ splice out 0 (octets_of 1 2 ++ (card_octets card ++ numbers_form (8 ∷ 8 ∷ 8 ∷ 1 ∷ []) (this ∷ next-update ∷ at ∷ reason ∷ [])))
    unfolding numbers_form total
    put_revoked this later at reason h o1 o2 o3 e1 e2 e3 =
        let t = octets_of 8 at in
        let u = octets_of 1 reason in
        let m = octets_of 8 this ++ (octets_of 8 later ++ []) in
        let n1 = octets_of 1 2 ++ (card_octets card ++ m) in
        let lm : length m ≡ 16 = numbers_length (8 ∷ 8 ∷ []) (this ∷ later ∷ []) refl in
        let l1 : length n1 ≡ 78 =
        length-append (octets_of 1 2) (card_octets card ++ m) ∙ omega (arith, octets_length 1 2, length-append (card_octets card) m, card_size_lem) in
        let l2 : length (n1 ++ t) ≡ 86 = length-append n1 t ∙ omega (arith, octets_length 8 at) in
        let f2 : o2 ≡ splice out 0 (n1 ++ t) = next 0 n1 t o1 o2 78 e1 (omega arith) (omega (arith, octets_length 8 at)) e2 in
        let f3 : o3 ≡ splice out 0 (n1 ++ t ++ u) = next 0 (n1 ++ t) u o2 o3 86 f2 (omega arith) (omega (arith, octets_length 1 reason)) e3 in
        let j : n1 ++ t ++ u ≡ octets_of 1 2 ++ (card_octets card ++ (octets_of 8 this ++ (octets_of 8 later ++ (t ++ (u ++ []))))) = simp (append_assoc, append-nil) in
        f3 ∙ ap (splice out 0) j

  -- the kind, and the card after it
  pub put_head : (kind : ℕ) (card : Card) → 62 ≤ length out → (o1 o2 : List ℕ) → o1 ≡ put_in out 0 (octets_of 1 kind) → o2 ≡ splice o1 1 (card_octets card)
      → o2 ≡ splice out 0 (octets_of 1 kind ++ card_octets card)
  put_head kind card h o1 o2 e1 e2 =
      let k : length (octets_of 1 kind) ≡ 1 = octets_length 1 kind in
      let f1 : o1 ≡ splice out 0 (octets_of 1 kind) = e1 ∙ put_in_room out 0 (octets_of 1 kind) (omega arith) in
      let j : 1 ≡ 0 + length (octets_of 1 kind) = omega arith in
      e2 ∙ ap₂ (λ (x : List ℕ) (i : ℕ). splice x i (card_octets card)) f1 j ∙ splice_splice out 0 (octets_of 1 kind) (card_octets card) (omega arith)

  -- a refusal
  pub put_refusal : (number status : ℕ) → 3 ≤ length out → (o1 o2 o3 : List ℕ) → o1 ≡ put_in out 0 (octets_of 1 4) → o2 ≡ put_in o1 1 (octets_of 1 number)
      → o3 ≡ put_in o2 2 (octets_of 1 status) → o3 ≡ splice out 0 (octets_of 1 4 ++ numbers_form (1 ∷ 1 ∷ []) (number ∷ status ∷ []))
  unfolding numbers_form
  put_refusal number status h o1 o2 o3 e1 e2 e3 =
      let t = octets_of 1 number in
      let u = octets_of 1 status in
      let n1 = octets_of 1 4 in
      let l1 : length n1 ≡ 1 = octets_length 1 4 in
      let l2 : length (n1 ++ t) ≡ 2 = length-append n1 t ∙ omega (arith, octets_length 1 number) in
      let f1 : o1 ≡ splice out 0 n1 = e1 ∙ put_in_room out 0 n1 (omega arith) in
      let f2 : o2 ≡ splice out 0 (n1 ++ t) = next 0 n1 t o1 o2 1 f1 (omega arith) (omega (arith, octets_length 1 number)) e2 in
      let f3 : o3 ≡ splice out 0 (n1 ++ t ++ u) = next 0 (n1 ++ t) u o2 o3 2 f2 (omega arith) (omega (arith, octets_length 1 status)) e3 in
      let j : n1 ++ t ++ u ≡ n1 ++ (t ++ (u ++ [])) = simp (append_assoc, append-nil) in
      f3 ∙ ap (splice out 0) j
