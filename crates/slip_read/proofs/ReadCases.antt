-- The cases of the slip's reader: what each return has learned of the octets.
-- parse_none, parse_size, parse_room, parse_said, in parse_cases.
-- Assumes nothing.
use Prim.Native.Nat.{ℕ, ◌-◌, ◌≤◌}
use native.Mathlib.Nat.{pos_of_ne-zero, le_of_eq}
use native.Mathlib.Omega.{arith}
use mathlib.Core.Path.{◌≡◌, refl, sym, ap, ◌∙◌}
use mathlib.Core.List.{List, [], ◌∷◌}
use lib.ListN.{length, get_or, take, drop, length-drop}
use lib.Seq.{take_all}
use borrow.Author.Tests.{eq-eqb, ne_eqb}
use Rattle.answer.specs.declared.Card.{Card}
use Rattle.answer.specs.declared.Verdict.{Verdict}
use Rattle.answer.specs.declared.Answer.{Answer}
use Rattle.answer.specs.Verdict.{saying, refused}
use Rattle.slip.specs.Table.{Row, row_of, body_size, size_of}
use Rattle.slip.specs.Slip.{verdict_in, card_under, parsed_as, parsed}
use Rattle.slip.specs.BodyLaws.{answer_same}

module _ (s : List ℕ) where
  pub parse_none : (a : Answer) → a ≡ refused 17 0 → length s ≡ 0 → a ≡ parsed 20 s
  unfolding parsed
  parse_none a e l = e ∙ none s l
    where
      none : (s : List ℕ) → length s ≡ 0 → refused 17 0 ≡ parsed 20 s
      none [] l = refl
      none (x ∷ s) l = absurd (omega arith)

  module _ (some : length s ≡ 0 → ⊥) where
    by_kind : parsed 20 s ≡ parsed_as 20 (row_of (get_or s 0 0)) (drop 1 s)
    unfolding parsed
    by_kind = go s some
      where
        go : (s : List ℕ) → (length s ≡ 0 → ⊥) → parsed 20 s ≡ parsed_as 20 (row_of (get_or s 0 0)) (drop 1 s)
        go [] h = absurd (h refl)
        go (x ∷ s) h = refl

    module _ (size : ℕ) (e : size ≡ size_of 20 (get_or s 0 0)) where
      abbrev row : Row
      row = row_of (get_or s 0 0)

      -- another length
      pub parse_size : (length s ≡ size → ⊥) → (a : Answer) → a ≡ refused 17 0 → a ≡ parsed 20 s
      unfolding parsed_as size_of
      parse_size h a p =
          let z : length (drop 1 s) ≡ body_size 20 row → ⊥ = λ q. h (omega (arith, length-drop 1 s, pos_of_ne-zero some)) in
          p ∙ sym (by_kind ∙ rw (ne_eqb (length (drop 1 s)) (body_size 20 row) z))

      module _ (h : length s ≡ size) where
        abbrev body : List ℕ
        body = take (length s - 1) (drop 1 s)

        whole : body ≡ drop 1 s
        whole = take_all (length s - 1) (drop 1 s) (simp length-drop (omega arith))

        body_size_lem : length (drop 1 s) ≡ body_size 20 row
        unfolding size_of
        body_size_lem = length-drop 1 s ∙ omega arith

        pub parse_room : body_size 20 row ≤ length body
        parse_room = rw whole (le_of_eq (sym body_size_lem))

        pub parse_said : (v : Verdict) → v ≡ verdict_in 20 row body → (card : Card) → card ≡ card_under 20 row body
            → saying v card ≡ parsed 20 s
        unfolding parsed_as
        parse_said v p card q =
            let a : v ≡ verdict_in 20 row (drop 1 s) = p ∙ ap (verdict_in 20 row) whole in
            let b : card ≡ card_under 20 row (drop 1 s) = q ∙ ap (card_under 20 row) whole in
            answer_same a b ∙ sym (by_kind ∙ rw (eq-eqb (length (drop 1 s)) (body_size 20 row) body_size_lem))

pub ruleset parse_cases = (parse_none, parse_size, parse_room, parse_said)
