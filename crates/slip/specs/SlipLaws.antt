-- Laws of slips: a slip that was written is read as its answer without the place, and one that is read is written as the
-- same octets.
-- slip_length; slip_parts, read_written; written_read, read_exactly.
-- The definitions are in Slip. A hash has n octets. Assumes nothing.
use Rattle.std.specs.Prelude.{ℕ, suc, ◌<◌, ◌↔◌, ◌≡◌, Bool, length, drop}
use Rattle.std.proofs.Common.{arith, ◌∙◌, eqb-true}
use Rattle.std.proofs.Math.Logic.{⊎_elim}
use Rattle.std.proofs.Math.Path.{refl, sym, ap, ap₂}
use Rattle.std.proofs.Math.Bool.{true, false, cond}
use mathlib.Core.List.{List, [], ◌∷◌}
use Rattle.std.proofs.Math.Dec.{eqb}
use Rattle.octets.specs.Octets.{Octets}
use Rattle.octets.specs.SameLaws.{impossible}
use Rattle.answer.specs.declared.Answer.{Answer}
use Rattle.answer.specs.Card.{empty_card, card_ok, same_card}
use Rattle.answer.specs.CardLaws.{field_exactly, same_card_true}
use Rattle.answer.specs.Verdict.{kind_of, values_of, saying, without_place, refused}
use Rattle.slip.specs.Numbers.{numbers_in}
use Rattle.slip.specs.NumbersLaws.{numbers_count}
use Rattle.slip.specs.Rules.{verdict_ok}
use Rattle.slip.specs.RulesLaws.{both, verdict_fits, verdict_back, refused_broken}
use Rattle.slip.specs.Table.{Row, no_row, row_of, card_size, body_size, size_of}
use Rattle.slip.specs.TableLaws.{Faithful, row_faithful, verdict_count}
use Rattle.slip.specs.Slip.{body_of, slip_of, card_fits, slip_ok, verdict_in, card_under, parsed_as, parsed, read_of, Hashed}
use Rattle.slip.specs.BodyLaws.{answer_same, body_length, body_read, body_written}

-- a slip has as many octets as its kind says
pub slip_length : (n : ℕ) (a : Answer) → Hashed n a → length (slip_of a) ≡ size_of n (kind_of a.verdict)
unfolding slip_of size_of
slip_length n a h = ap suc (body_length n (row_of (kind_of a.verdict)) a.card (values_of a.verdict) h (verdict_count a.verdict))

-- ---- written, and read

module _ (a : Answer) (ok : slip_ok a ≡ true) where
  abbrev row : Row
  row = row_of (kind_of a.verdict)

  -- what the slip rules say of an answer: its verdict's rules, and the card's
  pub slip_parts : (verdict_ok a.verdict ≡ true) × (row.carded ≡ true → card_ok a.card ≡ true) × (cond row.carded a.card empty_card ≡ a.card)
  unfolding slip_ok card_fits
  slip_parts =
      let p = both (verdict_ok a.verdict) (card_fits (kind_of a.verdict) a.card) ok in
      let q = go row.carded p.1 in
      (p.0, q.0, q.1)
    where
      go : (t : Bool) → cond t (card_ok a.card) (same_card a.card empty_card) ≡ true
          → (t ≡ true → card_ok a.card ≡ true) × (cond t a.card empty_card ≡ a.card)
      go true e = (λ z. e, refl)
      go false e = (λ z. impossible z, sym (same_card_true a.card empty_card e))

  module _ (n : ℕ) (h : Hashed n a) where
    parsed_written : parsed n (slip_of a) ≡ without_place a
    unfolding parsed slip_of
    parsed_written =
        let small : row.carded ≡ true → a.card.size < 256 =
        λ c. omega (arith, ((field_exactly a.card.size a.card.serial).0 (slip_parts.1 c)).0) in
        body_read n row a.card (values_of a.verdict) h small (verdict_fits a.verdict slip_parts.0)
        ∙ answer_same (verdict_back a.verdict slip_parts.0) slip_parts.2

    -- a slip that was written is read as its answer without the place
    pub read_written : read_of n (slip_of a) ≡ without_place a
    unfolding read_of slip_ok
    read_written = rw (parsed_written, ok)

-- 17 is no answer of a slip
refused_not : slip_ok (refused 17 0) ≡ false
unfolding slip_ok refused
refused_not = rw (refused_broken 0)

-- what a body says, if it keeps the rules, is of a kind of the table; written again it is the same octets
module _ (n kind : ℕ) (s : List ℕ) (p : Octets s) where
  abbrev values : List ℕ
  values = numbers_in (row_of kind).widths (drop (card_size n (row_of kind)) s)

  abbrev said : Answer
  said = saying (verdict_in n (row_of kind) s) (card_under n (row_of kind) s)

  said_written : length s ≡ body_size n (row_of kind) → slip_ok said ≡ true → slip_of said ≡ kind ∷ s
  unfolding slip_of verdict_in
  said_written e ok = ⊎_elim of_table of_none (row_faithful kind)
    where
      of_table : Faithful (row_of kind) × ((row_of kind).kind ≡ kind) → slip_of said ≡ kind ∷ s
      of_table (f, k) =
          let g = f values (numbers_count (row_of kind).widths (drop (card_size n (row_of kind)) s)) in
          ap₂ (λ (j : ℕ) (v : List ℕ). j ∷ body_of (row_of j) said.card v) (g.0 ∙ k) g.1
          ∙ ap (λ (t : List ℕ). kind ∷ t) (body_written n (row_of kind) s p e)

      of_none : row_of kind ≡ no_row kind → slip_of said ≡ kind ∷ s
      of_none z = impossible (sym (ap (λ (r : Row). verdict_ok (r.says values)) z ∙ refused_broken 0) ∙ (slip_parts said ok).0)

  parsed_as_back : slip_ok (parsed_as n (row_of kind) s) ≡ true → slip_of (parsed_as n (row_of kind) s) ≡ kind ∷ s
  unfolding parsed_as
  parsed_as_back ok = go (eqb (length s) (body_size n (row_of kind))) refl ok
    where
      go : (t : Bool) → eqb (length s) (body_size n (row_of kind)) ≡ t → slip_ok (cond t said (refused 17 0)) ≡ true → slip_of (cond t said (refused 17 0)) ≡ kind ∷ s
      go true e ok = said_written (eqb-true (length s) (body_size n (row_of kind)) e) ok
      go false e ok = impossible (sym refused_not ∙ ok)

parsed_back : (n : ℕ) (s : List ℕ) → Octets s → slip_ok (parsed n s) ≡ true → slip_of (parsed n s) ≡ s
unfolding parsed
parsed_back n [] p ok = impossible (sym refused_not ∙ ok)
parsed_back n (kind ∷ s) p ok = parsed_as_back n kind s p.1 ok

module _ (n : ℕ) (s : List ℕ) (p : Octets s) where
  -- a slip that is read, written again, is the same octets
  pub written_read : (read_of n s ≡ refused 17 0 → ⊥) → (slip_ok (read_of n s) ≡ true) × (slip_of (read_of n s) ≡ s)
  unfolding read_of
  written_read h = go (slip_ok (parsed n s)) refl h
    where
      go : (t : Bool) → slip_ok (parsed n s) ≡ t → (cond t (parsed n s) (refused 17 0) ≡ refused 17 0 → ⊥)
          → (slip_ok (cond t (parsed n s) (refused 17 0)) ≡ true) × (slip_of (cond t (parsed n s) (refused 17 0)) ≡ s)
      go true e h = (e, parsed_back n s p e)
      go false e h = absurd (h refl)

  -- octets read as an answer without its place, where it keeps the rules, exactly where they are its slip
  pub read_exactly : (a : Answer) → slip_ok a ≡ true → Hashed n a → read_of n s ≡ without_place a ↔ slip_of a ≡ s
  unfolding slip_of slip_ok
  read_exactly a ok h = (
    λ e. ap slip_of (sym e) ∙ (written_read (λ (z : read_of n s ≡ refused 17 0). impossible (sym refused_not ∙ ap slip_ok (sym z ∙ e) ∙ ok))).1,
    λ e. ap (read_of n) (sym e) ∙ read_written a ok n h,
  )
