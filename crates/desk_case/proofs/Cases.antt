-- What the code knows at each return, and the contract there.
-- form_long, form_kind, form_name, form_fill, in form_cases; question_parts; asked_long, asked_sum, asked_end, asked_checked, in
-- asked_cases; asked_out, asked_form.
-- Assumes nothing.
use Prim.Native.Nat.{ℕ, ◌+◌, ◌-◌, ◌≤◌, ◌<◌}
use native.Mathlib.Omega.{arith}
use mathlib.Core.Path.{◌≡◌, sym, ap, ◌∙◌}
use mathlib.Core.Bool.{Bool, true, false, not}
use mathlib.Core.List.{List}
use lib.ListN.{length, get_or, take, drop, length-drop}
use lib.Seq.{take_all, drop-drop}
use borrow.Author.Tests.{eq-eqb, ne_eqb, le-leb, lt-leb, not-true, not-false}
use mir.Syntax.{w64}
use mir.Val.{Fits}
use Rattle.answer.specs.Card.{all_zero}
use Rattle.answer.specs.Verdict.{refused}
use Rattle.answer.specs.declared.Card.{Card}
use Rattle.answer.specs.declared.Answer.{Answer}
use Rattle.fields.specs.Field.{field_at, value_at, card_in}
use Rattle.rules.specs.declared.Question.{Question}
use Rattle.rules.specs.Ruling.{answer_of}
use Rattle.desk_question.specs.Asked.{question_in, name_in, fill_in, question_ok, asked}
use Rattle.desk_question.proofs.AskedLaws.{octet_there, question_exactly, asked_broken, asked_kept}

-- ---- the form

pub form_long : (s : List ℕ) → (length s ≡ 353 → ⊥) → false ≡ question_ok 20 s
unfolding question_ok
form_long s h = rw (ne_eqb (length s) 353 h)

module _ (s : List ℕ) (l : length s ≡ 353) where
  first : value_at s 0 1 ≡ get_or s 0 0
  first = octet_there s 0 (omega arith)

  pub form_kind : (get_or s 0 0 ≡ 0x51 → ⊥) → false ≡ question_ok 20 s
  unfolding question_ok
  form_kind h = rw (eq-eqb (length s) 353 l, first, ne_eqb (get_or s 0 0) 0x51 h)

  module _ (k : get_or s 0 0 ≡ 0x51) (size : ℕ) (v : size ≡ value_at s 95 2) where
    pub form_name : 256 < size → false ≡ question_ok 20 s
    unfolding question_ok
    form_name h = rw (eq-eqb (length s) 353 l, first, eq-eqb (get_or s 0 0) 0x51 k, ← v, lt-leb size 256 h)

    pub form_fill : size ≤ 256 → (z : Bool) → z ≡ all_zero (take (length s - (97 + size)) (drop (97 + size) s)) → z ≡ question_ok 20 s
    unfolding question_ok fill_in
    form_fill h z e =
        let i : take (length s - (97 + size)) (drop (97 + size) s) ≡ drop size (drop 97 s) =
        take_all (length s - (97 + size)) (drop (97 + size) s) (omega (arith, length-drop (97 + size) s)) ∙ sym (drop-drop size 97 s) in
        e ∙ rw (eq-eqb (length s) 353 l, first, eq-eqb (get_or s 0 0) 0x51 k, ← v, le-leb size 256 h) (ap all_zero i)

-- ---- the question

pub question_parts : (s : List ℕ) → length s ≡ 353 → (card : Card) → card ≡ card_in 20 (take (length s - 1) (drop 1 s))
    → (now : ℕ) → now ≡ value_at s 62 8 → (tolerance : ℕ) → tolerance ≡ value_at s 70 2 → (signer : List ℕ) → signer ≡ field_at 20 s 75
    → record { card = card; now = now; tolerance = tolerance; verdict = get_or s 72 0; role = get_or s 73 0; marks = get_or s 74 0; signer = signer } ≡ question_in 20 s
unfolding question_in
question_parts s l card a now b tolerance c signer d =
    let e : card ≡ card_in 20 (drop 1 s) = a ∙ ap (card_in 20) (take_all (length s - 1) (drop 1 s) (omega (arith, length-drop 1 s))) in
    let f : get_or s 72 0 ≡ value_at s 72 1 = sym (octet_there s 72 (omega arith)) in
    let g : get_or s 73 0 ≡ value_at s 73 1 = sym (octet_there s 73 (omega arith)) in
    let h : get_or s 74 0 ≡ value_at s 74 1 = sym (octet_there s 74 (omega arith)) in
    λ i. record { card = e i; now = b i; tolerance = c i; verdict = f i; role = g i; marks = h i; signer = d i }

-- ---- the answer

module _ (s r : List ℕ) (e : question_ok 20 s ≡ true) where
  pub asked_long : length s ≡ 353
  asked_long = ((question_exactly 20 s).0 e).0

  module _ (size : ℕ) (v : size ≡ value_at s 95 2) where
    most : size ≤ 256
    most = omega (arith, ((question_exactly 20 s).0 e).2)

    pub asked_sum : Fits w64 (97 + size)
    asked_sum = record { fits = omega (arith, most) }

    pub asked_end : 97 + size ≤ length s
    asked_end = omega (arith, most, asked_long)

    pub asked_checked : (q : Question) → q ≡ question_in 20 s → (a : Answer) → a ≡ answer_of q (take (97 + size - 97) (drop 97 s)) r → a ≡ asked s r
    unfolding name_in
    asked_checked q x a y =
        let i : 97 + size - 97 ≡ value_at s 95 2 = omega arith in
        y ∙ rw (x, i) (sym (asked_kept s r e))

module _ (s r : List ℕ) (z : Bool) (e : z ≡ question_ok 20 s) where
  pub asked_out : not z ≡ true → (a : Answer) → a ≡ refused 1 0 → a ≡ asked s r
  asked_out h a x = x ∙ sym (asked_broken s r (sym e ∙ not-true z h))

  pub asked_form : not z ≡ false → question_ok 20 s ≡ true
  asked_form h = sym e ∙ not-false z h

pub ruleset form_cases = (form_long, form_kind, form_name, form_fill)

pub ruleset asked_cases = (asked_long, asked_sum, asked_end, asked_checked)
