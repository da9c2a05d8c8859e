-- Laws of elements found from header to header: they lie inside the list, and of entries they are the
-- entries' forms.
-- step_inside, steps_inside, steps_more, steps_next; forms_cut, drop_forms; step_form, step_forms, steps_forms, entry_after.
-- The definitions are in Steps. Assumes nothing.
use Rattle.std.specs.Prelude.{ℕ, zero, suc, ◌+◌, ◌-◌, ◌^◌, ◌≤◌, ◌<◌, ◌≡◌, refl, true, List, [], ◌∷◌, ◌++◌, length, take, drop, Ok, Err}
use Rattle.std.proofs.Common.{arith, sym, ap, ◌∙◌, append_assoc, append-nil, length-append, length-drop}
use Rattle.std.proofs.Math.Seq.{drop-append_seam, drop-drop}
use Rattle.element.specs.Tag.{tag_ok}
use Rattle.element.specs.Form.{form_of}
use Rattle.element.specs.FormLaws.{form_length}
use Rattle.element.specs.Header.{header_of}
use Rattle.element.specs.HeaderLaws.{header_inside}
use Rattle.element.specs.Places.{HeaderRead}
use Rattle.codec.proofs.PartLaws.{form_found, small_left, small_right, small_content}
use Rattle.codec.specs.Many.{forms}
use Rattle.layout.specs.Reading.{Entry}
use Rattle.layout.proofs.ElementKinds.{tag_30}
use Rattle.layout.proofs.Format.{single_body, single_response}
use Rattle.show.specs.Steps.{head_span, step_size, steps_size, spot_after}
use Rattle.show.specs.declared.Entry.TheVariants as entry

-- ── inside the list ──
pub step_inside : (s : List ℕ) → step_size s ≤ length s
unfolding step_size
step_inside s = go (header_of s) refl
  where
    go : (x : HeaderRead) → header_of s ≡ x → head_span x ≤ length s
    go (Ok h) e = (header_inside s h.tag h.start h.len e).1
    go (Err p) e = omega arith

pub steps_inside : (k : ℕ) (s : List ℕ) → steps_size k s ≤ length s
unfolding steps_size
steps_inside zero s = omega arith
steps_inside (suc k) s =
    let n = step_size s in
    omega (arith, step_inside s, steps_inside k (drop n s), length-drop n s)

-- one step more
pub steps_more : (k : ℕ) (s : List ℕ) → 0 < k → steps_size k s ≡ step_size s + steps_size (k - 1) (drop (step_size s) s)
unfolding steps_size
steps_more zero s h = absurd (omega arith)
steps_more (suc k) s h = let e : suc k - 1 ≡ k = omega arith in rw e

pub steps_next : (k : ℕ) (s : List ℕ) → steps_size (k + 1) s ≡ steps_size k s + step_size (drop (steps_size k s) s)
unfolding steps_size
steps_next zero s = omega arith
steps_next (suc k) s =
    let n = step_size s in
    let i = steps_next k (drop n s) in
    let d = drop-drop (steps_size k (drop n s)) n s in
    let e : suc k + 1 ≡ suc (k + 1) = omega arith in
    rw e (rw (i, d) (omega arith))

-- ── forms, cut ──
module _ {A : Type 0} (f : A → List ℕ) where
  pub forms_cut : (k : ℕ) (l : List A) → forms f l ≡ forms f (take k l) ++ forms f (drop k l)
  forms_cut zero l = refl
  forms_cut (suc k) [] = refl
  forms_cut (suc k) (a ∷ l) = ap (λ (x : List ℕ). f a ++ x) (forms_cut k l) ∙ sym (append_assoc (f a) (forms f (take k l)) (forms f (drop k l)))

  pub drop_forms : (k : ℕ) (l : List A) → drop (length (forms f (take k l))) (forms f l) ≡ forms f (drop k l)
  drop_forms k l = ap (drop (length (forms f (take k l)))) (forms_cut k l) ∙ drop-append_seam (forms f (take k l)) (forms f (drop k l))

-- ── an element's octets ──
pub step_form : (t : ℕ) (c r : List ℕ) → tag_ok t ≡ true → length c < 2 ^ 64 → step_size (form_of t c ++ r) ≡ length (form_of t c)
unfolding step_size
step_form t c r k lt = rw (form_found t c r k lt) (sym (form_length t c))

abbrev enc : Entry → List ℕ
enc = single_response.enc

entry_step : (a : Entry) (r : List ℕ) → length (enc a) < 2 ^ 64 → step_size (enc a ++ r) ≡ length (enc a)
unfolding single_response
entry_step a r z = step_form 0x30 (single_body.enc a) r tag_30 (small_content 0x30 (single_body.enc a) z)

none_step : step_size [] ≡ 0
unfolding step_size header_of
none_step = refl

none_steps : (k : ℕ) → steps_size k [] ≡ 0
unfolding steps_size
none_steps zero = refl
none_steps (suc k) = let i = none_steps k in rw none_step (omega arith)

-- the first entry, and the first k
pub step_forms : (l : List Entry) → length (forms enc l) < 2 ^ 64 → step_size (forms enc l) ≡ length (forms enc (take 1 l))
step_forms [] z = none_step
step_forms (a ∷ l) z = entry_step a (forms enc l) (small_left (enc a) (forms enc l) z) ∙ ap length (sym (append-nil (enc a)))

pub steps_forms : (k : ℕ) (l : List Entry) → length (forms enc l) < 2 ^ 64 → steps_size k (forms enc l) ≡ length (forms enc (take k l))
unfolding steps_size
steps_forms zero l z = refl
steps_forms (suc k) [] z = none_steps (suc k)
steps_forms (suc k) (a ∷ l) z =
    rw (
      entry_step a (forms enc l) (small_left (enc a) (forms enc l) z),
      drop-append_seam (enc a) (forms enc l),
      steps_forms k l (small_right (enc a) (forms enc l) z),
    ) (sym (length-append (enc a) (forms enc (take k l))))

-- the entry after the first k
pub entry_after : (at k : ℕ) (l : List Entry) → length (forms enc l) < 2 ^ 64
    → spot_after at k (forms enc l) ≡ entry.At (at + length (forms enc (take k l))) (length (forms enc (take 1 (drop k l))))
unfolding spot_after
entry_after at k l z =
    let small : length (forms enc (drop k l)) < 2 ^ 64 = omega (arith, length-append (forms enc (take k l)) (forms enc (drop k l)), ap length (forms_cut enc k l)) in
    rw (steps_forms k l z, drop_forms enc k l, step_forms (drop k l) small)
