-- Laws of what stands behind a header, and of what an element holds that another holds: where it is, and what its octets are.
-- behind_length, behind_form; held_octets, held_none, held_inside, held_nothing.
-- The definitions are in Places. Assumes nothing.
use Prim.Native.Nat.{ℕ, ◌+◌, ◌-◌, ◌^◌, ◌≤◌, ◌<◌}
use Rattle.std.proofs.Common.{arith, ◌∙◌, length-drop, take-append-drop, drop_at, eqb-true}
use Rattle.std.specs.Prelude.{◌≡◌, refl, Bool, true, false, cond, eqb}
use Rattle.std.proofs.Math.Path.{sym, ap}
use mathlib.Core.List.{List, [], ◌∷◌, ◌++◌, append_assoc, append-nil}
use Rattle.std.proofs.Math.ListN.{length, take, drop, length-append}
use Rattle.std.proofs.Math.Seq.{length-take-le}
use Rattle.element.specs.Tag.{tag_ok}
use Rattle.element.specs.Form.{head_form, head_size, form_of}
use Rattle.element.specs.FormLaws.{head_length}
use Rattle.element.specs.HeaderLaws.{header_empty}
use Rattle.codec.proofs.PartLaws.{form_found, small_content}
use Rattle.layout.proofs.ElementKinds.{tag_30, tag_a0}
use Rattle.read_response.specs.Stands.{Stands}
use Rattle.read_response.proofs.Stands.{part_stands}
use Rattle.element.specs.declared.Span.{Span}
use Rattle.show.specs.Parts.{empty_span}
use Rattle.show.specs.Shown.{octets_in}
use Rattle.desk_c.specs.Places.{behind_header, last_before, held_in}

-- ── behind a header ──
pub behind_length : (s : List ℕ) → length (behind_header s) ≤ length s
unfolding behind_header
behind_length s = simp length-drop (omega arith)

content_left : (t : ℕ) (c : List ℕ) → drop (head_size (length c)) (form_of t c) ≡ c
unfolding form_of
content_left t c = drop_at (head_form t (length c)) c (head_size (length c)) (head_length t (length c))

-- an element's content
pub behind_form : (t : ℕ) (c : List ℕ) → tag_ok t ≡ true → length c < 2 ^ 64 → behind_header (form_of t c) ≡ c
unfolding behind_header
behind_form t c k z =
    let f = rw (append-nil (form_of t c)) at (form_found t c [] k z) in
    rw f (content_left t c)

behind_none : behind_header [] ≡ []
unfolding behind_header
behind_none = rw header_empty

-- ── the octets before a place ──
last_octets : (s p x q : List ℕ) (e : ℕ) → s ≡ p ++ (x ++ q) → length p + length x ≡ e → octets_in s (last_before e (length x)) ≡ x
unfolding last_before
last_octets s p x q e i j = go (eqb (length x) 0) refl
  where
    nothing : (y : List ℕ) → length y ≡ 0 → [] ≡ y
    nothing [] z = refl
    nothing (a ∷ l) z = absurd (omega arith)

    go : (k : Bool) → eqb (length x) 0 ≡ k → octets_in s (cond k empty_span record { start = e - length x; len = length x }) ≡ x
    go true z = nothing x (eqb-true (length x) 0 z)
    go false z = (part_stands s p x q (e - length x) (length x) i (omega arith) refl).octets

-- ── inside two elements ──
module _ (s : List ℕ) (at : Span) where
  module _ (x : List ℕ) (v : Stands s at (form_of 0xa0 (form_of 0x30 x))) (small : length s < 2 ^ 64) where
    long : length (form_of 0xa0 (form_of 0x30 x)) ≡ at.len
    long = ap length (sym v.octets) ∙ length-take-le at.len (drop at.start s) (simp length-drop (omega (arith, v.inside)))

    two_behind : behind_header (behind_header (octets_in s at)) ≡ x
    two_behind =
        let a : length (form_of 0x30 x) < 2 ^ 64 = small_content 0xa0 (form_of 0x30 x) (omega (arith, long, v.inside)) in
        rw (v.octets, behind_form 0xa0 (form_of 0x30 x) tag_a0 a) (behind_form 0x30 x tag_30 (small_content 0x30 x a))

    abbrev heads : List ℕ
    heads = head_form 0xa0 (length (form_of 0x30 x)) ++ head_form 0x30 (length x)

    heads_then : form_of 0xa0 (form_of 0x30 x) ≡ heads ++ x
    unfolding form_of
    heads_then = sym (append_assoc (head_form 0xa0 (length (form_of 0x30 x))) (head_form 0x30 (length x)) x)

    -- what the inner one holds stands at the place
    pub held_octets : octets_in s (held_in s at) ≡ x
    unfolding held_in
    held_octets =
        let cut : s ≡ take at.start s ++ ((heads ++ x) ++ drop at.len (drop at.start s)) =
        sym (take-append-drop at.start s) ∙ ap (λ (l : List ℕ). take at.start s ++ l) (sym (take-append-drop at.len (drop at.start s)) ∙ ap (λ (l : List ℕ). l ++ drop at.len (drop at.start s)) (v.octets ∙ heads_then)) in
        let first : length (take at.start s) ≡ at.start = length-take-le at.start s (omega (arith, v.inside)) in
        let sum : length heads + length x ≡ at.len = sym (length-append heads x) ∙ ap length (sym heads_then) ∙ long in
        rw two_behind
        (last_octets s (take at.start s ++ heads) x (drop at.len (drop at.start s)) (at.start + at.len)
        (cut ∙ simp append_assoc) (omega (arith, first, sum, length-append (take at.start s) heads)))

    -- and where that is nothing, the part is empty
    pub held_none : x ≡ [] → held_in s at ≡ empty_span
    unfolding held_in last_before
    held_none e = rw (two_behind, e)

  -- what is held ends where the outer one ends
  pub held_inside : at.start + at.len ≤ length s → (held_in s at).start + (held_in s at).len ≤ length s
  unfolding held_in last_before
  held_inside le = go (eqb n 0)
    where
      n : ℕ
      n = length (behind_header (behind_header (octets_in s at)))

      long_at : length (octets_in s at) ≡ at.len
      long_at = length-take-le at.len (drop at.start s) (simp length-drop (omega arith))

      few : n ≤ at.len
      few = omega (arith, behind_length (behind_header (octets_in s at)), behind_length (octets_in s at), long_at)

      go : (k : Bool) → (cond k empty_span record { start = at.start + at.len - n; len = n }).start + (cond k empty_span record { start = at.start + at.len - n; len = n }).len ≤ length s
      go true = omega arith
      go false = omega (arith, few)

  -- and so where there is no element
  pub held_nothing : Stands s at [] → held_in s at ≡ empty_span
  unfolding held_in last_before
  held_nothing v = rw (v.octets, behind_none, behind_none)
