-- What is at the head of a list: whether an entry's content begins with a CertID for the card, and what
-- the search sees there.
-- begins_none, begins_end, begins_sum, begins_is, in begins_cases; pass_sum; look_other, look_next, in look_cases.
-- The definitions are in specs/Search. Assumes nothing.
use Rattle.std.specs.Prelude.{Option, Some, Ok, Err}
use Prim.Native.Nat.{ℕ, ◌+◌, ◌-◌, ◌^◌, ◌≤◌, ◌<◌}
use native.Mathlib.Omega.{arith}
use mathlib.Core.Path.{◌≡◌, refl, sym, ap, ◌∙◌}
use mathlib.Core.Bool.{Bool, false}
use mathlib.Core.List.{List, ◌++◌}
use lib.ListN.{length, take, drop, length-drop}
use lib.Seq.{length-take-le, take-length, take-take, take-add, drop_at, drop-drop}
use mir.Syntax.{w64}
use mir.Val.{Fits}
use Rattle.element.specs.Header.{header_of}
use Rattle.element.specs.HeaderLaws.{header_inside}
use Rattle.element.specs.Places.{HeaderRead, Spot, misfit, span, header}
use Rattle.element.specs.declared.Misfit.{Misfit}
use Rattle.element.specs.declared.Span.{Span}
use Rattle.element.specs.declared.Header.{Header}
use Rattle.read_content.specs.Spots.{expected}
use Rattle.read_content.specs.ExpectLaws.{expected_at}
use Rattle.read_entry.specs.Ids.{spot_moved, cert_in, cert_spot}
use Rattle.answer.specs.declared.Card.{Card}
use Rattle.rule_matching.specs.CertForm.{is_card, is_fields}
use Rattle.rule_matching.proofs.FieldsLaws.{fields_card}
use Rattle.rule_search.specs.Search.{is_at, is_here, card_with, begins_with, seen, seen_of}
use Rattle.rule_search.specs.declared.Seen.{Seen}

-- ── the content of an entry ──
module _ (s : List ℕ) (x : Spot) (q : x ≡ expected 0x30 (header_of s)) where
  pub begins_none : (card : Card) (p : Misfit) → x ≡ Err p → false ≡ begins_with card s
  unfolding begins_with is_at
  begins_none card p f = sym (rw (← q, f))

  module _ (v : Span) (f : x ≡ Ok v) where
    pub begins_end : v.start + v.len ≤ length s
    begins_end = (expected_at 0x30 s v.start v.len (sym q ∙ f)).2

    pub begins_sum : length s < 2 ^ 64 → Fits w64 (v.start + v.len)
    begins_sum z = record { fits = omega (arith, begins_end) }

    pub begins_is : (name key serial : List ℕ) → (length name ≤ 127) × (length key ≤ 127) × (length serial ≤ 127)
        → (r : Bool) → r ≡ is_fields name key serial (take (v.start + v.len - v.start) (drop v.start s)) → r ≡ begins_with (card_with name key serial) s
    unfolding begins_with is_at
    begins_is name key serial w r g =
        let i : v.start + v.len - v.start ≡ v.len = omega arith in
        let e = g ∙ fields_card name key serial (take (v.start + v.len - v.start) (drop v.start s)) w.0 w.1 w.2 in
        rw (← q, f, take-length serial) (rw i at e)

-- ── the head of a list ──
module _ (s : List ℕ) (x : HeaderRead) (q : x ≡ header_of s) where
  pub pass_sum : (h : Header) → x ≡ Ok h → length s < 2 ^ 64 → Fits w64 (h.start + h.len)
  pass_sum h f z = record { fits = omega (arith, (header_inside s h.tag h.start h.len (sym q ∙ f)).1) }

-- a part of a part that starts at h
part_part : (s : List ℕ) (h m u v : ℕ) → h + m ≤ length s → u + v ≤ m → take v (drop u (take m (drop h s))) ≡ take v (drop (h + u) s)
part_part s h m u v i j =
    let l : length (drop h s) ≡ length s - h = length-drop h s in
    let e : u + (m - u) ≡ m = omega arith in
    let c : take m (drop h s) ≡ take u (drop h s) ++ take (m - u) (drop u (drop h s)) = ap (λ (k : ℕ). take k (drop h s)) (sym e) ∙ take-add u (m - u) (drop h s) in
    ap (λ (z : List ℕ). take v (drop u z)) c
    ∙ ap (take v) (drop_at (take u (drop h s)) (take (m - u) (drop u (drop h s))) u (length-take-le u (drop h s) (omega arith)))
    ∙ take-take v (m - u) (drop u (drop h s)) (omega arith)
    ∙ ap (take v) (drop-drop u h s)

-- an entry is for the card where its content begins with a CertID for it
at_moved : (card : Card) (s : List ℕ) (h m : ℕ) → h + m ≤ length s → (y : Spot) → expected 0x30 (header_of (take m (drop h s))) ≡ y
    → is_at card s (spot_moved h y) ≡ is_at card (take m (drop h s)) y
unfolding is_at spot_moved
at_moved card s h m i (Err p) e = refl
at_moved card s h m i (Ok v) e =
    let j = (expected_at 0x30 (take m (drop h s)) v.start v.len e).2 in
    let k : length (take m (drop h s)) ≡ m = length-take-le m (drop h s) (simp length-drop (omega arith)) in
    ap (is_card card) (sym (part_part s h m v.start v.len i (omega arith)))

here_begins : (card : Card) (s : List ℕ) (h m : ℕ) → expected 0x30 (header_of s) ≡ Ok (span h m) → is_here card s ≡ begins_with card (take m (drop h s))
unfolding is_here begins_with cert_spot cert_in
here_begins card s h m e =
    rw e (at_moved card s h m (expected_at 0x30 s h m e).2 (expected 0x30 (header_of (take m (drop h s)))) refl)

here_not : (card : Card) (s : List ℕ) (p : ℕ) → expected 0x30 (header_of s) ≡ Err (misfit p) → is_here card s ≡ false
unfolding is_here is_at cert_spot cert_in
here_not card s p e = rw e

module _ (card : Card) (s : List ℕ) (x : Spot) (q : x ≡ expected 0x30 (header_of s)) where
  pub look_other : (p : Misfit) → x ≡ Err p → (r : Option Seen) → r ≡ seen_of false (header_of s) → r ≡ seen_of (is_here card s) (header_of s)
  look_other p f r g = g ∙ ap (λ (b : Bool). seen_of b (header_of s)) (sym (here_not card s p.place (sym q ∙ f)))

  pub look_next : (v : Span) → x ≡ Ok v → (y : Bool) → y ≡ begins_with card (take (v.start + v.len - v.start) (drop v.start s))
      → Some (seen (v.start + v.len) y) ≡ seen_of (is_here card s) (header_of s)
  unfolding seen_of
  look_next v f y g =
      let i : v.start + v.len - v.start ≡ v.len = omega arith in
      let e = rw i at g in
      let b : is_here card s ≡ y = here_begins card s v.start v.len (sym q ∙ f) ∙ sym e in
      let d : header_of s ≡ Ok (header 0x30 v.start v.len) = (expected_at 0x30 s v.start v.len (sym q ∙ f)).0 in
      sym (rw (d, b))

pub ruleset begins_cases = (begins_none, begins_end, begins_sum, begins_is)

pub ruleset look_cases = (begins_sum, begins_end, look_other, look_next)
