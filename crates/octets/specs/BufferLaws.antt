-- Laws of writing into a buffer.
-- room_le, room_lt and back room_true; splice_length, splice_nil, splice_take, splice_front,
-- splice_drop, splice_splice; put_in_room, put_in_short, put_in_length; put_answer_room, put_answer_short.
-- The definitions are in Buffer. Assumes nothing.
use Rattle.std.specs.Prelude.{ℕ, ◌+◌, ◌-◌, ◌≤◌, ◌<◌, ◌≡◌, Bool, cond, List, [], ◌++◌, Some, None, leb, take, drop}
use Rattle.std.proofs.Common.{add_assoc, add-zero, arith, sym, ap, ap₂, subst, ◌∙◌, append_assoc, length-append, length-drop, take-append-drop, length-take-le, take_at, drop_at, take-take, drop-drop, leb-true, le-leb}
use Rattle.std.proofs.Math.Path.{refl}
use Rattle.std.proofs.Math.Bool.{true, false}
use Rattle.std.proofs.Math.ListN.{length}
use Rattle.std.proofs.lemmas.List.{take-append-le}
use Rattle.std.proofs.lemmas.Bool.{lt-leb}
use Rattle.octets.specs.Buffer.{room_for, splice, put_in, put_answer}
use Rattle.octets.specs.SameLaws.{impossible}

-- there is room where the octets end inside
pub room_le : (size at n : ℕ) → at + n ≤ size → room_for size at n ≡ true
unfolding room_for
room_le size at n h = rw (le-leb at size (omega arith)) (le-leb n (size - at) (omega arith))

-- there is none where they would end outside
pub room_lt : (size at n : ℕ) → size < at + n → room_for size at n ≡ false
unfolding room_for
room_lt size at n h = go (leb at size) refl
  where
    go : (u : Bool) → leb at size ≡ u → cond u (leb n (size - at)) false ≡ false
    go true e = lt-leb n (size - at) (omega (arith, leb-true at size e))
    go false e = refl

-- room: the octets end inside
pub room_true : (size at n : ℕ) → room_for size at n ≡ true → at + n ≤ size
unfolding room_for
room_true size at n r = go (leb at size) refl r
  where
    go : (u : Bool) → leb at size ≡ u → cond u (leb n (size - at)) false ≡ true → at + n ≤ size
    go true e r = omega (arith, leb-true at size e, leb-true n (size - at) r)
    go false e r = impossible r

-- nothing new
pub splice_nil : (out : List ℕ) (at : ℕ) → splice out at [] ≡ out
splice_nil out at = ap (λ (k : ℕ). take at out ++ drop k out) (add-zero at) ∙ take-append-drop at out

module _ (out : List ℕ) (at : ℕ) (new : List ℕ) where
  abbrev front : List ℕ
  front = take at out ++ new

  cut : splice out at new ≡ front ++ drop (at + length new) out
  cut = sym (append_assoc (take at out) new (drop (at + length new) out))

  front_length : at ≤ length out → length front ≡ at + length new
  front_length h = length-append (take at out) new ∙ ap (λ (k : ℕ). k + length new) (length-take-le at out h)

  -- the buffer keeps its length
  pub splice_length : at + length new ≤ length out → length (splice out at new) ≡ length out
  splice_length h =
      let l : length front ≡ at + length new = front_length (omega arith) in
      ap length cut ∙ length-append front (drop (at + length new) out) ∙ omega (arith, l, length-drop (at + length new) out)

  -- what stands before the place stays
  pub splice_take : (k : ℕ) → k ≤ at → at ≤ length out → take k (splice out at new) ≡ take k out
  splice_take k l h =
      take-append-le k (take at out) (new ++ drop (at + length new) out) (subst (λ (m : ℕ). k ≤ m) (sym (length-take-le at out h)) l)
      ∙ take-take k at out l

  -- what stands up to the end of the new octets
  pub splice_front : at ≤ length out → take (at + length new) (splice out at new) ≡ take at out ++ new
  splice_front h = ap (take (at + length new)) cut ∙ take_at front (drop (at + length new) out) (at + length new) (front_length h)

  -- what stands after the new octets stays
  pub splice_drop : at ≤ length out → drop (at + length new) (splice out at new) ≡ drop (at + length new) out
  splice_drop h = ap (drop (at + length new)) cut ∙ drop_at front (drop (at + length new) out) (at + length new) (front_length h)

  -- more new octets right after the new ones
  pub splice_splice : (b : List ℕ) → at ≤ length out
      → splice (splice out at new) (at + length new) b ≡ splice out at (new ++ b)
  splice_splice b h =
      let rest : drop (at + length new + length b) (splice out at new) ≡ drop (at + length (new ++ b)) out =
      sym (drop-drop (length b) (at + length new) (splice out at new))
      ∙ ap (drop (length b)) (splice_drop h)
      ∙ drop-drop (length b) (at + length new) out
      ∙ ap (λ (k : ℕ). drop k out) (add_assoc at (length new) (length b) ∙ ap (λ (k : ℕ). at + k) (sym (length-append new b))) in
      ap₂ (λ (p q : List ℕ). p ++ (b ++ q)) (splice_front h) rest
      ∙ append_assoc (take at out) new (b ++ drop (at + length (new ++ b)) out)
      ∙ ap (λ (l : List ℕ). take at out ++ l) (sym (append_assoc new b (drop (at + length (new ++ b)) out)))

  -- where there is room the octets are written
  pub put_in_room : at + length new ≤ length out → put_in out at new ≡ splice out at new
  unfolding put_in
  put_in_room h = rw (room_le (length out) at (length new) h)

  -- where there is none the buffer is as it was
  pub put_in_short : length out < at + length new → put_in out at new ≡ out
  unfolding put_in
  put_in_short h = rw (room_lt (length out) at (length new) h)

  -- either way the buffer keeps its length
  pub put_in_length : length (put_in out at new) ≡ length out
  unfolding put_in
  put_in_length = go (room_for (length out) at (length new)) refl
    where
      go : (u : Bool) → room_for (length out) at (length new) ≡ u → length (cond u (splice out at new) out) ≡ length out
      go true e = splice_length (room_true (length out) at (length new) e)
      go false e = refl

-- where there is room the answer is the place after the octets
pub put_answer_room : (size at n : ℕ) → at + n ≤ size → put_answer size at n ≡ Some (at + n)
unfolding put_answer
put_answer_room size at n h = rw (room_le size at n h)

-- where there is none the answer says so
pub put_answer_short : (size at n : ℕ) → size < at + n → put_answer size at n ≡ None
unfolding put_answer
put_answer_short size at n h = rw (room_lt size at n h)
