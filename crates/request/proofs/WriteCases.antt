-- The cases of the functions that write a request: writes in a row are one, and so are two that overlap.
-- front_in; hashes_in; first_taken, over_in; serial_in_lem; request_in_lem.
-- Assumes nothing.
use Prim.Native.Nat.{ℕ, ◌+◌, ◌-◌, ◌≤◌}
use native.Mathlib.Omega.{arith}
use mathlib.Core.Path.{◌≡◌, refl, sym, ap, ap₂, ◌∙◌}
use mathlib.Core.List.{List, [], ◌∷◌, ◌++◌}
use lib.ListN.{length, take, drop, length-append, length-drop, take-append-drop}
use lib.Seq.{length-take-le, take-take, take_all, drop-drop}
use Rattle.octets.specs.Buffer.{splice, put_in}
use Rattle.octets.specs.BufferLaws.{splice_length, splice_take, splice_drop, splice_splice, put_in_room, put_in_length}
use Rattle.element.specs.LengthLaws.{length_short}
use Rattle.element.specs.Form.{form_of}
use Rattle.layout.specs.Sha1.{null_head}
use Rattle.request.specs.Heads.{front_form}
use Rattle.request.proofs.Heads.{element_length, heads_is}
use Rattle.request.specs.Request.{request_form}
use Rattle.request.proofs.FormLaws.{form_parts}

-- ---- writes in a row

-- two writes in a row, with room for both, are one
next_in_lem : (out : List ℕ) (at m : ℕ) (a b o p : List ℕ) → o ≡ put_in out at a → p ≡ put_in o m b
    → m ≡ at + length a → at + (length a + length b) ≤ length out → p ≡ put_in out at (a ++ b)
next_in_lem out at m a b o p q r e l =
    let s = q ∙ put_in_room out at a (omega arith) in
    let k : length o ≡ length out = ap length q ∙ put_in_length out at a in
    r ∙ put_in_room o m b (omega arith) ∙ rw (s, e) (splice_splice out at a b (omega arith))
    ∙ sym (put_in_room out at (a ++ b) (omega (arith, length-append a b)))

-- a write keeps the length
kept : (out : List ℕ) (at : ℕ) (a o : List ℕ) → o ≡ put_in out at a → length o ≡ length out
kept out at a o q = ap length q ∙ put_in_length out at a

-- ---- writes that overlap

-- octets written over fewer at the same place
splice_over : (out : List ℕ) (at : ℕ) (a b : List ℕ) → length a ≤ length b → at ≤ length out
    → splice (splice out at a) at b ≡ splice out at b
splice_over out at a b h l =
    let e : at + length a + (length b - length a) ≡ at + length b = omega arith in
    let rest : drop (at + length b) (splice out at a) ≡ drop (at + length b) out =
    rw (← e) (sym (drop-drop (length b - length a) (at + length a) (splice out at a))
    ∙ ap (drop (length b - length a)) (splice_drop out at a l)
    ∙ drop-drop (length b - length a) (at + length a) out) in
    ap₂ (λ (p q : List ℕ). p ++ (b ++ q)) (splice_take out at a at (omega arith) l) rest

-- the first octets, then the last ones from a place that is not past the first
splice_both : (out : List ℕ) (at : ℕ) (s : List ℕ) (a b : ℕ) → b ≤ a → a ≤ length s → at + length s ≤ length out
    → splice (splice out at (take a s)) (at + b) (drop b s) ≡ splice out at s
splice_both out at s a b h l z =
    let u : List ℕ = take b s in
    let d : List ℕ = drop b (take a s) in
    let k : length u ≡ b = length-take-le b s (omega arith) in
    let m : length (take a s) ≡ a = length-take-le a s l in
    let e : take a s ≡ u ++ d = sym (take-append-drop b (take a s)) ∙ ap (λ (t : List ℕ). t ++ d) (take-take b a s h) in
    let w : length (splice out at u) ≡ length out = splice_length out at u (omega arith) in
    let first : splice out at (take a s) ≡ splice (splice out at u) (at + b) d =
    ap (splice out at) e ∙ sym (splice_splice out at u d (omega arith)) ∙ ap (λ (n : ℕ). splice (splice out at u) (at + n) d) k in
    ap (λ (t : List ℕ). splice t (at + b) (drop b s)) first
    ∙ splice_over (splice out at u) (at + b) d (drop b s) (omega (arith, length-drop b (take a s), length-drop b s)) (omega arith)
    ∙ ap (λ (n : ℕ). splice (splice out at u) (at + n) (drop b s)) (sym k)
    ∙ splice_splice out at u (drop b s) (omega arith)
    ∙ ap (splice out at) (take-append-drop b s)

-- ---- the parts

-- what stands before the name hash: the headers of the sequences octet by octet, then the rest
front_is : (size : ℕ) → size ≤ 20
    → (0x30 ∷ (size + 65) ∷ 0x30 ∷ (size + 63) ∷ 0x30 ∷ (size + 61) ∷ 0x30 ∷ (size + 59) ∷ 0x30 ∷ (size + 57) ∷ []) ++ (null_head ++ (0x04 ∷ 0x14 ∷ []))
    ≡ front_form null_head 20 (57 + size)
unfolding front_form
front_is size h =
    let a : 57 + size + 8 ≡ size + 65 = omega arith in
    let b : 57 + size + 6 ≡ size + 63 = omega arith in
    let c : 57 + size + 4 ≡ size + 61 = omega arith in
    let d : 57 + size + 2 ≡ size + 59 = omega arith in
    let e : 57 + size ≡ size + 57 = omega arith in
    rw (heads_is (57 + size) (omega arith), length_short 20 (omega arith), a, b, c, d, e)

module _ (out : List ℕ) (size : ℕ) (h : size ≤ 20) (room : 23 ≤ length out) where
  pub front_in : (o : List ℕ)
      → o ≡ put_in out 0 (0x30 ∷ (size + 65) ∷ 0x30 ∷ (size + 63) ∷ 0x30 ∷ (size + 61) ∷ 0x30 ∷ (size + 59) ∷ 0x30 ∷ (size + 57) ∷ [])
      → (p : List ℕ) → p ≡ put_in o 10 (null_head ++ (0x04 ∷ 0x14 ∷ [])) → p ≡ put_in out 0 (front_form null_head 20 (57 + size))
  front_in o e p f =
      let heads : List ℕ = 0x30 ∷ (size + 65) ∷ 0x30 ∷ (size + 63) ∷ 0x30 ∷ (size + 61) ∷ 0x30 ∷ (size + 59) ∷ 0x30 ∷ (size + 57) ∷ [] in
      next_in_lem out 0 10 heads (null_head ++ (0x04 ∷ 0x14 ∷ [])) o p e f refl (omega arith) ∙ ap (put_in out 0) (front_is size h)

-- both hashes, the second with its header
module _ (out name key : List ℕ) (n : length name ≡ 20) (k : length key ≡ 20) (room : 65 ≤ length out)
    (o : List ℕ) (e : o ≡ put_in out 23 name) (p : List ℕ) (f : p ≡ put_in o 43 (0x04 ∷ 0x14 ∷ [])) where
  pub hashes_in : (q : List ℕ) → q ≡ put_in p 45 key → q ≡ put_in out 23 (name ++ form_of 0x04 key)
  unfolding form_of
  hashes_in q g =
      let h : form_of 0x04 key ≡ (0x04 ∷ 0x14 ∷ []) ++ key = rw (k, length_short 20 (omega arith)) in
      let w = kept out 23 name o e in
      let i = next_in_lem o 43 45 (0x04 ∷ 0x14 ∷ []) key p q f g refl (omega arith) in
      next_in_lem out 23 43 name ((0x04 ∷ 0x14 ∷ []) ++ key) o q e i (omega arith) (omega arith)
      ∙ ap (λ (z : List ℕ). put_in out 23 (name ++ z)) (sym h)

-- the serial's octets, the first sixteen and then the last four
pub first_taken : (serial : List ℕ) → 16 ≤ length serial → 16 ≡ length (take 16 serial)
first_taken serial l = sym (length-take-le 16 serial l)

module _ (out serial : List ℕ) (h : length serial ≤ 20) (room : 67 + length serial ≤ length out) (l : 16 ≤ length serial) where
  pub over_in : (o : List ℕ) → o ≡ put_in out 67 (take 16 serial) → (p : List ℕ)
      → p ≡ put_in o (67 + (length serial - 4)) (take (length serial - (length serial - 4)) (drop (length serial - 4) serial))
      → p ≡ put_in out 67 serial
  over_in o e p f =
      let b : ℕ = length serial - 4 in
      let c = length-drop b serial in
      let t : take (length serial - b) (drop b serial) ≡ drop b serial = take_all (length serial - b) (drop b serial) (omega arith) in
      let i = length-take-le 16 serial l in
      let w = kept out 67 (take 16 serial) o e in
      f ∙ ap (put_in o (67 + b)) t ∙ put_in_room o (67 + b) (drop b serial) (omega arith)
      ∙ ap (λ (z : List ℕ). splice z (67 + b) (drop b serial)) (e ∙ put_in_room out 67 (take 16 serial) (omega arith))
      ∙ splice_both out 67 serial 16 b (omega arith) l room
      ∙ sym (put_in_room out 67 serial room)

-- the serial with its header
module _ (out serial : List ℕ) (h : length serial ≤ 20) (room : 67 + length serial ≤ length out) where
  pub serial_in_lem : (o : List ℕ) → o ≡ put_in out 65 (0x02 ∷ length serial ∷ []) → (p : List ℕ) → p ≡ put_in o 67 serial
      → p ≡ put_in out 65 (form_of 0x02 serial)
  unfolding form_of
  serial_in_lem o e p f =
      let i : form_of 0x02 serial ≡ (0x02 ∷ length serial ∷ []) ++ serial = rw (length_short (length serial) (omega arith)) in
      next_in_lem out 65 67 (0x02 ∷ length serial ∷ []) serial o p e f refl (omega arith) ∙ ap (put_in out 65) (sym i)

-- ---- the request

module _ (out name key serial : List ℕ) (n : length name ≡ 20) (k : length key ≡ 20) (s : length serial ≤ 20)
    (room : 67 + length serial ≤ length out) (o : List ℕ) (e : o ≡ put_in out 0 (front_form null_head 20 (57 + length serial))) where
  module _ (p : List ℕ) (f : p ≡ put_in o 23 (name ++ form_of 0x04 key)) where
    pub request_in_lem : (q : List ℕ) → q ≡ put_in p 65 (form_of 0x02 serial) → q ≡ put_in out 0 (request_form null_head name key serial)
    request_in_lem q g =
        let front : List ℕ = front_form null_head 20 (57 + length serial) in
        let hashes : List ℕ = name ++ form_of 0x04 key in
        let last : List ℕ = form_of 0x02 serial in
        let m : 57 + length serial ≡ 6 + (length null_head + length name + length key + length serial) = omega arith in
        let parts : front ++ (hashes ++ last) ≡ request_form null_head name key serial =
        ap₂ (λ (a b : ℕ). front_form null_head a b ++ (hashes ++ last)) (sym n) m ∙ form_parts null_head name key serial (omega arith) in
        let l : 23 ≡ length front = ap length (front_is (length serial) s) in
        let x = element_length 0x04 key (omega arith) in
        let y = element_length 0x02 serial (omega arith) in
        let u = length-append name (form_of 0x04 key) in
        let v = length-append hashes last in
        let w = kept out 0 front o e in
        let i = next_in_lem o 23 65 hashes last p q f g (omega arith) (omega arith) in
        next_in_lem out 0 23 front (hashes ++ last) o q e i (omega arith) (omega arith) ∙ ap (put_in out 0) parts
