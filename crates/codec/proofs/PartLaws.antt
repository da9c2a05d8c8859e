-- The element at the head of a list, cut into its parts: what a header that was found says of its
-- content, and that an element's octets are found and cut so. What is small enough is made of parts
-- that are.
-- Part, part_of, form_found, form_content; small_left, small_right, small_content.
-- The laws stand here, and what is made of them; the definitions in specs/PartLaws.
-- Assumes nothing.
use Rattle.std.specs.Prelude.{ℕ, ◌+◌, ◌^◌, ◌<◌, ◌≡◌, true, List, ◌++◌, length, take, drop, Ok}
use Rattle.std.proofs.Common.{arith, sym, ap, ◌∙◌, append_assoc, length-append, length-drop, take-append-drop, drop-drop, drop_at, length-take-le}
use Rattle.std.proofs.Math.Seq.{take-append_seam}
use Rattle.octets.specs.Octets.{Octets}
use Rattle.octets.specs.OctetsLaws.{octets_take, octets_drop}
use Rattle.element.specs.Tag.{tag_ok}
use Rattle.element.specs.Form.{head_form, head_size, form_of}
use Rattle.element.specs.FormLaws.{head_length, form_length, form_before}
use Rattle.element.specs.Header.{header_of}
use Rattle.element.specs.HeaderLaws.{header_sound, header_complete}
use Rattle.element.specs.Places.{header}
use Rattle.codec.specs.PartLaws.{Part}

pub part_of : (s : List ℕ) (t h n : ℕ) → Octets s → header_of s ≡ Ok (header t h n) → Part s t (take n (drop h s)) (h + n)
unfolding form_of
part_of s t h n o e =
    let v = header_sound s t h n o e in
    let c = take n (drop h s) in
    let w = v.whole in
    let long : length c ≡ n = length-take-le n (drop h s) (simp length-drop (omega arith)) in
    let cut : drop h s ≡ c ++ drop (h + n) s = sym (take-append-drop n (drop h s)) ∙ ap (λ (r : List ℕ). c ++ r) (drop-drop n h s) in
    record {
      tag = v.tag;
      octet = v.octet;
      small = omega (arith, v.small);
      octets = octets_take n (drop h s) (octets_drop h s o);
      same = v.same ∙ ap (λ (r : List ℕ). head_form t n ++ r) cut ∙ sym (append_assoc (head_form t n) c (drop (h + n) s)) ∙ ap (λ (k : ℕ). (head_form t k ++ c) ++ drop (h + n) s) (sym long);
    }

-- an element's octets have its header at their head
pub form_found : (t : ℕ) (c r : List ℕ) → tag_ok t ≡ true → length c < 2 ^ 64
    → header_of (form_of t c ++ r) ≡ Ok (header t (head_size (length c)) (length c))
form_found t c r k lt = rw (form_before t c r) (header_complete t (length c) (c ++ r) k lt (simp length-append (omega arith)))

-- and then its content
pub form_content : (t : ℕ) (c r : List ℕ) → take (length c) (drop (head_size (length c)) (form_of t c ++ r)) ≡ c
form_content t c r = rw (form_before t c r, drop_at (head_form t (length c)) (c ++ r) (head_size (length c)) (head_length t (length c))) (take-append_seam c r)

-- where a length fits 64 bits, those of the parts do
pub small_left : (x y : List ℕ) → length (x ++ y) < 2 ^ 64 → length x < 2 ^ 64
small_left x y z = omega (arith, length-append x y)

pub small_right : (x y : List ℕ) → length (x ++ y) < 2 ^ 64 → length y < 2 ^ 64
small_right x y z = omega (arith, length-append x y)

pub small_content : (t : ℕ) (c : List ℕ) → length (form_of t c) < 2 ^ 64 → length c < 2 ^ 64
small_content t c z = omega (arith, form_length t c)
