-- The octets of a responder id tell the signer as its reading does.
-- signs_form. The definitions are in SignerIn, and in Signer of crate rules.
-- Assumes nothing.
use Rattle.std.specs.Prelude.{ℕ, ◌^◌, ◌<◌, ◌≡◌, refl, Bool, length, drop, Ok, Err}
use Rattle.std.proofs.Common.{arith, ◌∙◌}
use Rattle.std.proofs.Math.Path.{ap}
use Rattle.std.proofs.Math.Bool.{false, cond}
use mathlib.Core.List.{List, [], ◌∷◌, append-nil}
use Rattle.std.proofs.Math.Dec.{ltb}
use Rattle.std.proofs.Math.ListN.{take}
use borrow.Author.Tests.{le-ltb}
use Rattle.octets.specs.Same.{same_of}
use Rattle.element.specs.Form.{head_size, form_of}
use Rattle.element.specs.Length.{length_form}
use Rattle.element.specs.Header.{header_of}
use Rattle.element.specs.Places.{misfit, span, header}
use Rattle.codec.proofs.PartLaws.{form_found, form_content, small_content}
use Rattle.codec.specs.Tree.{Tree, tree_enc}
use Rattle.layout.specs.Reading.{Responder, by_name, by_key}
use Rattle.layout.proofs.ElementKinds.{free_sequence, tag_a1, tag_a2}
use Rattle.layout.proofs.Format.{name_id, key_id, responder_id}
use Rattle.layout.specs.Limits.{ResponderOk}
use Rattle.layout.proofs.LimitsLaws.{responder_limits}
use Rattle.read_content.specs.Spots.{expected}
use Rattle.rules.specs.Signer.{is_signer}
use Rattle.rule_response.specs.SignerIn.{key_in, signer_at, signs_in}

found_a1 : (h n : ℕ) → expected 0xa1 (Ok (header 0xa1 h n)) ≡ Ok (span h n)
unfolding expected
found_a1 h n = refl

found_a2 : (h n : ℕ) → expected 0xa1 (Ok (header 0xa2 h n)) ≡ Err (misfit 0)
unfolding expected
found_a2 h n = refl

module _ (key name : List ℕ) where
  name_form : (c : List ℕ) → length (form_of 0xa1 c) < 2 ^ 64 → signs_in key name (form_of 0xa1 c) ≡ same_of c name
  unfolding signs_in signer_at
  name_form c z =
      let f : header_of (form_of 0xa1 c) ≡ Ok (header 0xa1 (head_size (length c)) (length c)) = rw append-nil at (form_found 0xa1 c [] tag_a1 (small_content 0xa1 c z)) in
      let g : take (length c) (drop (head_size (length c)) (form_of 0xa1 c)) ≡ c = rw append-nil at (form_content 0xa1 c []) in
      rw (f, found_a1 (head_size (length c)) (length c), g)

  -- A2 16 04 14
  string_octets : (k : List ℕ) → length k ≡ 20 → form_of 0x04 k ≡ 0x04 ∷ 0x14 ∷ k
  unfolding form_of length_form
  string_octets k e = rw e

  around_octets : (c : List ℕ) → length c ≡ 22 → form_of 0xa2 c ≡ 0xa2 ∷ 0x16 ∷ c
  unfolding form_of length_form
  around_octets c e = rw e

  key_octets : (k : List ℕ) → length k ≡ 20 → form_of 0xa2 (form_of 0x04 k) ≡ 0xa2 ∷ 0x16 ∷ 0x04 ∷ 0x14 ∷ k
  key_octets k e = rw (string_octets k e) (around_octets (0x04 ∷ 0x14 ∷ k) (omega arith))

  key_last : (k : List ℕ) → key_in key (0xa2 ∷ 0x16 ∷ 0x04 ∷ 0x14 ∷ k) ≡ same_of k key
  unfolding key_in
  key_last k =
      let i : ltb (length (0xa2 ∷ 0x16 ∷ 0x04 ∷ 0x14 ∷ k)) 4 ≡ false = le-ltb (length (0xa2 ∷ 0x16 ∷ 0x04 ∷ 0x14 ∷ k)) 4 (omega arith) in
      ap (λ (t : Bool). cond t false (same_of k key)) i

  key_form : (k : List ℕ) → length k ≡ 20 → length (form_of 0xa2 (form_of 0x04 k)) < 2 ^ 64
      → signs_in key name (form_of 0xa2 (form_of 0x04 k)) ≡ same_of k key
  unfolding signs_in signer_at
  key_form k e z =
      let c = form_of 0x04 k in
      let f : header_of (form_of 0xa2 c) ≡ Ok (header 0xa2 (head_size (length c)) (length c)) = rw append-nil at (form_found 0xa2 c [] tag_a2 (small_content 0xa2 c z)) in
      rw (f, found_a2 (head_size (length c)) (length c)) (ap (key_in key) (key_octets k e) ∙ key_last k)

  at_name : (n : Tree) → length (responder_id.enc (by_name n)) < 2 ^ 64 → signs_in key name (responder_id.enc (by_name n)) ≡ is_signer key name (by_name n)
  unfolding responder_id name_id free_sequence is_signer
  at_name n z = name_form (tree_enc n) z

  at_key : (k : List ℕ) → length k ≡ 20 → length (responder_id.enc (by_key k)) < 2 ^ 64 → signs_in key name (responder_id.enc (by_key k)) ≡ is_signer key name (by_key k)
  unfolding responder_id key_id is_signer
  at_key k e z = key_form k e z

  -- of a responder id's form
  pub signs_form : (r : Responder) → responder_id.ok r → length (responder_id.enc r) < 2 ^ 64 → signs_in key name (responder_id.enc r) ≡ is_signer key name r
  signs_form r h z = go r ((responder_limits r).0 h) z
    where
      go : (r : Responder) → ResponderOk r → length (responder_id.enc r) < 2 ^ 64 → signs_in key name (responder_id.enc r) ≡ is_signer key name r
      go (by_name n) h z = at_name n z
      go (by_key k) h z = at_key k h.size z
