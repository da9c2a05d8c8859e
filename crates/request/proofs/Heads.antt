-- Headers of contents of fewer than 128 octets, and what stands before the name hash of a request.
-- element_length; heads_form, front_form; heads_is, heads_form_lem.
-- The laws stand here, and what is made of them; the definitions in specs/Heads.
-- Assumes nothing.
use Rattle.std.specs.Prelude.{ℕ, ◌+◌, ◌≤◌, ◌<◌, ◌≡◌, refl, List, [], ◌∷◌, ◌++◌, length}
use Rattle.std.proofs.Common.{arith, ap, ◌∙◌}
use Rattle.element.specs.LengthLaws.{length_short}
use Rattle.element.specs.Form.{head_size, form_of}
use Rattle.element.specs.FormLaws.{form_length}
use Rattle.request.specs.Heads.{heads_form}

-- a header is two octets
header_two : (n : ℕ) → n < 128 → head_size n ≡ 2
unfolding head_size
header_two n h = rw (length_short n h)

-- an element has two octets more than its content
pub element_length : (t : ℕ) (c : List ℕ) → length c < 128 → length (form_of t c) ≡ 2 + length c
element_length t c h = form_length t c ∙ ap (λ (k : ℕ). k + length c) (header_two (length c) h)

-- ten octets
pub heads_is : (n : ℕ) → n ≤ 119 → heads_form n ≡ 0x30 ∷ (n + 8) ∷ 0x30 ∷ (n + 6) ∷ 0x30 ∷ (n + 4) ∷ 0x30 ∷ (n + 2) ∷ 0x30 ∷ n ∷ []
unfolding heads_form
heads_is n h =
    rw (
      length_short (n + 8) (omega arith),
      length_short (n + 6) (omega arith),
      length_short (n + 4) (omega arith),
      length_short (n + 2) (omega arith),
      length_short n (omega arith),
    )

-- a sequence by its content's length
sequence_form : (n : ℕ) (c : List ℕ) → length c ≡ n → n < 128 → form_of 0x30 c ≡ 0x30 ∷ n ∷ c
unfolding form_of
sequence_form n c e h = rw (e, length_short n h)

-- before n octets they are those five sequences
pub heads_form_lem : (c : List ℕ) → length c ≤ 119
    → heads_form (length c) ++ c ≡ form_of 0x30 (form_of 0x30 (form_of 0x30 (form_of 0x30 (form_of 0x30 c))))
heads_form_lem c h =
    let n = length c in
    let e₁ = sequence_form n c refl (omega arith) in
    let e₂ = sequence_form (n + 2) (0x30 ∷ n ∷ c) (omega arith) (omega arith) in
    let e₃ = sequence_form (n + 4) (0x30 ∷ (n + 2) ∷ 0x30 ∷ n ∷ c) (omega arith) (omega arith) in
    let e₄ = sequence_form (n + 6) (0x30 ∷ (n + 4) ∷ 0x30 ∷ (n + 2) ∷ 0x30 ∷ n ∷ c) (omega arith) (omega arith) in
    let e₅ = sequence_form (n + 8) (0x30 ∷ (n + 6) ∷ 0x30 ∷ (n + 4) ∷ 0x30 ∷ (n + 2) ∷ 0x30 ∷ n ∷ c) (omega arith) (omega arith) in
    rw (heads_is n h, e₁, e₂, e₃, e₄, e₅)
