-- Laws of an element's octets: how many they are, and that they are octets.
-- head_length, head_octets, head_size_lem; form_length, form_octets, form_before.
-- The definitions are in Form. Assumes nothing.
use Rattle.std.specs.Prelude.{ℕ, ◌+◌, ◌^◌, ◌≤◌, ◌<◌, ◌≡◌, List, ◌++◌, length}
use Rattle.std.proofs.Common.{arith, ap, ◌∙◌, append_assoc, length-append}
use Rattle.octets.specs.Octets.{Octets}
use Rattle.octets.specs.OctetsLaws.{octets_append}
use Rattle.element.specs.LengthLaws.{length_octets, length_size}
use Rattle.element.specs.Form.{head_form, head_size, form_of}

-- a header's octets are as many as its size says
pub head_length : (t n : ℕ) → length (head_form t n) ≡ head_size n
unfolding head_size
head_length t n = omega arith

-- and are octets
pub head_octets : (t n : ℕ) → t < 256 → n < 2 ^ 64 → Octets (head_form t n)
head_octets t n h f = (h, length_octets n f)

-- they are two at least and ten at most
pub head_size_lem : (n : ℕ) → n < 2 ^ 64 → (2 ≤ head_size n) × (head_size n ≤ 10)
unfolding head_size
head_size_lem n f = let z = length_size n f in omega arith

-- an element's octets are its header's and its content's
pub form_length : (t : ℕ) (c : List ℕ) → length (form_of t c) ≡ head_size (length c) + length c
unfolding form_of
form_length t c = length-append (head_form t (length c)) c ∙ ap (λ (k : ℕ). k + length c) (head_length t (length c))

pub form_octets : (t : ℕ) (c : List ℕ) → t < 256 → length c < 2 ^ 64 → Octets c → Octets (form_of t c)
unfolding form_of
form_octets t c h f o = octets_append (head_form t (length c)) c (head_octets t (length c) h f) o

-- an element before other octets
pub form_before : (t : ℕ) (c r : List ℕ) → form_of t c ++ r ≡ head_form t (length c) ++ (c ++ r)
unfolding form_of
form_before t c r = append_assoc (head_form t (length c)) c r
