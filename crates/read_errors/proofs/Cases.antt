-- What the code knows at each return, and the status there.
-- error_long, error_head, error_four, error_most, error_is.
-- Assumes nothing.
use Prim.Native.Nat.{ℕ, ◌≤◌, ◌<◌}
use native.Mathlib.Omega.{arith}
use mathlib.Core.Path.{◌≡◌, refl, sym, ap, ◌∙◌}
use mathlib.Core.List.{List, [], ◌∷◌}
use lib.Dec.{lit≤}
use lib.ListN.{length, get_or, take, drop_of_length-le}
use lib.Seq.{length-take-le, split_at}
use Rattle.octets.specs.Octets.{Octets}
use Rattle.octets.specs.OctetsLaws.{octets_take}
use Rattle.octets.specs.LentLaws.{Known, known_octets}
use Rattle.octets.specs.Number.{octets_of, value_of}
use Rattle.octets.specs.NumberLaws.{octets_value}
use Rattle.fields.specs.Field.{value_at}
use Rattle.fields.specs.FieldLaws.{value_there}
use Rattle.read_response.specs.Parts.{judged_of}
use Rattle.read_response.specs.Refusals.{refusal_of}
use Rattle.read_errors.specs.ErrorLaws.{error_octets, error_status, no_error}

-- the number of the four octets of the head
head_value : (n : ℕ) → value_at (error_octets n) 0 4 ≡ 0x30030a01
unfolding value_of
head_value n = value_there (error_octets n) 0 4 (lit≤ tt) (lit≤ tt)

-- and its octets
head_octets : octets_of 4 0x30030a01 ≡ 0x30 ∷ 0x03 ∷ 0x0a ∷ 0x01 ∷ []
unfolding octets_of
head_octets = refl

module _ (s : List ℕ) (known : Known s) where
  octets : Octets s
  octets = known_octets s known

  -- not five octets
  pub error_long : (length s ≡ 5 → ⊥) → (refusal_of (judged_of s)).status ≡ 0
  error_long h = sym (no_error s octets (λ n f e. h (ap length e)))

  -- four octets that are others
  pub error_head : (value_at s 0 4 ≡ 0x30030a01 → ⊥) → (refusal_of (judged_of s)).status ≡ 0
  error_head h = sym (no_error s octets (λ n f e. h (ap (λ (t : List ℕ). value_at t 0 4) e ∙ head_value n)))

  -- a status that is none
  status_at : (n : ℕ) → s ≡ error_octets n → get_or s 4 0 ≡ n
  status_at n e = ap (λ (t : List ℕ). get_or t 4 0) e

  pub error_four : get_or s 4 0 ≡ 4 → (refusal_of (judged_of s)).status ≡ 0
  error_four h = sym (no_error s octets (λ n f e. f.not4 (sym (status_at n e) ∙ h)))

  pub error_most : 6 < get_or s 4 0 → (refusal_of (judged_of s)).status ≡ 0
  error_most h = sym (no_error s octets (λ n f e. absurd (omega (arith, f.most, status_at n e))))

  -- five octets that are an error response's, but for a status of 0
  pub error_is : length s ≡ 5 → value_at s 0 4 ≡ 0x30030a01 → (get_or s 4 0 ≡ 4 → ⊥) → get_or s 4 0 ≤ 6
      → (refusal_of (judged_of s)).status ≡ get_or s 4 0
  error_is l i n4 n6 = ap (λ (t : List ℕ). (refusal_of (judged_of t)).status) whole ∙ sym (error_status (get_or s 4 0) n6 n4)
    where
      four : length (take 4 s) ≡ 4
      four = length-take-le 4 s (omega arith)

      head : take 4 s ≡ 0x30 ∷ 0x03 ∷ 0x0a ∷ 0x01 ∷ []
      head =
          let w : value_of (take 4 s) ≡ 0x30030a01 = sym (value_there s 0 4 (lit≤ tt) (omega arith)) ∙ i in
          sym (octets_value (take 4 s) (octets_take 4 s octets)) ∙ rw (four, w) head_octets

      whole : s ≡ error_octets (get_or s 4 0)
      whole = split_at s 4 0 (omega arith) ∙ rw (head, drop_of_length-le s {i = 5} (omega arith)) refl

pub ruleset error_cases = (error_long, error_head, error_four, error_most, error_is)
