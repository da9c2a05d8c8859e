-- Laws of numbers as octets, over the width.
-- pow256, pow256_pos; value_append, value_snoc, value_bound, value_low; octets_length, octets_octets,
-- octets_high; value_mod, value_octets, octets_value; number_wide, number_outside, number_inside.
-- The definitions are in Number. Assumes nothing.
use Rattle.std.specs.Prelude.{ℕ, zero, suc, ◌+◌, ◌-◌, ◌*◌, ◌/◌, ◌%◌, ◌^◌, ◌≤◌, ◌<◌, ◌≡◌, refl, List, [], ◌∷◌, ◌++◌, Some, None, Bool, true, false, cond, leb, length, take, drop}
use Rattle.std.proofs.Common.{zero-mul, zero-add, mul_assoc, add-mul, add_assoc, mul-suc, pow-suc, mod-lt, mod-eq_of_lt, le_trans, le_of_eq, le-add_right, mul-le-mul_right, one-mul, arith, sym, ap, ap₂, subst, ◌∙◌, lit<, length-append, pow-add, le-leb, leb-true}
use Rattle.std.proofs.Math.Nat.{pow-succ', one-le-pow, mod-one, mul-add-div_right, mul-add-mod_self_right}
use Rattle.std.proofs.Math.Arith.{digits_lt, digits_div, mod-mul}
use Rattle.std.proofs.lemmas.Bool.{lt-leb}
use Rattle.octets.specs.Octets.{Octets}
use Rattle.octets.specs.Number.{value_of, octets_of, number_at}

-- an octet is eight bits
pub pow256 : (k : ℕ) → 256 ^ k ≡ 2 ^ (8 * k)
pow256 zero = refl
pow256 (suc k) =
    pow-suc 256 k ∙ ap (λ (x : ℕ). x * 256) (pow256 k) ∙ sym (pow-add 2 (8 * k) 8) ∙ ap (λ (x : ℕ). 2 ^ x) (sym (mul-suc 8 k))

pub pow256_pos : (k : ℕ) → 0 < 256 ^ k
pow256_pos k = one-le-pow k 256 (lit< tt)

-- the number of two lists that are joined
pub value_append : (s t : List ℕ) → value_of (s ++ t) ≡ value_of s * 256 ^ length t + value_of t
unfolding value_of
value_append [] t = sym (ap (λ (x : ℕ). x + value_of t) (zero-mul (256 ^ length t)) ∙ zero-add (value_of t))
value_append (x ∷ s) t =
    ap₂ (λ (p v : ℕ). x * p + v) (ap (λ (k : ℕ). 256 ^ k) (length-append s t) ∙ pow-add 256 (length s) (length t)) (value_append s t)
    ∙ sym
    (ap (λ (y : ℕ). y + value_of t) (add-mul (x * 256 ^ length s) (value_of s) (256 ^ length t))
    ∙ add_assoc (x * 256 ^ length s * 256 ^ length t) (value_of s * 256 ^ length t) (value_of t)
    ∙ ap (λ (y : ℕ). y + (value_of s * 256 ^ length t + value_of t)) (mul_assoc x (256 ^ length s) (256 ^ length t)))

-- one more octet at the end
pub value_snoc : (s : List ℕ) (x : ℕ) → value_of (s ++ (x ∷ [])) ≡ value_of s * 256 + x
unfolding value_of
value_snoc s x = value_append s (x ∷ []) ∙ omega arith

-- k octets stand for a number below 256 to the k
pub value_bound : (s : List ℕ) → Octets s → value_of s < 256 ^ length s
unfolding value_of
value_bound [] p = lit< tt
value_bound (x ∷ s) p = subst (λ (b : ℕ). x * 256 ^ length s + value_of s < b) (sym (pow-succ' 256 (length s))) (digits_lt p.0 (value_bound s p.1))

-- a first octet that is not zero
pub value_low : (x : ℕ) (s : List ℕ) → 0 < x → 256 ^ length s ≤ value_of (x ∷ s)
unfolding value_of
value_low x s h =
    le_trans (le_of_eq (sym (one-mul (256 ^ length s)))) (le_trans (mul-le-mul_right (256 ^ length s) h) (le-add_right (x * 256 ^ length s) (value_of s)))

-- as many octets as asked
pub octets_length : (w n : ℕ) → length (octets_of w n) ≡ w
unfolding octets_of
octets_length zero n = refl
octets_length (suc w) n = ap suc (octets_length w n)

-- each is one
pub octets_octets : (w n : ℕ) → Octets (octets_of w n)
unfolding octets_of
octets_octets zero n = tt
octets_octets (suc w) n = (mod-lt (n / 256 ^ w) (lit< tt), octets_octets w n)

-- what stands above the last w octets does not change them
pub octets_high : (w q r : ℕ) → octets_of w (q * 256 ^ w + r) ≡ octets_of w r
unfolding octets_of
octets_high zero q r = refl
octets_high (suc w) q r =
    let e : q * 256 ^ suc w ≡ q * 256 * 256 ^ w = ap (λ (b : ℕ). q * b) (pow-succ' 256 w) ∙ sym (mul_assoc q 256 (256 ^ w)) in
    let head : (q * 256 * 256 ^ w + r) / 256 ^ w % 256 ≡ r / 256 ^ w % 256 =
    ap (λ (y : ℕ). y % 256) (mul-add-div_right (pow256_pos w) (q * 256) r) ∙ mul-add-mod_self_right q 256 (r / 256 ^ w) in
    ap (λ (y : ℕ). ((y + r) / 256 ^ w % 256) ∷ octets_of w (y + r)) e
    ∙ ap₂ (λ (x : ℕ) (t : List ℕ). x ∷ t) head (octets_high w (q * 256) r)

-- the number of the w octets of n is what w octets hold of n
pub value_mod : (w n : ℕ) → value_of (octets_of w n) ≡ n % 256 ^ w
unfolding value_of octets_of
value_mod zero n = sym (mod-one n)
value_mod (suc w) n =
    ap₂ (λ (k v : ℕ). (n / 256 ^ w % 256) * 256 ^ k + v) (octets_length w n) (value_mod w n)
    ∙ sym (ap (λ (b : ℕ). n % b) (pow-succ' 256 w) ∙ mod-mul n (lit< tt) (pow256_pos w))

-- a number that w octets hold is the number of its w octets
pub value_octets : (w n : ℕ) → n < 256 ^ w → value_of (octets_of w n) ≡ n
value_octets w n h = value_mod w n ∙ mod-eq_of_lt h

-- a list of octets is the octets of its number
pub octets_value : (s : List ℕ) → Octets s → octets_of (length s) (value_of s) ≡ s
unfolding value_of octets_of
octets_value [] p = refl
octets_value (x ∷ s) p =
    ap₂
    (λ (y : ℕ) (t : List ℕ). y ∷ t)
    (ap (λ (y : ℕ). y % 256) (digits_div x (value_bound s p.1)) ∙ mod-eq_of_lt p.0)
    (octets_high (length s) x (value_of s) ∙ octets_value s p.1)

-- more than eight octets are not asked for
pub number_wide : (s : List ℕ) (at w : ℕ) → 8 < w → number_at s at w ≡ None
unfolding number_at
number_wide s at w h = rw (lt-leb w 8 h)

-- octets that would end outside
pub number_outside : (s : List ℕ) (at w : ℕ) → length s < at + w → number_at s at w ≡ None
unfolding number_at
number_outside s at w h = go (leb w 8) (leb at (length s)) refl
  where
    go : (t u : Bool) → leb at (length s) ≡ u → cond t (cond u (cond (leb w (length s - at)) (Some (value_of (take w (drop at s)))) None) None) None ≡ None
    go false u e = refl
    go true false e = refl
    go true true e = rw (lt-leb w (length s - at) (omega (arith, leb-true at (length s) e)))

-- octets that end inside
pub number_inside : (s : List ℕ) (at w : ℕ) → w ≤ 8 → at + w ≤ length s → number_at s at w ≡ Some (value_of (take w (drop at s)))
unfolding number_at
number_inside s at w h l = rw (le-leb w 8 h, le-leb at (length s) (omega arith), le-leb w (length s - at) (omega arith))
